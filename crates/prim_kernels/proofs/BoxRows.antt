-- Boxes of arrays of asked dims.
use Rattle.std.proofs.Common.{◌≡◌, sym, ◌∙◌, ap, arith, ℕ, length, List, [], ◌∷◌, true, false}
use Rattle.core_syntax.specs.declared.errors.TrapKind.TheVariants as trap
use Rattle.core_syntax.specs.Answer.{Answer, Traps}
use Rattle.core_syntax.specs.Arrays.{array}
use Rattle.core_syntax.specs.Delta.{gives_box, iota, reshaped}
use Rattle.core_syntax.specs.Fits.{forms}
use Rattle.core_syntax.specs.Lists.{product}
use Rattle.core_syntax.specs.Terms.{ShapeValue}
use Rattle.array_values.specs.Values.{Array}
use Rattle.array_values.specs.declared.value.Value.{Value}
use Rattle.prim_kernels.specs.Boxes.{cycled_atoms}
use Rattle.prim_kernels.specs.Kernels.{machine_atoms, places}

-- where dims are those of an array
when_formed : (ds : List ℕ) (a b : Answer Value) → forms ds ≡ true → elim (forms ds) as (λ x. Answer Value) [ true ↦ a | false ↦ b ] ≡ a
when_formed ds a b h = ap (λ x. elim x as (λ x. Answer Value) [ true ↦ a | false ↦ b ]) h

module _ (asked ds ds' : List ℕ) (content : Array) (atoms : List Value) (n : ℕ) (formed : forms ds ≡ true) (are : asked ≡ ds) (count : n ≡ product ds) (whole : content ≡ array ds' atoms) (dims : ds' ≡ ds) where
  pub iota_box : atoms ≡ places n → gives_box machine_atoms (ShapeValue ds) content ≡ iota machine_atoms asked
  iota_box h =
      ap (gives_box machine_atoms (ShapeValue ds)) (whole ∙ (λ i. array (dims i) ((h ∙ ap places count) i)))
      ∙ sym (when_formed ds (gives_box machine_atoms (ShapeValue ds) (array ds (places (product ds)))) (Traps trap.Size) formed) ∙ ap (iota machine_atoms) (sym are)

  pub reshape_box : (xs fill : List Value) → length fill ≡ 1 → atoms ≡ cycled_atoms xs fill n → gives_box machine_atoms (ShapeValue ds) content ≡ reshaped machine_atoms asked xs fill
  reshape_box xs [] one h = absurd (let f : ⊥ = omega (arith, one) in f)
  reshape_box xs (x ∷ x' ∷ fill) one h = absurd (let f : ⊥ = omega (arith, one) in f)
  reshape_box xs (x ∷ []) one h =
      ap (gives_box machine_atoms (ShapeValue ds)) (whole ∙ (λ i. array (dims i) ((h ∙ ap (cycled_atoms xs (x ∷ [])) count) i)))
      ∙ sym (when_formed ds (gives_box machine_atoms (ShapeValue ds) (array ds (cycled_atoms xs (x ∷ []) (product ds)))) (Traps trap.Size) formed) ∙ ap (λ q. reshaped machine_atoms q xs (x ∷ [])) (sym are)
