-- The number at a place of index arguments.
use Rattle.std.proofs.Common.{◌≡◌, refl, sym, ◌∙◌, ap, ℕ, zero, suc, ◌<◌, ◌≤◌, arith, length, get_or, List, [], ◌∷◌}
use Rattle.core_syntax.specs.Delta.{number_at}
use Rattle.core_syntax.specs.Lists.{each}
use Rattle.core_syntax.specs.Terms as term
use Rattle.core_syntax.specs.Terms.{DimValue, ShapeValue}
use Rattle.array_values.specs.Envs.{index_data}
use Rattle.array_values.specs.declared.index_value.IndexValue.{IndexValue}

number_next : (v : term.IndexValue) (vs : List term.IndexValue) (k : ℕ) → number_at (v ∷ vs) (suc k) ≡ number_at vs k
number_next (DimValue n) vs k = refl
number_next (ShapeValue s) vs k = refl

number_here : (v : term.IndexValue) (vs ws : List term.IndexValue) → number_at (v ∷ vs) 0 ≡ number_at (v ∷ ws) 0
number_here (DimValue n) vs ws = refl
number_here (ShapeValue s) vs ws = refl

pub number_past : (is : List IndexValue) (k : ℕ) → length is ≤ k → 0 ≡ number_at (each index_data is) k
number_past [] k h = refl
number_past (i ∷ is) zero h = absurd (let f : ⊥ = omega (arith, h) in f)
number_past (i ∷ is) (suc k) h = number_past is k (omega arith) ∙ sym (number_next (index_data i) (each index_data is) k)

pub number_found : (is : List IndexValue) (k : ℕ) (x : IndexValue) → k < length is → x ≡ get_or is k x → number_at (index_data x ∷ []) 0 ≡ number_at (each index_data is) k
number_found [] k x h e = absurd (let f : ⊥ = omega (arith, h) in f)
number_found (i ∷ is) zero x h e = ap (λ x. number_at (index_data x ∷ []) 0) e ∙ number_here (index_data i) [] (each index_data is)
number_found (i ∷ is) (suc k) x h e = number_found is k x (omega arith) e ∙ sym (number_next (index_data i) (each index_data is) k)
