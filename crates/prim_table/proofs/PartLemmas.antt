-- The array types of inputs, made one by one.
use Rattle.std.proofs.Common.{◌≡◌, ◌∙◌, refl, sym, ap, ℕ, zero, suc, ◌+◌, ◌<◌, arith, length, take, slice_index_or, List, [], ◌∷◌, ◌++◌}
use Rattle.core_syntax.specs.declared.ty.Ty.{Ty as Tree}
use Rattle.core_syntax.specs.Lists.{each}
use Rattle.core_syntax.specs.Refine.{ty_of, tys_of}
use Rattle.core_syntax.specs.Syntax.{Ty, Tys, no_tys, more_tys, ty_list}
use Rattle.prim_table.specs.declared.parts.Part.{Part}
use Rattle.prim_table.specs.Parts.{part_of}

-- a list of types with one more at its end
abbrev tys_then : Tys → Ty → Tys
tys_then no_tys u = more_tys u no_tys
tys_then (more_tys t ts) u = more_tys t (tys_then ts u)

then_tys : (xs : List Tree) (x : Tree) → tys_of (xs ++ x ∷ []) ≡ tys_then (tys_of xs) (ty_of x)
then_tys [] x = refl
then_tys (y ∷ xs) x = ap (more_tys (ty_of y)) (then_tys xs x)

then_part : (xs : List Part) (k : ℕ) (d : Part) → k < length xs →
    ty_list (each part_of (take (k + 1) xs)) ≡ tys_then (ty_list (each part_of (take k xs))) (part_of (slice_index_or xs k d))
then_part [] k d h = absurd (omega arith)
then_part (x ∷ xs) zero d h = refl
then_part (x ∷ xs) (suc k) d h =
    let at : suc k + 1 ≡ suc (k + 1) = omega arith in
    ap (λ n. ty_list (each part_of (take n (x ∷ xs)))) at ∙ ap (more_tys (part_of x)) (then_part xs k d (omega arith))

pub one_part_more : (parts : List Part) (types new : List Tree) (k : ℕ) (d : Part) (t : Tree) → k < length parts →
    new ≡ types ++ t ∷ [] → ty_of t ≡ part_of (slice_index_or parts k d) →
    tys_of types ≡ ty_list (each part_of (take k parts)) → tys_of new ≡ ty_list (each part_of (take (k + 1) parts))
one_part_more parts types new k d t lt e is before =
    ap tys_of e ∙ then_tys types t ∙ (λ i. tys_then (before i) (is i)) ∙ sym (then_part parts k d lt)
