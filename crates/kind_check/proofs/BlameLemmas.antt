-- The first ill-sorted place of the parts of an index, read part by part.
use Rattle.std.proofs.Common.{◌≡◌, refl, sym, ap, ◌∙◌, subst, ℕ, ◌+◌, ◌<◌, length, drop, slice_index_or, List, Bool, true, false, Option, Some, None}
use Rattle.core_syntax.specs.declared.span.Span.{Span}
use Rattle.core_syntax.specs.declared.index.Sort.{Sort}
use Rattle.core_syntax.specs.declared.index.Index.{Index}
use Rattle.core_syntax.specs.Refine.{index_of, indices_of}
use Rattle.core_syntax.specs.Sorts.{Refusal, own_sort, is_sort, first_of_two, refuse_unless, refused_at, own_blame}
use Rattle.core_syntax.specs.Syntax as syntax
use Rattle.core_syntax.proofs.TreeRows.{indices_behind, at_form}

pub behind : (k : ℕ) (xs : List Index) (d : Index) → k < length xs → indices_of (drop k xs) ≡ syntax.more (index_of (slice_index_or xs k d)) (indices_of (drop (k + 1) xs))
behind k xs d lt = indices_behind k xs d lt

-- what is found first, and what comes after nothing
pub found : (o later : Option Refusal) (r : Option Span) (at : Span) → refused_at r ≡ o → r ≡ Some at → Some (14, at) ≡ first_of_two o later
found o later r at p q = subst (λ x. Some (14, at) ≡ first_of_two x later) (ap refused_at (sym q) ∙ p) refl

pub passed : (o later : Option Refusal) (r : Option Span) → refused_at r ≡ o → r ≡ None → first_of_two o later ≡ later
passed o later r p q = subst (λ x. first_of_two x later ≡ later) (ap refused_at (sym q) ∙ p) refl

pub refuse : (b : Bool) (n : ℕ) (at : Span) (later : Option Refusal) → b ≡ false → Some (n, at) ≡ first_of_two (refuse_unless b n at) later
refuse false n at later e = refl
refuse true n at later e = absurd (cc)

pub pass : (b : Bool) (n : ℕ) (at : Span) (later : Option Refusal) → b ≡ true → first_of_two (refuse_unless b n at) later ≡ later
pass true n at later e = refl
pass false n at later e = absurd (cc)

-- the first of the parts behind a place is of another sort
pub other_found : (sorts : List Sort) (s : Sort) (xs : List Index) (k : ℕ) (i : Index) → k < length xs → i ≡ slice_index_or xs k i
    → is_sort s (own_sort sorts (index_of i)) ≡ false → Some (14, i.at) ≡ own_blame sorts s (indices_of (drop k xs))
other_found sorts s xs k i lt e other =
    rw (indices_behind k xs i lt, ← e)
    (subst (λ at. Some (14, i.at) ≡ first_of_two (refuse_unless (is_sort s (own_sort sorts (index_of i))) 14 at) (own_blame sorts s (indices_of (drop (k + 1) xs)))) (sym (at_form i.at i.form))
    (refuse (is_sort s (own_sort sorts (index_of i))) 14 i.at _ other))
