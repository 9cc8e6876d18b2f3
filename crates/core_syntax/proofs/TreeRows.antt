-- A list of trees in a tree stands for the list of what each stands for.
use Rattle.std.proofs.Common.{◌≡◌, refl, sym, ap, ◌∙◌, ℕ, zero, suc, ◌+◌, ◌<◌, arith, length, drop, slice_index_or, List, [], ◌∷◌}
use mathlib.Core.Former.{Count}
use Rattle.core_syntax.specs.declared.span.Span.{Span}
use Rattle.core_syntax.specs.declared.index.Index.{Index}
use Rattle.core_syntax.specs.declared.index.IndexForm.{IndexForm, Row_of-Index, end_of-Index, more_of-Index, items-the_row-Index, items_hidden-the_row-Index-0}
use Rattle.core_syntax.specs.declared.index.IndexForm.TheVariants.{Num, Var, Sum', Dims', Join', Sum, Dims, Join}
use Rattle.core_syntax.specs.Refine.{form_of, row_of, index_of, indices_of}
use Rattle.core_syntax.specs.Syntax as syntax

row_items : (n : _) (k : Row_of-Index n) → row_of k ≡ indices_of (items-the_row-Index n k)
row_items n end_of-Index = refl
row_items n (more_of-Index at form rest) = ap (λ is. syntax.more (form_of at form) is) (row_items _ rest)

-- the row of a form
abbrev row_in : IndexForm → (n : Count) × Row_of-Index n
row_in (Sum' _ row) = (_, row)
row_in (Dims' _ row) = (_, row)
row_in (Join' _ row) = (_, row)
row_in _ = (_, end_of-Index)

row_list : (xs : List Index) → row_of (row_in (Sum xs)).1 ≡ indices_of xs
row_list xs = row_items _ (row_in (Sum xs)).1 ∙ ap indices_of (items_hidden-the_row-Index-0 xs)

pub form_of_sum : (at : Span) (xs : List Index) → form_of at (Sum xs) ≡ syntax.Sum at (indices_of xs)
form_of_sum at xs = ap (syntax.Sum at) (row_list xs)

pub form_of_dims : (at : Span) (xs : List Index) → form_of at (Dims xs) ≡ syntax.Dims at (indices_of xs)
form_of_dims at xs = ap (syntax.Dims at) (row_list xs)

pub form_of_join : (at : Span) (xs : List Index) → form_of at (Join xs) ≡ syntax.Join at (indices_of xs)
form_of_join at xs = ap (syntax.Join at) (row_list xs)

-- the list behind a place, by its first item
pub indices_behind : (k : ℕ) (xs : List Index) (d : Index) → k < length xs → indices_of (drop k xs) ≡ syntax.more (index_of (slice_index_or xs k d)) (indices_of (drop (k + 1) xs))
indices_behind k [] d h = absurd (omega arith)
indices_behind zero (x ∷ xs) d h = refl
indices_behind (suc k) (x ∷ xs) d h =
    let at : suc k + 1 ≡ suc (k + 1) = omega arith in
    indices_behind k xs d (omega arith) ∙ ap (λ n. syntax.more (index_of (slice_index_or xs k d)) (indices_of (drop n (x ∷ xs)))) (sym at)

-- a tree stands where its syntax does
pub at_form : (at : Span) (form : IndexForm) → syntax.index_at (form_of at form) ≡ at
at_form at (Num n) = refl
at_form at (Var k) = refl
at_form at (Sum' s row) = refl
at_form at (Dims' s row) = refl
at_form at (Join' s row) = refl
