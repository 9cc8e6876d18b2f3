-- What a primitive gives, erased: primitives don't look at types.
use Rattle.std.proofs.Common.{◌≡◌, refl, sym, ◌∙◌, ap, List, [], ◌∷◌, Option, Some, None}
use Rattle.std.specs.Prelude.{option_map, ⊤}
use Rattle.core_syntax.specs.declared.norm.NormIndex.{NormIndex}
use Rattle.core_syntax.specs.declared.index.Sort.{Sort}
use Rattle.core_syntax.specs.declared.primitive.Primitive.{Primitive}
use Rattle.core_syntax.specs.Answer.{Answer, Gives, Traps, Folds, Unfit}
use Rattle.core_syntax.specs.Arrays.{Arrayed, array}
use Rattle.core_syntax.specs.Delta.{delta}
use Rattle.core_syntax.specs.Lists.{Each, each}
use Rattle.core_syntax.specs.Move.{Goes}
use Rattle.core_syntax.specs.Norm.{norm_word}
use Rattle.core_syntax.specs.Rules.{array_term, atom_rules, boxed, fold_term, reduce_term, fold_from, goes_fold, answered, values_of, dims_of, atoms_of}
use Rattle.core_syntax.specs.Sorts.{IsSorted}
use Rattle.core_syntax.specs.Syntax.{Index, Ty, Num, Var, Sum, Dims, Join}
use Rattle.core_syntax.specs.Terms.{Cell, TInt, TBool, TChar, TPrim, TFn, TTypeFn, TIndexFn, TBoxed, IndexValue, TApp, scalar_of, term_list}
use Rattle.core_syntax.specs.Typed.{typed, typed_rules, TypedTerm, atom_type, closed_value}
use Rattle.naturality.proofs.Delta.{delta_natural}
use Rattle.naturality.specs.Respects.{arr, answer, Respects}
use Rattle.erasure.specs.Erased.{erased_rules}
use Rattle.erasure.specs.Erasure.{er, er_cell, cell_word, norm_in}
use Rattle.core_syntax.specs.NormPut.{norm_letters_of, norm_value}
use Rattle.erasure.proofs.together.Applied.{move_map, er_dims, er_atoms}
use Rattle.erasure.proofs.together.Bodies.{er_values, erased_value}
use Rattle.reduction_laws.proofs.steps.Parts.{nowhere}
use Rattle.erasure.proofs.together.Rules.{er_array_term}

-- ---- atoms

-- an empty array or one with atoms, with the atoms erased
pub array_erased : (n : Ty) (a : Arrayed (Cell typed)) → er [] (array_term typed_rules n a) ≡ array_term erased_rules tt (arr (er_cell []) a)
array_erased n a = er_array_term [] n a.dims a.atoms

looks_alike : (r : Ty) (x : Cell typed) → (atom_rules erased_rules (cell_word r)).look (er_cell [] x) ≡ (atom_rules typed_rules r).look x
looks_alike r (TInt z) = refl
looks_alike r (TBool b) = refl
looks_alike r (TChar c) = refl
looks_alike r (TPrim q us is) = refl
looks_alike r (TFn i t) = refl
looks_alike r (TTypeFn n t) = refl
looks_alike r (TIndexFn ss t) = refl
looks_alike r (TBoxed is t u) = refl

box_erased : (b : Ty) (vs : List IndexValue) (a : Arrayed (Cell typed)) → er_cell [] (boxed typed_rules b vs a) ≡ boxed erased_rules tt vs (arr (er_cell []) a)
box_erased b vs a = λ i. TBoxed (er_values vs i) (array_erased (typed_rules.box_atom b vs) a i) tt

-- erasing atoms is nothing that a primitive notices
pub erasing_respects : (r : Ty) → Respects (er_cell []) (atom_rules typed_rules r) (atom_rules erased_rules (cell_word r))
erasing_respects r = record { looks = looks_alike r; ints = λ z. refl; bools = λ b. refl; boxes = box_erased (typed_rules.result_box r) }

-- ---- folds

-- an index is closed: it has a sort where there are no variables
abbrev pub IsClosedIndex : Index → Type 0
IsClosedIndex i = (q : Sort) × IsSorted [] q i

-- the indices that a primitive has are closed
abbrev pub AreClosed : Option (List Index) → Type 0
AreClosed None = ⊤
AreClosed (Some is) = Each IsClosedIndex is

-- the word of a closed index
word_erased : (q : Sort) (i : Index) → IsSorted [] q i → norm_letters_of (norm_in [] i) ≡ norm_word i
word_erased q (Num at n) h = refl
word_erased q (Var at k) h = absurd (nowhere k q h)
word_erased q (Sum at is) h = refl
word_erased q (Dims at is) h = refl
word_erased q (Join at is) h = refl

fold_erased : (f : Cell typed) (cs : List Index) (r : Ty) (acc : TypedTerm) (ts : List TypedTerm)
    → er [] (fold_term typed_rules f cs r acc ts) ≡ fold_term erased_rules (er_cell [] f) (each norm_word cs) (cell_word r) (er [] acc) (each (er []) ts)
fold_erased f cs r acc [] = refl
fold_erased f cs r acc (t ∷ ts) = fold_erased f cs r (TApp (scalar_of f) (term_list (acc ∷ t ∷ [])) cs r) ts

items_erased : (n : Ty) (xs : List (Arrayed (Cell typed))) → each (er []) (each (array_term typed_rules n) xs) ≡ each (array_term erased_rules tt) (each (arr (er_cell [])) xs)
items_erased n [] = refl
items_erased n (x ∷ xs) = λ i. array_erased n x i ∷ items_erased n xs i

-- `reduce`
reduce_erased : (f : Cell typed) (us : List Ty) (s : Index) (q : Sort) → IsSorted [] q s → (xs : List (Arrayed (Cell typed)))
    → move_map (er []) (reduce_term typed_rules f us s xs) ≡ reduce_term erased_rules (er_cell [] f) tt (norm_in [] s) (each (arr (er_cell [])) xs)
reduce_erased f us s q h [] = refl
reduce_erased f us s q h (x ∷ xs) =
    ap Goes
    (fold_erased f (s ∷ s ∷ []) (typed_rules.typed_result us 0 s) (array_term typed_rules (atom_type (typed_rules.typed_result us 0 s)) x) (each (array_term typed_rules (atom_type (typed_rules.typed_result us 0 s))) xs)
    ∙ λ i. fold_term erased_rules (er_cell [] f) (sym (word_erased q s h) i ∷ sym (word_erased q s h) i ∷ []) (sym (word_erased q s h) i)
    (array_erased (atom_type (typed_rules.typed_result us 0 s)) x i) (items_erased (atom_type (typed_rules.typed_result us 0 s)) xs i))

-- `fold`
from_erased : (f : Cell typed) (us : List Ty) (s r : Index) (p q : Sort) → IsSorted [] p s → IsSorted [] q r → (z : Arrayed (Cell typed)) (xs : List (Arrayed (Cell typed)))
    → move_map (er []) (fold_from typed_rules f us s r z xs) ≡ fold_from erased_rules (er_cell [] f) tt (norm_in [] s) (norm_in [] r) (arr (er_cell []) z) (each (arr (er_cell [])) xs)
from_erased f us s r p q h k z xs =
    ap Goes
    (fold_erased f (r ∷ s ∷ []) (typed_rules.typed_result us 1 r) (array_term typed_rules (atom_type (typed_rules.typed_result us 1 r)) z) (each (array_term typed_rules (atom_type (typed_rules.typed_result us 0 s))) xs)
    ∙ λ i. fold_term erased_rules (er_cell [] f) (sym (word_erased q r k) i ∷ sym (word_erased p s h) i ∷ []) (sym (word_erased q r k) i)
    (array_erased (atom_type (typed_rules.typed_result us 1 r)) z i) (items_erased (atom_type (typed_rules.typed_result us 0 s)) xs i))

-- the types and the indices that a primitive has, erased
abbrev pub types_erased : Option (List Ty) → Option (Unit {0})
types_erased us = option_map (λ u. tt) us

abbrev pub indices_erased : Option (List Index) → Option (List NormIndex)
indices_erased is = option_map (each (norm_in [])) is

-- either of them
goes_fold_erased : (us : Option (List Ty)) (is : Option (List Index)) → AreClosed is → (f : Cell typed) (z : Option (Arrayed (Cell typed))) (xs : List (Arrayed (Cell typed)))
    → move_map (er []) (goes_fold typed_rules us is f z xs)
    ≡ goes_fold erased_rules (types_erased us) (indices_erased is) (er_cell [] f) (option_map (arr (er_cell [])) z) (each (arr (er_cell [])) xs)
goes_fold_erased (Some us) (Some (d ∷ s ∷ [])) h f None xs = reduce_erased f us s h.1.0.0 h.1.0.1 xs
goes_fold_erased (Some us) (Some (d ∷ s ∷ r ∷ [])) h f (Some z) xs = from_erased f us s r h.1.0.0 h.1.1.0.0 h.1.0.1 h.1.1.0.1 z xs
goes_fold_erased None is h f z xs = refl
goes_fold_erased (Some us) None h f z xs = refl
goes_fold_erased (Some us) (Some []) h f z xs = refl
goes_fold_erased (Some us) (Some (d ∷ [])) h f z xs = refl
goes_fold_erased (Some us) (Some (d ∷ s ∷ [])) h f (Some z) xs = refl
goes_fold_erased (Some us) (Some (d ∷ s ∷ r ∷ [])) h f None xs = refl
goes_fold_erased (Some us) (Some (d ∷ s ∷ r ∷ j ∷ is)) h f z xs = refl

-- ---- answers

-- a primitive's answer as a move
pub answered_erased : (r : Ty) (us : Option (List Ty)) (is : Option (List Index)) → AreClosed is → (a : Answer (Cell typed))
    → move_map (er []) (answered typed_rules r us is a) ≡ answered erased_rules (cell_word r) (types_erased us) (indices_erased is) (answer (er_cell []) a)
answered_erased r us is h (Gives a) = ap Goes (array_erased (atom_type r) a)
answered_erased r us is h (Traps k) = refl
answered_erased r us is h (Folds f z xs) = goes_fold_erased us is h f z xs
answered_erased r us is h Unfit = refl

-- the values of closed indices
pub values_erased : (is : List Index) → Each IsClosedIndex is → each norm_value (each (norm_in []) is) ≡ each closed_value is
values_erased [] h = refl
values_erased (i ∷ is) h = λ j. erased_value h.0.0 i h.0.1 j ∷ values_erased is h.1 j

given_values : (is : Option (List Index)) → AreClosed is → values_of norm_value (indices_erased is) ≡ values_of closed_value is
given_values None h = refl
given_values (Some is) h = values_erased is h

-- the arguments
arguments_erased : (ts : List TypedTerm) → each (λ t. array (dims_of erased_rules t) (atoms_of erased_rules t)) (each (er []) ts) ≡ each (arr (er_cell [])) (each (λ t. array (dims_of typed_rules t) (atoms_of typed_rules t)) ts)
arguments_erased [] = refl
arguments_erased (t ∷ ts) = λ i. array (er_dims [] t i) (er_atoms [] t i) ∷ arguments_erased ts i

-- `delta`
pub delta_erased : (q : Primitive) (us : Option (List Ty)) (is : Option (List Index)) → AreClosed is → (ts : List TypedTerm) (r : Ty)
    → move_map (er []) (answered typed_rules r us is (delta (atom_rules typed_rules r) q (values_of closed_value is) (each (λ t. array (dims_of typed_rules t) (atoms_of typed_rules t)) ts)))
    ≡ answered erased_rules (cell_word r) (types_erased us) (indices_erased is)
    (delta (atom_rules erased_rules (cell_word r)) q (values_of norm_value (indices_erased is)) (each (λ t. array (dims_of erased_rules t) (atoms_of erased_rules t)) (each (er []) ts)))
delta_erased q us is h ts r =
    answered_erased r us is h (delta (atom_rules typed_rules r) q (values_of closed_value is) (each (λ t. array (dims_of typed_rules t) (atoms_of typed_rules t)) ts))
    ∙ ap (answered erased_rules (cell_word r) (types_erased us) (indices_erased is))
    (sym (delta_natural (er_cell []) (atom_rules typed_rules r) (atom_rules erased_rules (cell_word r)) (erasing_respects r) q (values_of closed_value is) (each (λ t. array (dims_of typed_rules t) (atoms_of typed_rules t)) ts))
    ∙ λ i. delta (atom_rules erased_rules (cell_word r)) q (sym (given_values is h) i) (sym (arguments_erased ts) i))
