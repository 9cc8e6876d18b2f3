-- The parts of normal types that are measured.
use Rattle.std.proofs.Common.{◌≡◌, ◌⊎◌, ◌∙◌, refl, sym, ap, subst, ℕ, ◌+◌, ◌<◌, ◌≤◌, arith, List, [], ◌∷◌, length, Bool, true, false, ◌||◌, Option, Some, None, inl, inr}
use Rattle.std.proofs.lemmas.Bool.{cases_lt}
use Rattle.core_syntax.specs.declared.span.Span.{Span}
use Rattle.core_syntax.specs.declared.index.Sort.{Sort}
use Rattle.core_syntax.specs.declared.index.Index.{Index as IndexTree}
use Rattle.core_syntax.specs.declared.ty.Ty.{Ty as Tree}
use Rattle.core_syntax.specs.declared.ty.TyForm as tree
use Rattle.core_syntax.specs.Syntax.{Index, Ty, Forall, Pi, Sigma, Arr, no_span}
use Rattle.core_syntax.specs.Norm.{norm_word, word_tree, has_large, measured}
use Rattle.core_syntax.specs.NormTypes.{norm_ty, measure_ty, ty_has_large, ty_size, ty_depth}
use Rattle.core_syntax.specs.Refine.{ty_of, index_of}
use Rattle.core_syntax.specs.Lists.{each}
use Rattle.core_syntax.proofs.TyRows.{is_arr, is_forall, is_pi, is_sigma}
use Rattle.type_equal.proofs.MeasureLemmas.{none_large, none_wide, measured_depth, measured_none}

some_no : (n : ℕ) → ◌≡◌ {A = Option ℕ} (Some n) None → ⊥
some_no n e = cc

none_deep : (large : Bool) (size depth : ℕ) → measured large size depth ≡ None → depth ≤ 512
none_deep large size depth e = by (cases_lt 512 depth)
  where
    by : (512 < depth) ⊎ (depth ≤ 512) → depth ≤ 512
    by (inl lt) = absurd (some_no 16 (measured_depth large size depth (none_large large size depth e) (none_wide large size depth e) lt ∙ e))
    by (inr le) = le

left_false : (a b : Bool) → (a || b) ≡ false → a ≡ false
left_false true b e = e
left_false false b e = refl

right_false : (a b : Bool) → (a || b) ≡ false → b ≡ false
right_false true b e = cc
right_false false b e = e

-- a part of a measured type fits
part_fits : (large large' : Bool) (size size' depth depth' : ℕ) → measured large size depth ≡ None → large' ≡ false → size' ≤ size → depth' ≤ depth → measured large' size' depth' ≡ None
part_fits large large' size size' depth depth' e small le less =
    let wide = none_wide large size depth e in
    let deep = none_deep large size depth e in
    sym (measured_none large' size' depth' small (omega arith) (omega arith))

-- an array type of universal types, normal and measured
pub record ForallForm (t : Ty) (n : ℕ) (b : Ty) (s : Index) : Type 0 where
  pub is : t ≡ Arr no_span (Forall no_span n b) s
  pub normal : norm_ty b ≡ b
  pub fits : measure_ty b ≡ None
  pub small : has_large (norm_word s) ≡ false
  pub few : n ≤ 16384

pub forall_form : (at place : Span) (t u : Ty) (n : ℕ) (b : Ty) (s : Index) → t ≡ Arr at u s → u ≡ Forall place n b → norm_ty t ≡ t → measure_ty t ≡ None → ForallForm t n b s
forall_form at place t u n b s e f normal fits = record {
  is = whole ∙ λ i. Arr (at_is i) (Forall (place_is i) n b) s;
  normal = body;
  fits = part_fits (ty_has_large b || has_large (norm_word s)) (ty_has_large b) (ty_size (Arr at (Forall place n b) s)) (ty_size b) (1 + (1 + ty_depth b)) (ty_depth b) none (left_false _ _ large) (omega arith) (omega arith);
  small = right_false (ty_has_large b) (has_large (norm_word s)) large;
  few = let wide = none_wide (ty_has_large b || has_large (norm_word s)) (ty_size (Arr at (Forall place n b) s)) (1 + (1 + ty_depth b)) none in omega arith;
}
  where
    whole : t ≡ Arr at (Forall place n b) s
    whole = e ∙ ap (λ u. Arr at u s) f

    both : Arr no_span (Forall no_span n (norm_ty b)) (word_tree (norm_word s)) ≡ Arr at (Forall place n b) s
    both = subst (λ t. norm_ty t ≡ t) whole normal

    at_is : at ≡ no_span
    at_is = cc

    place_is : place ≡ no_span
    place_is = cc

    body : norm_ty b ≡ b
    body = cc

    none : measured (ty_has_large b || has_large (norm_word s)) (ty_size (Arr at (Forall place n b) s)) (1 + (1 + ty_depth b)) ≡ None
    none = subst (λ t. measure_ty t ≡ None) whole fits

    large : (ty_has_large b || has_large (norm_word s)) ≡ false
    large = none_large (ty_has_large b || has_large (norm_word s)) (ty_size (Arr at (Forall place n b) s)) (1 + (1 + ty_depth b)) none

pub record PiForm (t : Ty) (ss : List Sort) (b : Ty) (s : Index) : Type 0 where
  pub is : t ≡ Arr no_span (Pi no_span ss b) s
  pub normal : norm_ty b ≡ b
  pub fits : measure_ty b ≡ None
  pub small : has_large (norm_word s) ≡ false
  pub few : length ss ≤ 16384

pub pi_form : (at place : Span) (t u : Ty) (ss : List Sort) (b : Ty) (s : Index) → t ≡ Arr at u s → u ≡ Pi place ss b → norm_ty t ≡ t → measure_ty t ≡ None → PiForm t ss b s
pi_form at place t u ss b s e f normal fits = record {
  is = whole ∙ λ i. Arr (at_is i) (Pi (place_is i) ss b) s;
  normal = body;
  fits = part_fits (ty_has_large b || has_large (norm_word s)) (ty_has_large b) (ty_size (Arr at (Pi place ss b) s)) (ty_size b) (1 + (1 + ty_depth b)) (ty_depth b) none (left_false _ _ large) (omega arith) (omega arith);
  small = right_false (ty_has_large b) (has_large (norm_word s)) large;
  few = let wide = none_wide (ty_has_large b || has_large (norm_word s)) (ty_size (Arr at (Pi place ss b) s)) (1 + (1 + ty_depth b)) none in omega arith;
}
  where
    whole : t ≡ Arr at (Pi place ss b) s
    whole = e ∙ ap (λ u. Arr at u s) f

    both : Arr no_span (Pi no_span ss (norm_ty b)) (word_tree (norm_word s)) ≡ Arr at (Pi place ss b) s
    both = subst (λ t. norm_ty t ≡ t) whole normal

    at_is : at ≡ no_span
    at_is = cc

    place_is : place ≡ no_span
    place_is = cc

    body : norm_ty b ≡ b
    body = cc

    none : measured (ty_has_large b || has_large (norm_word s)) (ty_size (Arr at (Pi place ss b) s)) (1 + (1 + ty_depth b)) ≡ None
    none = subst (λ t. measure_ty t ≡ None) whole fits

    large : (ty_has_large b || has_large (norm_word s)) ≡ false
    large = none_large (ty_has_large b || has_large (norm_word s)) (ty_size (Arr at (Pi place ss b) s)) (1 + (1 + ty_depth b)) none

pub record SigmaForm (t : Ty) (ss : List Sort) (b : Ty) (s : Index) : Type 0 where
  pub is : t ≡ Arr no_span (Sigma no_span ss b) s
  pub normal : norm_ty b ≡ b
  pub fits : measure_ty b ≡ None
  pub small : has_large (norm_word s) ≡ false
  pub few : length ss ≤ 16384

pub sigma_form : (at place : Span) (t u : Ty) (ss : List Sort) (b : Ty) (s : Index) → t ≡ Arr at u s → u ≡ Sigma place ss b → norm_ty t ≡ t → measure_ty t ≡ None → SigmaForm t ss b s
sigma_form at place t u ss b s e f normal fits = record {
  is = whole ∙ λ i. Arr (at_is i) (Sigma (place_is i) ss b) s;
  normal = body;
  fits = part_fits (ty_has_large b || has_large (norm_word s)) (ty_has_large b) (ty_size (Arr at (Sigma place ss b) s)) (ty_size b) (1 + (1 + ty_depth b)) (ty_depth b) none (left_false _ _ large) (omega arith) (omega arith);
  small = right_false (ty_has_large b) (has_large (norm_word s)) large;
  few = let wide = none_wide (ty_has_large b || has_large (norm_word s)) (ty_size (Arr at (Sigma place ss b) s)) (1 + (1 + ty_depth b)) none in omega arith;
}
  where
    whole : t ≡ Arr at (Sigma place ss b) s
    whole = e ∙ ap (λ u. Arr at u s) f

    both : Arr no_span (Sigma no_span ss (norm_ty b)) (word_tree (norm_word s)) ≡ Arr at (Sigma place ss b) s
    both = subst (λ t. norm_ty t ≡ t) whole normal

    at_is : at ≡ no_span
    at_is = cc

    place_is : place ≡ no_span
    place_is = cc

    body : norm_ty b ≡ b
    body = cc

    none : measured (ty_has_large b || has_large (norm_word s)) (ty_size (Arr at (Sigma place ss b) s)) (1 + (1 + ty_depth b)) ≡ None
    none = subst (λ t. measure_ty t ≡ None) whole fits

    large : (ty_has_large b || has_large (norm_word s)) ≡ false
    large = none_large (ty_has_large b || has_large (norm_word s)) (ty_size (Arr at (Sigma place ss b) s)) (1 + (1 + ty_depth b)) none

-- a measured dependent sum
pub sum_fits : (place : Span) (ss : List Sort) (b : Ty) → measure_ty (Sigma place ss b) ≡ None → measure_ty b ≡ None
sum_fits place ss b e =
    part_fits (ty_has_large b) (ty_has_large b) (ty_size (Sigma place ss b)) (ty_size b) (1 + ty_depth b) (ty_depth b) e (none_large (ty_has_large b) (ty_size (Sigma place ss b)) (1 + ty_depth b) e) (omega arith) (omega arith)

pub sum_few : (place : Span) (ss : List Sort) (b : Ty) → measure_ty (Sigma place ss b) ≡ None → length ss ≤ 16384
sum_few place ss b e = let wide = none_wide (ty_has_large b) (ty_size (Sigma place ss b)) (1 + ty_depth b) e in omega arith

-- ---- read from trees

pub array_read : (whole now elem u : Tree) (frame : IndexTree) → now ≡ whole → now.form ≡ tree.Arr elem frame → u ≡ elem → ty_of whole ≡ Arr now.at (ty_of u) (index_of frame)
array_read whole now elem u frame e f g = ap ty_of (sym e) ∙ is_arr now elem u frame g f

pub forall_read : (whole now elem u b b' : Tree) (frame : IndexTree) (n : ℕ) → now ≡ whole → norm_ty (ty_of now) ≡ ty_of now → measure_ty (ty_of now) ≡ None
    → now.form ≡ tree.Arr elem frame → u ≡ elem → u.form ≡ tree.Forall n b → b' ≡ b → ForallForm (ty_of whole) n (ty_of b') (index_of frame)
forall_read whole now elem u b b' frame n e normal fits f g h k =
    forall_form now.at u.at (ty_of whole) (ty_of u) n (ty_of b') (index_of frame) (array_read whole now elem u frame e f g) (is_forall u n b b' k h)
    (subst (λ t. norm_ty (ty_of t) ≡ ty_of t) e normal) (subst (λ t. measure_ty (ty_of t) ≡ None) e fits)

pub pi_read : (whole now elem u b b' : Tree) (frame : IndexTree) (ss rs : List Sort) → now ≡ whole → norm_ty (ty_of now) ≡ ty_of now → measure_ty (ty_of now) ≡ None
    → now.form ≡ tree.Arr elem frame → u ≡ elem → u.form ≡ tree.Pi ss b → rs ≡ ss → b' ≡ b → PiForm (ty_of whole) rs (ty_of b') (index_of frame)
pi_read whole now elem u b b' frame ss rs e normal fits f g h k l =
    pi_form now.at u.at (ty_of whole) (ty_of u) rs (ty_of b') (index_of frame) (array_read whole now elem u frame e f g) (is_pi u ss rs b b' k l h)
    (subst (λ t. norm_ty (ty_of t) ≡ ty_of t) e normal) (subst (λ t. measure_ty (ty_of t) ≡ None) e fits)

pub sigma_read : (whole now elem u b b' : Tree) (frame : IndexTree) (ss rs : List Sort) → now ≡ whole → norm_ty (ty_of now) ≡ ty_of now → measure_ty (ty_of now) ≡ None
    → now.form ≡ tree.Arr elem frame → u ≡ elem → u.form ≡ tree.Sigma ss b → rs ≡ ss → b' ≡ b → SigmaForm (ty_of whole) rs (ty_of b') (index_of frame)
sigma_read whole now elem u b b' frame ss rs e normal fits f g h k l =
    sigma_form now.at u.at (ty_of whole) (ty_of u) rs (ty_of b') (index_of frame) (array_read whole now elem u frame e f g) (is_sigma u ss rs b b' k l h)
    (subst (λ t. norm_ty (ty_of t) ≡ ty_of t) e normal) (subst (λ t. measure_ty (ty_of t) ≡ None) e fits)

-- what a tree is that is read as a normal type
pub normal_read : (whole now : Tree) → now ≡ whole → norm_ty (ty_of now) ≡ ty_of now → norm_ty (ty_of whole) ≡ ty_of whole
normal_read whole now e normal = subst (λ t. norm_ty (ty_of t) ≡ ty_of t) e normal

pub length_each : {A B : Type 0} (f : A → B) (xs : List A) → length (each f xs) ≡ length xs
length_each f [] = refl
length_each f (x ∷ xs) = let e = length_each f xs in omega arith
