-- What the rule of applications gives: the principal frame, the type and the notes.
use Rattle.std.proofs.Common.{◌≡◌, ◌≢◌, refl, sym, ap, ◌∙◌, subst, ℕ, zero, suc, ◌<◌, arith, List, [], ◌∷◌, ◌++◌, All, map, length, get_or, Option, None, Some, Result, Bool, true, false, true≢false, inl, inr}
use Rattle.std.specs.Prelude.{slice_get}
use Rattle.std.proofs.lemmas.Option.{slice_get_within, slice_get-get_or, get_or_from_slice_get}
use Rattle.std.proofs.lemmas.List.Elements.{All-nil, All-cons}
use Rattle.std.proofs.lemmas.List.{get_or-map}
use Rattle.core_syntax.specs.declared.span.Span.{Span}
use Rattle.core_syntax.specs.declared.ty.Ty.{Ty as TyTree}
use Rattle.core_syntax.specs.Refine.{tys_of}
use Rattle.core_syntax.specs.declared.index.Sort.{Sort}
use Rattle.core_syntax.specs.declared.index.Sort.TheVariants as sort
use Rattle.core_syntax.specs.Syntax.{Index, no_span, Ty, Arr, Fun, Forall, Pi, Sigma, BaseTy, TyVar, Tys, no_tys, more_tys, ty_items, Expr, expr_at, App, Exprs, expr_items}
use Rattle.core_syntax.specs.Lists.{each, Each}
use Rattle.core_syntax.specs.Sorts.{IsSorted, Refusal}
use Rattle.core_syntax.specs.Kinds.{IsWellFormed}
use Rattle.core_syntax.specs.Made.{IsArray, HoldsArrays}
use Rattle.core_syntax.specs.Value.{SameShape, IsPrefix, then_shape, shape_val}
use Rattle.core_syntax.specs.TypeEqual.{Same}
use Rattle.core_syntax.specs.Word.{Word}
use Rattle.core_syntax.specs.Norm.{norm_word, word_tree}
use Rattle.core_syntax.specs.Prims.{array_of}
use Rattle.core_syntax.specs.Typing.{Context, Has, ArgsHave, IsPrincipal}
use Rattle.core_syntax.specs.Blame.{premises, expr_premises, args_premises, IsFunction}
use Rattle.core_syntax.specs.Notes.{NodeNote, NotesAre, app_note}
use Rattle.core_syntax.proofs.Equality.{same_refl, all_same_refl}
use Rattle.core_syntax.specs.NormTypes.{norm_ty, norm_tys}
use Rattle.core_syntax.specs.Made.{AreArrays}
use Rattle.core_syntax.proofs.NormTyLemmas.{word_tree_value}
use Rattle.core_syntax.proofs.NormValues.{norm_word_value}
use Rattle.core_syntax.proofs.Unique.{wholes_agree}
use Rattle.core_syntax.proofs.Closed.{has_same}
use Rattle.frame_rule.specs.Principal.{HasAll, IsPrincipal as IsFirst}
use Rattle.type_check.specs.declared.refusal.TypeRefusal.{TypeRefusal}
use Rattle.type_check.specs.Contexts.{IsSound, IsSoundAtom}
use Rattle.type_check.specs.Found.{Refuses, Found, Concludes}
use Rattle.type_check.specs.declared.concluded.Concluded.{Concluded}
use Rattle.type_check.specs.FoundParts.{FoundArgs}
use Rattle.type_check.specs.Forms.{IsFramed, is_fun, IsFunctionOf, Follows}
use Rattle.type_check.proofs.normal_forms.NormSound.{shape_again_sorted}
use Rattle.type_check.proofs.exits.Refusing.{refused_as}
use Rattle.frame_rule.proofs.PrincipalLemmas.{principal_indices}
use Rattle.type_check.proofs.trees.ArrayLemmas.{array_sound, then_sorted, framed_one}

-- ---- the principal frame

each_all : {A : Type 0} (P : A → Type 0) (xs : List A) → All P xs → Each P xs
each_all P [] h = tt
each_all P (x ∷ xs) h = (h 0 x (omega arith), each_all P xs (λ k d lt. h (suc k) d (omega (arith, lt))))

all_each : {A : Type 0} (P : A → Type 0) (xs : List A) → Each P xs → All P xs
all_each P [] h = All-nil P
all_each P (x ∷ xs) h = All-cons P x xs h.0 (all_each P xs h.1)

pub each_map : {A B : Type 0} (f : A → B) (xs : List A) → each f xs ≡ map f xs
each_map f [] = refl
each_map f (x ∷ xs) = ap (λ l. f x ∷ l) (each_map f xs)

-- where the frame rule finds a place, the frame there is principal
pub principal_at : (Γ : Context) (all : List Index) (k : ℕ) (d : Index) → IsFirst (IsPrefix Γ.sorts) all (Some k) → IsPrincipal Γ all (get_or all k d)
principal_at Γ all k d (lt, has, first) = (k, slice_get-get_or all k d lt, each_all (λ q. IsPrefix Γ.sorts q (get_or all k d)) all (has d))

-- where it finds none, no frame is
pub no_principal : (Γ : Context) (all : List Index) → IsFirst (IsPrefix Γ.sorts) all None → ¬ ((p : Index) × IsPrincipal Γ all p)
no_principal Γ all none (p, (k, at, prefixes)) =
    none k p (slice_get_within all k p at)
    (subst (HasAll (IsPrefix Γ.sorts) all) (sym (get_or_from_slice_get all k p p at)) (all_each (λ q. IsPrefix Γ.sorts q p) all prefixes))

-- ---- refusals

module _ (Γ : Context) (at : Span) (f : Expr) (es : Exprs) where
  -- the function's
  pub function_refused : (r : TypeRefusal) → Refuses (expr_premises Γ f) r → Refuses (expr_premises Γ (App at f es)) r
  function_refused r h = refused_as (expr_premises Γ f) (expr_premises Γ (App at f es)) (λ q b. inl (inl b)) r h

  -- the function's type is of another form
  pub no_function : (t : Ty) (ns : List NodeNote) → Found Γ f t ns → ¬ IsFunction t → (expr_premises Γ (App at f es)).blames (19, expr_at f)
  no_function t ns found not = inl (inr (found.met, (t, found.has, inl (not, refl))))

  module _ (at' at'' : Span) (ts : Tys) (r : Ty) (s : Index) (ns : List NodeNote) (found : Found Γ f (Arr at' (Fun at'' ts r) s) ns) where
    -- the number of arguments is another
    pub other_count : length (ty_items ts) ≢ length (expr_items es) → (expr_premises Γ (App at f es)).blames (20, at)
    other_count ne = inl (inr (found.met, (Arr at' (Fun at'' ts r) s, found.has, inr (tt, inl (ne, refl)))))

    module _ (count : length (ty_items ts) ≡ length (expr_items es)) where
      -- an argument's
      pub argument_refused : (q : TypeRefusal) → Refuses (args_premises Γ es ts) q → Refuses (expr_premises Γ (App at f es)) q
      argument_refused q h =
          refused_as (args_premises Γ es ts) (expr_premises Γ (App at f es))
          (λ _ b. inl (inr (found.met, (Arr at' (Fun at'' ts r) s, found.has, inr (tt, inr (count, inl b)))))) q h

      -- no frame is principal
      pub no_frame : (words : List Word) (ms : List NodeNote) (args : FoundArgs Γ ts es words ms) → ¬ ((p : Index) × IsPrincipal Γ (s ∷ args.frames) p) →
          (expr_premises Γ (App at f es)).blames (22, at)
      no_frame words ms args not =
          inl (inr (found.met, (Arr at' (Fun at'' ts r) s, found.has, inr (tt, inr (count, inr (args.met, (args.frames, args.have, (not, refl))))))))

-- ---- the type and the notes: the result type is an array of a of shape c, and w is the word of the principal frame

module _ (Γ : Context) (at : Span) (f : Expr) (es : Exprs) (at' at'' at₂ : Span) (ts : Tys) (a : Ty) (s c : Index) (ns ms : List NodeNote) (words : List Word)
    (found : Found Γ f (Arr at' (Fun at'' ts (Arr at₂ a c)) s) ns) (count : length (ty_items ts) ≡ length (expr_items es)) (args : FoundArgs Γ ts es words ms)
    (p : Index) (principal : IsPrincipal Γ (s ∷ args.frames) p) where
  function_has : Has Γ f (array_of (Fun no_span ts (Arr at₂ a c)) s)
  function_has =
      has_same Γ f (Arr at' (Fun at'' ts (Arr at₂ a c)) s) (array_of (Fun no_span ts (Arr at₂ a c)) s) found.has
      ((all_same_refl ts, (same_refl a, λ v. refl)), λ v. refl) found.sound.formed

  pub app_met : (premises Γ (App at f es)).met
  app_met = (found.met, (Arr at' (Fun at'' ts (Arr at₂ a c)) s, found.has, (tt, (count, (args.met, (args.frames, args.have, (p, principal)))))))

  cell_sound : IsSoundAtom Γ a
  cell_sound = record { formed = found.sound.formed.2.1.2; top = found.sound.formed.2.1.0; inside = found.sound.inside.2 }

  cell_sorted : IsSorted Γ.sorts sort.Shape c
  cell_sorted = found.sound.formed.2.1.1

  frame_sorted : IsSorted Γ.sorts sort.Shape p
  frame_sorted = sorted_at (s ∷ args.frames) principal.0 p principal.1 (found.sound.formed.1, args.sorted)
    where
      sorted_at : (all : List Index) (k : ℕ) (p : Index) → slice_get all k ≡ Some p → Each (IsSorted Γ.sorts sort.Shape) all → IsSorted Γ.sorts sort.Shape p
      sorted_at all k p e h =
          subst (IsSorted Γ.sorts sort.Shape) (get_or_from_slice_get all k p p e) (all_each (IsSorted Γ.sorts sort.Shape) all h k p (slice_get_within all k p e))

  pub app_has : Has Γ (App at f es) (array_of a (then_shape p c))
  app_has = (
    ts,
    Arr at₂ a c,
    s,
    function_has,
    (
      args.frames,
      args.have,
      (
        p,
        principal,
        ((cell_sound.top, then_sorted Γ.sorts p c frame_sorted cell_sorted, cell_sound.formed), same_refl (array_of a (then_shape p c))),
      ),
    ),
  )

  module _ (w : Word) (is : norm_word p ≡ w) where
    pub app_same : Same (array_of a (then_shape p c)) (array_of a (then_shape (word_tree w) c))
    app_same = (same_refl a, wholes_agree p (word_tree w) c c again (λ v. refl))
      where
        again : SameShape p (word_tree w)
        again v = sym (norm_word_value v p) ∙ sym (word_tree_value v (norm_word p)) ∙ ap (λ w. shape_val v (word_tree w)) is

    pub app_sound : IsSound Γ.types Γ.sorts (array_of a (then_shape (word_tree w) c))
    app_sound =
        array_sound Γ a (then_shape (word_tree w) c) cell_sound
        (then_sorted Γ.sorts (word_tree w) c (subst (λ w. IsSorted Γ.sorts sort.Shape (word_tree w)) is (shape_again_sorted Γ.sorts p frame_sorted)) cell_sorted)

  pub app_notes : (n : NodeNote) → n ≡ app_note ts (Arr at₂ a c) → NotesAre Γ (App at f es) (n ∷ (ns ++ ms))
  app_notes n e = (ts, Arr at₂ a c, s, function_has, (e, (ns, ms, refl, found.notes, args.notes)))

-- ---- function types by their parts

-- an array of atoms of another form holds no functions
pub not_function : (t : Ty) (at : Span) (a : Ty) (s : Index) → t ≡ Arr at a s → is_fun a ≡ false → ¬ IsFunction t
not_function t at a s e h f = other a h (subst IsFunction e f)
  where
    other : (a : Ty) → is_fun a ≡ false → ¬ IsFunction (Arr at a s)
    other (BaseTy at' b) h f = f
    other (TyVar at' k) h f = f
    other (Fun at' ts r) h f = true≢false h
    other (Forall at' n u) h f = f
    other (Pi at' ss u) h f = f
    other (Sigma at' ss u) h f = f
    other (Arr at' u i) h f = f

pub function_is : (t : Ty) (at at' : Span) (a : Ty) (ts : Tys) (r : Ty) (s : Index) → t ≡ Arr at a s → a ≡ Fun at' ts r → IsFunctionOf t ts r s
function_is t at at' a ts r s e f = (at, at', e ∙ ap (λ a. Arr at a s) f)

-- what stands in a sound function type is an array type, and what stands in a normal one is normal
pub function_arrays : (types : ℕ) (sorts : List Sort) (t : Ty) (ts : Tys) (r : Ty) (s : Index) → IsFunctionOf t ts r s → IsSound types sorts t → AreArrays ts × IsArray r
function_arrays types sorts t ts r s (at, at', e) sound = let h = (subst (IsSound types sorts) e sound).inside in (h.0, h.1)

pub function_normal : (t : Ty) (ts : Tys) (r : Ty) (s : Index) → IsFunctionOf t ts r s → norm_ty t ≡ t → (norm_tys ts ≡ ts) × (norm_ty r ≡ r)
function_normal t ts r s (at, at', e) n = let h : norm_ty (Arr at (Fun at' ts r) s) ≡ Arr at (Fun at' ts r) s = subst (λ t. norm_ty t ≡ t) e n in (cc, cc)

module _ (Γ : Context) (at : Span) (f : Expr) (es : Exprs) (t : Ty) (ns : List NodeNote) (found : Found Γ f t ns) where
  -- refusals at these places
  pub refused_function : (at₁ : Span) → expr_at f ≡ at₁ → ¬ IsFunction t → (expr_premises Γ (App at f es)).blames (19, at₁)
  refused_function at₁ is not = subst (λ at₁. (expr_premises Γ (App at f es)).blames (19, at₁)) is (no_function Γ at f es t ns found not)

  module _ (ts : Tys) (r : Ty) (s : Index) (form : IsFunctionOf t ts r s) where
    found' : Found Γ f (Arr form.0 (Fun form.1 ts r) s) ns
    found' = subst (λ t. Found Γ f t ns) form.2 found

    pub refused_count : length (ty_items ts) ≢ length (expr_items es) → (expr_premises Γ (App at f es)).blames (20, at)
    refused_count = other_count Γ at f es form.0 form.1 ts r s ns found'

    pub refused_argument : length (ty_items ts) ≡ length (expr_items es) → (q : TypeRefusal) → Refuses (args_premises Γ es ts) q → Refuses (expr_premises Γ (App at f es)) q
    refused_argument = argument_refused Γ at f es form.0 form.1 ts r s ns found'

    module _ (count : length (ty_items ts) ≡ length (expr_items es)) (words : List Word) (ms : List NodeNote) (args : FoundArgs Γ ts es words ms) where
      all_words : map norm_word (s ∷ args.frames) ≡ norm_word s ∷ words
      all_words = ap (λ l. norm_word s ∷ l) (sym (each_map norm_word args.frames) ∙ args.normal)

      all_sorted : All (IsSorted Γ.sorts sort.Shape) (s ∷ args.frames)
      all_sorted = all_each (IsSorted Γ.sorts sort.Shape) (s ∷ args.frames) (found'.sound.formed.1, args.sorted)

      module _ (frames : List Word) (are : frames ≡ norm_word s ∷ words) where
        -- by the frame rule's answer for these words
        module _ (o : Option ℕ) (answer : (sorts : List Sort) (all : List Index) → All (IsSorted sorts sort.Shape) all → map norm_word all ≡ frames → IsFirst (IsPrefix sorts) all o) where
          first : IsFirst (IsPrefix Γ.sorts) (s ∷ args.frames) o
          first = answer Γ.sorts (s ∷ args.frames) all_sorted (all_words ∙ sym are)

        pub refused_frames : ((sorts : List Sort) (all : List Index) → All (IsSorted sorts sort.Shape) all → map norm_word all ≡ frames → IsFirst (IsPrefix sorts) all None) →
            (expr_premises Γ (App at f es)).blames (22, at)
        refused_frames answer =
            no_frame Γ at f es form.0 form.1 ts r s ns found' count words ms args (no_principal Γ (s ∷ args.frames) (first None answer))

        -- where the place k has the principal frame, whose word is w
        pub app_follows : (k : ℕ) (w : Word) → ((sorts : List Sort) (all : List Index) → All (IsSorted sorts sort.Shape) all → map norm_word all ≡ frames → IsFirst (IsPrefix sorts) all (Some k)) →
            w ≡ get_or frames k w → (q : Result Concluded TypeRefusal) → ((u : Ty) → IsFramed (word_tree w) r u → Follows at u (app_note ts r) q) → IsArray r →
            Concludes Γ (App at f es) (ns ++ ms) q
        app_follows k w answer at_k q h array = conclude r form.2 array h
          where
            p : Index
            p = get_or (s ∷ args.frames) k s

            principal : IsPrincipal Γ (s ∷ args.frames) p
            principal = principal_at Γ (s ∷ args.frames) k s (first (Some k) answer)

            within : k < length (s ∷ args.frames)
            within = (first (Some k) answer).0

            word : norm_word p ≡ w
            word = sym (get_or-map norm_word (s ∷ args.frames) k s w within) ∙ ap (λ l. get_or l k w) (all_words ∙ sym are) ∙ sym at_k

            conclude : (r : Ty) → t ≡ Arr form.0 (Fun form.1 ts r) s → IsArray r → ((u : Ty) → IsFramed (word_tree w) r u → Follows at u (app_note ts r) q) →
                Concludes Γ (App at f es) (ns ++ ms) q
            conclude (Arr at₂ a c) e array h =
                let found₂ : Found Γ f (Arr form.0 (Fun form.1 ts (Arr at₂ a c)) s) ns = subst (λ t. Found Γ f t ns) e found in
                h (array_of a (then_shape (word_tree w) c)) refl Γ (App at f es) (array_of a (then_shape p c)) (ns ++ ms) refl
                (app_met Γ at f es form.0 form.1 at₂ ts a s c ns ms words found₂ count args p principal)
                (app_has Γ at f es form.0 form.1 at₂ ts a s c ns ms words found₂ count args p principal)
                (app_same Γ at f es form.0 form.1 at₂ ts a s c ns ms words found₂ count args p principal w word)
                (app_sound Γ at f es form.0 form.1 at₂ ts a s c ns ms words found₂ count args p principal w word)
                (app_notes Γ at f es form.0 form.1 at₂ ts a s c ns ms words found₂ count args p principal (app_note ts (Arr at₂ a c)) refl)
            conclude (BaseTy at₂ b) e array h = absurd (true≢false array)
            conclude (TyVar at₂ b) e array h = absurd (true≢false array)
            conclude (Fun at₂ us b) e array h = absurd (true≢false array)
            conclude (Forall at₂ n b) e array h = absurd (true≢false array)
            conclude (Pi at₂ ss b) e array h = absurd (true≢false array)
            conclude (Sigma at₂ ss b) e array h = absurd (true≢false array)

-- as many types as trees
pub items_length : (ts : List TyTree) → length (ty_items (tys_of ts)) ≡ length ts
items_length [] = refl
items_length (t ∷ ts) = ap suc (items_length ts)
