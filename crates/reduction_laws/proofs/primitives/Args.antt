-- Arguments of primitives as arrays, the atoms of base types, and answers that have the result's type.
use Rattle.std.proofs.Common.{◌≡◌, refl, sym, ◌∙◌, subst, ℕ, ℤ, arith, List, [], ◌∷◌, length, Option, Some, None, Bool, true, false}
use Rattle.core_syntax.specs.declared.primitive.Primitive.{Primitive}
use Rattle.core_syntax.specs.declared.errors.TrapKind.TheVariants as trap
use Rattle.core_syntax.specs.Syntax.{Index, Ty, Fun, Forall, Pi, Arr, Tys, no_tys, more_tys, no_span, ty_list}
use Rattle.core_syntax.specs.Lists.{Each, product}
use Rattle.core_syntax.specs.Fits.{forms}
use Rattle.core_syntax.specs.Kinds.{IsWellFormed}
use Rattle.core_syntax.specs.Value.{shape_val}
use Rattle.core_syntax.specs.TypeEqual.{Same, AllSame}
use Rattle.core_syntax.specs.Subst.{kept, put_all, indices_under, ty_put, fates_under_index, with_types, with_indices}
use Rattle.core_syntax.specs.Prims.{prim_type, array_of, int_ty, bool_ty, char_ty, scalar}
use Rattle.core_syntax.specs.Typing.{defs_only, numbers}
use Rattle.core_syntax.specs.Terms.{Terms, no_terms, more_terms, Cell, TInt, TBool, TChar, TPrim, TFn, TTypeFn, TIndexFn, TBoxed, term_items}
use Rattle.core_syntax.specs.Arrays.{Arrayed, array, single}
use Rattle.core_syntax.specs.Answer.{Look, AnInt, ABool, AChar, Answer, Gives, Traps}
use Rattle.core_syntax.specs.Delta.{is_int, gives_int, gives_bool, gives_formed, by_leading, leading}
use Rattle.core_syntax.specs.Rules.{dims_of, atoms_of, array_term, look, atom_rules, answered}
use Rattle.core_syntax.specs.Typed.{typed, typed_rules, TypedTerm, closed, atom_type}
use Rattle.core_syntax.specs.TermTyping.{Notes, PrimHas, HasTerm, HasCell}
use Rattle.core_syntax.proofs.Equality.{same_refl, same_sym, same_trans}
use Rattle.reduction_laws.proofs.putting.TermSubst.{term_same}
use Rattle.reduction_laws.proofs.primitives.Forms.{PrimForm, plain, of_types, of_indices, of_both, prim_form}
use Rattle.reduction_laws.proofs.steps.Acts.{box_type}
use Rattle.reduction_laws.proofs.steps.Counts.{each_with}
use Rattle.reduction_laws.proofs.steps.Moves.{Fine}
use Rattle.reduction_laws.proofs.steps.Scalars.{PairsHave}
use Rattle.reduction_laws.proofs.steps.Parts.{IsArr, parts_of, fits, array_has, cell_same, type_formed, numbers_val}

-- a type that a primitive can have
abbrev pub IsFnType : Ty → Type 0
IsFnType (Fun at ts r) = Unit {0}
IsFnType (Forall at n t) = Unit {0}
IsFnType (Pi at ss t) = Unit {0}
IsFnType _ = ⊥

same_fn : (t u : Ty) → IsFnType t → Same t u → IsFnType u
same_fn (Fun at ts r) (Fun at' us q) f e = tt
same_fn (Forall at n t) (Forall at' m u) f e = tt
same_fn (Pi at ss t) (Pi at' rs u) f e = tt
same_fn (Fun at ts r) _ f e = absurd e
same_fn (Forall at n t) _ f e = absurd e
same_fn (Pi at ss t) _ f e = absurd e
same_fn _ u f e = absurd f

module _ (D : List Ty) where
  -- a closed term has a type
  abbrev pub Has : Ty → TypedTerm → Type 0
  Has T t = HasTerm (defs_only D) t T

  prim_fn : (q : Primitive) → PrimForm q → (vs : Option (List Ty)) (ks : Option (List Index)) (T : Ty) → PrimHas (defs_only D) (prim_type q) vs ks T → IsFnType T
  prim_fn q (plain ws r e _ _) None None T h = same_fn (Fun no_span ws r) T tt (subst (λ g. PrimHas (defs_only D) g None None T) e h).1
  prim_fn q (of_types n ws r e _ _) None None T h = same_fn (Forall no_span n (scalar (Fun no_span ws r))) T tt (subst (λ g. PrimHas (defs_only D) g None None T) e h).1
  prim_fn q (of_indices ss ws r e _ _) None None T h = same_fn (Pi no_span ss (scalar (Fun no_span ws r))) T tt (subst (λ g. PrimHas (defs_only D) g None None T) e h).1
  prim_fn q (of_both n ss ws r e _ _) None None T h = same_fn (Forall no_span n (scalar (Pi no_span ss (scalar (Fun no_span ws r))))) T tt (subst (λ g. PrimHas (defs_only D) g None None T) e h).1
  prim_fn q (plain ws r e _ _) (Some vs) None T h = absurd (subst (λ g. PrimHas (defs_only D) g (Some vs) None T) e h)
  prim_fn q (of_types n ws r e _ _) (Some vs) None T h = same_fn (with_types vs (Fun no_span ws r)) T tt (subst (λ g. PrimHas (defs_only D) g (Some vs) None T) e h).2.1
  prim_fn q (of_indices ss ws r e _ _) (Some vs) None T h = absurd (subst (λ g. PrimHas (defs_only D) g (Some vs) None T) e h)
  prim_fn q (of_both n ss ws r e _ _) (Some vs) None T h = same_fn (with_types vs (Pi no_span ss (scalar (Fun no_span ws r)))) T tt (subst (λ g. PrimHas (defs_only D) g (Some vs) None T) e h).2.1
  prim_fn q (plain ws r e _ _) None (Some ks) T h = absurd (subst (λ g. PrimHas (defs_only D) g None (Some ks) T) e h)
  prim_fn q (of_types n ws r e _ _) None (Some ks) T h = absurd (subst (λ g. PrimHas (defs_only D) g None (Some ks) T) e h)
  prim_fn q (of_indices ss ws r e _ _) None (Some ks) T h = same_fn (with_indices ks (Fun no_span ws r)) T tt (subst (λ g. PrimHas (defs_only D) g None (Some ks) T) e h).1.1
  prim_fn q (of_both n ss ws r e _ _) None (Some ks) T h = absurd (subst (λ g. PrimHas (defs_only D) g None (Some ks) T) e h)
  prim_fn q (plain ws r e _ _) (Some vs) (Some ks) T h = absurd (subst (λ g. PrimHas (defs_only D) g (Some vs) (Some ks) T) e h)
  prim_fn q (of_types n ws r e _ _) (Some vs) (Some ks) T h = absurd (subst (λ g. PrimHas (defs_only D) g (Some vs) (Some ks) T) e h).2
  prim_fn q (of_indices ss ws r e _ _) (Some vs) (Some ks) T h = absurd (subst (λ g. PrimHas (defs_only D) g (Some vs) (Some ks) T) e h)
  prim_fn q (of_both n ss ws r e _ _) (Some vs) (Some ks) T h = same_fn (with_indices ks (ty_put (indices_under (length ss) kept) (fates_under_index (length ss) (put_all vs)) (Fun no_span ws r))) T tt (subst (λ g. PrimHas (defs_only D) g (Some vs) (Some ks) T) e h).2.1.1

  pub no_base_prim : (q : Primitive) (vs : Option (List Ty)) (ks : Option (List Index)) (T : Ty) → (IsFnType T → ⊥) → PrimHas (defs_only D) (prim_type q) vs ks T → ⊥
  no_base_prim q vs ks T n h = n (prim_fn q (prim_form q) vs ks T h)

  -- ---- atoms of base types

  pub int_look : (P : Look → Type 0) (x : Cell typed) → HasCell (defs_only D) x int_ty → ((z : ℤ) → P (AnInt z)) → P (look typed_rules x)
  int_look P (TInt z) h f = f z
  int_look P (TBool z) h f = absurd (let e = h.1 in cc)
  int_look P (TChar z) h f = absurd (let e = h.1 in cc)
  int_look P (TPrim q vs ks) h f = absurd (no_base_prim q vs ks int_ty (λ n. n) h)
  int_look P (TFn i t) h f = absurd h.3.1
  int_look P (TTypeFn n t) h f = absurd h.2.1
  int_look P (TIndexFn ss t) h f = absurd h.2.1
  int_look P (TBoxed is t q) h f = absurd (box_type q int_ty _ h.1 h.2.1)

  pub bool_look : (P : Look → Type 0) (x : Cell typed) → HasCell (defs_only D) x bool_ty → ((z : Bool) → P (ABool z)) → P (look typed_rules x)
  bool_look P (TBool z) h f = f z
  bool_look P (TInt z) h f = absurd (let e = h.1 in cc)
  bool_look P (TChar z) h f = absurd (let e = h.1 in cc)
  bool_look P (TPrim q vs ks) h f = absurd (no_base_prim q vs ks bool_ty (λ n. n) h)
  bool_look P (TFn i t) h f = absurd h.3.1
  bool_look P (TTypeFn n t) h f = absurd h.2.1
  bool_look P (TIndexFn ss t) h f = absurd h.2.1
  bool_look P (TBoxed is t q) h f = absurd (box_type q bool_ty _ h.1 h.2.1)

  pub char_look : (P : Look → Type 0) (x : Cell typed) → HasCell (defs_only D) x char_ty → ((z : ℕ) → P (AChar z)) → P (look typed_rules x)
  char_look P (TChar z) h f = f z
  char_look P (TBool z) h f = absurd (let e = h.1 in cc)
  char_look P (TInt z) h f = absurd (let e = h.1 in cc)
  char_look P (TPrim q vs ks) h f = absurd (no_base_prim q vs ks char_ty (λ n. n) h)
  char_look P (TFn i t) h f = absurd h.3.1
  char_look P (TTypeFn n t) h f = absurd h.2.1
  char_look P (TIndexFn ss t) h f = absurd h.2.1
  char_look P (TBoxed is t q) h f = absurd (box_type q char_ty _ h.1 h.2.1)

  -- ---- arguments

  -- an array of atoms of a type, with a shape's dims
  pub record Fits (a : Ty) (s : Index) (A : Arrayed (Cell typed)) : Type 0 where
    pub dims : A.dims ≡ shape_val closed s
    pub count : length A.atoms ≡ product A.dims
    pub atoms : Each (λ x. HasCell (defs_only D) x a) A.atoms

  -- the array of a value
  abbrev pub arrayed : TypedTerm → Arrayed (Cell typed)
  arrayed t = array (dims_of typed_rules t) (atoms_of typed_rules t)

  pub fits_arg : (e : TypedTerm) (t a : Ty) (i : Index) (b : Ty) → IsArr e → Has t e → Same (array_of a i) t → Same a b → IsWellFormed 0 [] b → Fits b i (arrayed e)
  fits_arg e (Arr at a' c) a i b v h s same w =
      let f = type_formed (defs_only D) e (Arr at a' c) h in
      let p = parts_of D e a' c v (term_same (defs_only D) e (Arr at a' c) (array_of a' c) h (same_refl (array_of a' c)) f) in
      record {
        dims = p.dims ∙ sym (s.1 closed);
        count = p.count;
        atoms = each_with (λ x. HasCell (defs_only D) x a') (λ x. HasCell (defs_only D) x b) (atoms_of typed_rules e) (λ x k. cell_same (defs_only D) x a' b k (same_trans a' a b (same_sym a a' s.0) same) w) p.atoms;
      }
  fits_arg e _ a i b v h s same w = absurd s

  -- what follows from each argument in turn
  abbrev pub ArgsThen : List Ty → (List TypedTerm → Type 0) → Type 0
  ArgsThen [] P = P []
  ArgsThen (t ∷ ts) P = (e : TypedTerm) (u : Ty) → IsArr e → Has u e → Same t u → ArgsThen ts (λ es. P (e ∷ es))

  pub with_args : (ts : List Ty) (es : Terms typed) (ws : Tys) (P : List TypedTerm → Type 0) → AllSame (ty_list ts) ws → PairsHave D es ws → Each IsArr (term_items es) → ArgsThen ts P → P (term_items es)
  with_args [] no_terms no_tys P s h v k = k
  with_args (t ∷ ts) (more_terms e es) (more_tys w ws) P s h v k = with_args ts es ws (λ es. P (e ∷ es)) s.1 h.1 v.1 (k e w v.0 h.0 s.0)
  with_args [] es (more_tys w ws) P s h v k = absurd s
  with_args [] (more_terms e es) no_tys P s h v k = absurd h
  with_args (t ∷ ts) es no_tys P s h v k = absurd s
  with_args (t ∷ ts) no_terms (more_tys w ws) P s h v k = absurd h

  pub one_atom : (Q : Cell typed → Type 0) (P : List (Cell typed) → Type 0) (xs : List (Cell typed)) → length xs ≡ 1 → Each Q xs → ((x : Cell typed) → Q x → P (x ∷ [])) → P xs
  one_atom Q P [] e h f = absurd (omega arith)
  one_atom Q P (x ∷ y ∷ xs) e h f = absurd (omega arith)
  one_atom Q P (x ∷ []) e h f = f x h.0

  -- ---- answers

  module _ (note : Ty) (us : Option (List Ty)) (is : Option (List Index)) (b : Ty) (c : Index) (w : IsWellFormed 0 [] (Arr no_span b c)) (n : Notes (defs_only D) (Arr no_span b c) note) where
    -- an answer is no misfit, and what it gives has the result's type
    abbrev pub Good : Answer (Cell typed) → Type 0
    Good a = Fine (Has (Arr no_span b c)) ⊥ (answered typed_rules note us is a)

    pub gives_good : (A : Arrayed (Cell typed)) → Fits b c A → Good (Gives A)
    gives_good A f = by note n
      where
        by : (note : Ty) → Notes (defs_only D) (Arr no_span b c) note → Has (Arr no_span b c) (array_term typed_rules (atom_type note) A)
        by (Arr at b' c') n =
            fits D (array_term typed_rules b' A) b (numbers A.dims) b c (Arr no_span b c)
            (array_has D b' b A.dims A.atoms (n.1.0, n.1.2) (w.0, w.2) (same_sym b b' n.2.0) f.atoms f.count) (same_refl b) (numbers_val closed A.dims ∙ f.dims) (w, same_refl (Arr no_span b c))
        by _ n = absurd n.2

    pub formed_good : (dims : List ℕ) (xs : List (Cell typed)) → Fits b c (array dims xs) → Good (gives_formed (atom_rules typed_rules note) dims xs)
    formed_good dims xs f = by (forms dims)
      where
        by : (t : Bool) → Good (elim t as (λ t. Answer (Cell typed)) [ true ↦ Gives (array dims xs) | false ↦ Traps trap.Size ])
        by true = gives_good (array dims xs) f
        by false = tt

    -- a scalar answer
    pub single_good : (x : Cell typed) → HasCell (defs_only D) x b → shape_val closed c ≡ [] → Good (Gives (single x))
    single_good x h e = gives_good (single x) (record { dims = sym e; count = refl; atoms = (h, tt) })

    pub int_good : (z : ℤ) → Same (scalar int_ty) (Arr no_span b c) → Good (gives_int (atom_rules typed_rules note) z)
    int_good z s = by (is_int z)
      where
        by : (t : Bool) → Good (elim t as (λ t. Answer (Cell typed)) [ true ↦ Gives (single (TInt z)) | false ↦ Traps trap.Overflow ])
        by true = single_good (TInt z) (w.2, s.0) (sym (s.1 closed))
        by false = tt

    pub bool_good : (z : Bool) → Same (scalar bool_ty) (Arr no_span b c) → Good (gives_bool (atom_rules typed_rules note) z)
    bool_good z s = single_good (TBool z) (w.2, s.0) (sym (s.1 closed))

    pub leading_good : (A : Arrayed (Cell typed)) (m : ℕ) (s : List ℕ) (f : ℕ → List ℕ → List (Cell typed) → Answer (Cell typed)) → A.dims ≡ m ∷ s → Good (f m s A.atoms) → Good (leading (atom_rules typed_rules note) A f)
    leading_good A m s f e h = subst (λ d. Good (by_leading (atom_rules typed_rules note) d A.atoms f)) (sym e) h
