-- The literals of a tree of an expression, by its form: from those of its parts.
use Rattle.std.proofs.Common.{◌≡◌, ◌∙◌, refl, sym, ap, subst, ℕ, suc, ◌+◌, ◌^◌, ◌<◌, arith, List, [], ◌∷◌, ◌++◌, length, take, get_or, true, Fits, w32}
use Rattle.std.specs.Prelude.{nat_lt}
use Rattle.std.proofs.Math.Facts.{Fits-lt-pow}
use Rattle.std.proofs.lemmas.List.{take_more}
use Rattle.std.proofs.lemmas.Bool.Decides.{nat_tests}
use Rattle.core_syntax.specs.declared.index.Sort.{Sort}
use Rattle.core_syntax.specs.declared.index.Index.{Index}
use Rattle.core_syntax.specs.declared.ty.Ty.{Ty}
use Rattle.core_syntax.specs.declared.expr.Expr.{Expr}
use Rattle.core_syntax.specs.declared.expr.Atom.{Atom}
use Rattle.core_syntax.specs.declared.expr.ExprForm.{Array, Frame, App, TypeApp, IndexApp, Unbox}
use Rattle.core_syntax.specs.declared.expr.AtomForm.{Fn, TypeFn, IndexFn, Boxed}
use Rattle.core_syntax.specs.declared.def.Def.{Def}
use Rattle.core_syntax.specs.Fits.{all_below}
use Rattle.core_syntax.specs.Lists.{each, Each}
use Rattle.core_syntax.specs.Programs.{def_of}
use Rattle.core_syntax.specs.Refine.{expr_form_of, expr_of, exprs_of, atom_form_of, atom_of, atoms_of}
use Rattle.core_syntax.specs.Literals.{ExprLiterals, ExprsLiterals, AtomLiterals, AtomsLiterals}
use Rattle.core_syntax.proofs.ExprRows.{form_of_array, form_of_frame, form_of_app, form_of_type_app, form_of_index_app, form_of_unbox, form_of_fn, form_of_type_fn, form_of_index_fn, form_of_boxed}
use Rattle.reduction_laws.proofs.steps.Frames.{and_both}

module _ (x : Expr) where
  pub array_literals : (ds dims : List ℕ) (now zs : List Atom) → ds ≡ dims → now ≡ zs → x.form ≡ Array dims zs → all_below (2 ^ 32) ds ≡ true → AtomsLiterals (atoms_of now) → ExprLiterals (expr_of x)
  array_literals ds dims now zs d q h b l =
      subst ExprLiterals (sym (ap (expr_form_of x.at) h ∙ form_of_array x.at dims zs)) (subst (λ ds. all_below (2 ^ 32) ds ≡ true) d b, subst (λ xs. AtomsLiterals (atoms_of xs)) q l)

  pub frame_literals : (dims : List ℕ) (now zs : List Expr) → now ≡ zs → x.form ≡ Frame dims zs → ExprsLiterals (exprs_of now) → ExprLiterals (expr_of x)
  frame_literals dims now zs q h l = subst ExprLiterals (sym (ap (expr_form_of x.at) h ∙ form_of_frame x.at dims zs)) (subst (λ xs. ExprsLiterals (exprs_of xs)) q l)

  pub app_literals : (f' f : Expr) (now zs : List Expr) → f' ≡ f → now ≡ zs → x.form ≡ App f zs → ExprLiterals (expr_of f') → ExprsLiterals (exprs_of now) → ExprLiterals (expr_of x)
  app_literals f' f now zs p q h k l =
      subst ExprLiterals (sym (ap (expr_form_of x.at) h ∙ form_of_app x.at f zs)) (subst (λ f. ExprLiterals (expr_of f)) p k, subst (λ xs. ExprsLiterals (exprs_of xs)) q l)

  pub type_app_literals : (f' f : Expr) (us : List Ty) → f' ≡ f → x.form ≡ TypeApp f us → ExprLiterals (expr_of f') → ExprLiterals (expr_of x)
  type_app_literals f' f us p h k = subst ExprLiterals (sym (ap (expr_form_of x.at) h ∙ form_of_type_app x.at f us)) (subst (λ f. ExprLiterals (expr_of f)) p k)

  pub index_app_literals : (f' f : Expr) (js : List Index) → f' ≡ f → x.form ≡ IndexApp f js → ExprLiterals (expr_of f') → ExprLiterals (expr_of x)
  index_app_literals f' f js p h k = subst ExprLiterals (sym (ap (expr_form_of x.at) h ∙ form_of_index_app x.at f js)) (subst (λ f. ExprLiterals (expr_of f)) p k)

  pub unbox_literals : (n : ℕ) (e' e : Expr) (t : Ty) (b' b : Expr) → e' ≡ e → b' ≡ b → x.form ≡ Unbox n e t b → ExprLiterals (expr_of e') → ExprLiterals (expr_of b') → ExprLiterals (expr_of x)
  unbox_literals n e' e t b' b p q h k l =
      subst ExprLiterals (sym (ap (expr_form_of x.at) h ∙ form_of_unbox x.at n e t b)) (subst (λ f. ExprLiterals (expr_of f)) p k, subst (λ f. ExprLiterals (expr_of f)) q l)

module _ (x : Atom) (e' e : Expr) (p : e' ≡ e) (k : ExprLiterals (expr_of e')) where
  body_literals : ExprLiterals (expr_of e)
  body_literals = subst (λ e. ExprLiterals (expr_of e)) p k

  pub fn_literals : (ts : List Ty) (r : Ty) → x.form ≡ Fn ts r e → AtomLiterals (atom_of x)
  fn_literals ts r h = subst AtomLiterals (sym (ap (atom_form_of x.at) h ∙ form_of_fn x.at ts r e)) body_literals

  pub type_fn_literals : (n : ℕ) → x.form ≡ TypeFn n e → AtomLiterals (atom_of x)
  type_fn_literals n h = subst AtomLiterals (sym (ap (atom_form_of x.at) h ∙ form_of_type_fn x.at n e)) body_literals

  pub index_fn_literals : (ss : List Sort) → x.form ≡ IndexFn ss e → AtomLiterals (atom_of x)
  index_fn_literals ss h = subst AtomLiterals (sym (ap (atom_form_of x.at) h ∙ form_of_index_fn x.at ss e)) body_literals

  pub boxed_literals : (is : List Index) (t : Ty) → x.form ≡ Boxed is e t → AtomLiterals (atom_of x)
  boxed_literals is t h = subst AtomLiterals (sym (ap (atom_form_of x.at) h ∙ form_of_boxed x.at is e t)) body_literals

-- ---- dims

pub dims_fit : (ds : List ℕ) → ((i : ℕ) → Fits w32 (get_or ds i 0)) → all_below (2 ^ 32) ds ≡ true
dims_fit [] h = refl
dims_fit (d ∷ ds) h =
    let lt : d < 2 ^ 32 = Fits-lt-pow {w = w32} (h 0) in
    and_both (nat_lt d (2 ^ 32)) (all_below (2 ^ 32) ds) (let t : nat_lt d (2 ^ 32) ≡ true = grind (arith, nat_tests) in t) (dims_fit ds (λ i. h (suc i)))

-- ---- one item more

exprs_then : (es : List Expr) (e : Expr) → ExprsLiterals (exprs_of es) → ExprLiterals (expr_of e) → ExprsLiterals (exprs_of (es ++ e ∷ []))
exprs_then [] e h k = (k, tt)
exprs_then (d ∷ es) e h k = (h.0, exprs_then es e h.1 k)

atoms_then : (xs : List Atom) (a : Atom) → AtomsLiterals (atoms_of xs) → AtomLiterals (atom_of a) → AtomsLiterals (atoms_of (xs ++ a ∷ []))
atoms_then [] a h k = (k, tt)
atoms_then (x ∷ xs) a h k = (h.0, atoms_then xs a h.1 k)

defs_then : (ds : List Def) (d : Def) → Each (λ d. ExprLiterals (expr_of d.value)) ds → ExprLiterals (expr_of d.value) → Each (λ d. ExprLiterals (expr_of d.value)) (ds ++ d ∷ [])
defs_then [] d h k = (k, tt)
defs_then (e ∷ ds) d h k = (h.0, defs_then ds d h.1 k)

pub exprs_more : (es : List Expr) (k : ℕ) (e : Expr) → k < length es → e ≡ get_or es k e → ExprsLiterals (exprs_of (take k es)) → ExprLiterals (expr_of e) → ExprsLiterals (exprs_of (take (k + 1) es))
exprs_more es k e lt is h l = subst (λ es. ExprsLiterals (exprs_of es)) (sym (take_more es k e lt ∙ ap (λ d. take k es ++ d ∷ []) (sym is))) (exprs_then (take k es) e h l)

pub atoms_more : (xs : List Atom) (k : ℕ) (a : Atom) → k < length xs → a ≡ get_or xs k a → AtomsLiterals (atoms_of (take k xs)) → AtomLiterals (atom_of a) → AtomsLiterals (atoms_of (take (k + 1) xs))
atoms_more xs k a lt is h l = subst (λ xs. AtomsLiterals (atoms_of xs)) (sym (take_more xs k a lt ∙ ap (λ d. take k xs ++ d ∷ []) (sym is))) (atoms_then (take k xs) a h l)

pub defs_more : (ds : List Def) (k : ℕ) (d : Def) → k < length ds → d ≡ get_or ds k d → Each (λ d. ExprLiterals (expr_of d.value)) (take k ds) → ExprLiterals (expr_of d.value) → Each (λ d. ExprLiterals (expr_of d.value)) (take (k + 1) ds)
defs_more ds k d lt is h l = subst (Each (λ d. ExprLiterals (expr_of d.value))) (sym (take_more ds k d lt ∙ ap (λ e. take k ds ++ e ∷ []) (sym is))) (defs_then (take k ds) d h l)

pub each_defs : (ds : List Def) → Each (λ d. ExprLiterals (expr_of d.value)) ds → Each (λ d. ExprLiterals d.value) (each def_of ds)
each_defs [] h = tt
each_defs (d ∷ ds) h = (h.0, each_defs ds h.1)
