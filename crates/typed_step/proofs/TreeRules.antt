-- The rules of trees, by their forms.
use Rattle.std.proofs.Common.{◌≡◌, refl, sym, ◌∙◌, ap, ℕ, List, [], ◌∷◌}
use Rattle.core_syntax.specs.declared.index.Index.{Index}
use Rattle.core_syntax.specs.declared.index.Sort.{Sort}
use Rattle.core_syntax.specs.declared.ty.Ty.{Ty}
use Rattle.core_syntax.specs.declared.term.TermExpr.{TermExpr, Frame, App, TypeApp, IndexApp, Unbox}
use Rattle.core_syntax.specs.Lists.{each}
use Rattle.core_syntax.specs.Refine.{index_of, ty_of}
use Rattle.core_syntax.specs.RefineTerms.{term_of, terms_of}
use Rattle.core_syntax.specs.Rules.{apply, over_value, type_beta, index_beta, unbox_one}
use Rattle.core_syntax.specs.Terms.{TFrame, TApp, TTypeApp, TIndexApp, TUnbox, Terms, no_terms, more_terms, term_items}
use Rattle.core_syntax.specs.Typed.{typed, typed_rules, TypedTerm}
use Rattle.core_syntax.proofs.RowsOfTerms.{of_frame, of_app, of_type_app, of_index_app, of_unbox}
use Rattle.typed_step.specs.Outcomes.{fires}

pub items_of : (ts : List TermExpr) → term_items (terms_of ts) ≡ each term_of ts
items_of [] = refl
items_of (t ∷ ts) = ap (λ us. term_of t ∷ us) (items_of ts)

any_defs : (defs : List TypedTerm) (dims : List ℕ) (ts : Terms typed) (n : _) → fires [] (TFrame dims ts n) ≡ fires defs (TFrame dims ts n)
any_defs defs dims no_terms n = refl
any_defs defs dims (more_terms t ts) n = refl

module _ (defs : List TypedTerm) (t : TermExpr) where
  at_form : (u : TermExpr) (v : TypedTerm) → t ≡ u → term_of u ≡ v → fires defs v ≡ fires defs (term_of t)
  at_form u v e f = sym (ap (λ x. fires defs (term_of x)) e ∙ ap (fires defs) f)

  pub frame_fires : (dims dims' : List ℕ) (ts ts' : List TermExpr) (n : Ty) → t ≡ Frame dims ts n → dims' ≡ dims → ts' ≡ ts → fires [] (TFrame dims' (terms_of ts') (ty_of n)) ≡ fires defs (term_of t)
  frame_fires dims dims' ts ts' n e d p =
      (λ i. fires [] (TFrame (d i) (terms_of (p i)) (ty_of n))) ∙ any_defs defs dims (terms_of ts) (ty_of n) ∙ at_form (Frame dims ts n) (TFrame dims (terms_of ts) (ty_of n)) e (of_frame dims ts n)

  pub app_fires : (f f' : TermExpr) (ts ts' : List TermExpr) (cs cs' : List Index) (n : Ty) → t ≡ App f ts cs n → f' ≡ f → ts' ≡ ts → cs' ≡ cs
      → apply typed_rules (term_of f') (each term_of ts') (each index_of cs') (ty_of n) ≡ fires defs (term_of t)
  app_fires f f' ts ts' cs cs' n e p q r =
      (λ i. apply typed_rules (term_of (p i)) (each term_of (q i)) (each index_of (r i)) (ty_of n))
      ∙ ap (λ us. apply typed_rules (term_of f) us (each index_of cs) (ty_of n)) (sym (items_of ts))
      ∙ at_form (App f ts cs n) (TApp (term_of f) (terms_of ts) (each index_of cs) (ty_of n)) e (of_app f ts cs n)

  pub type_app_fires : (f f' : TermExpr) (us us' : List Ty) (n : Ty) → t ≡ TypeApp f us n → f' ≡ f → us' ≡ us
      → over_value typed_rules (term_of f') (λ a. TTypeApp a (each ty_of us') (ty_of n)) (type_beta typed_rules (each ty_of us')) (ty_of n) ≡ fires defs (term_of t)
  type_app_fires f f' us us' n e p q =
      (λ i. over_value typed_rules (term_of (p i)) (λ a. TTypeApp a (each ty_of (q i)) (ty_of n)) (type_beta typed_rules (each ty_of (q i))) (ty_of n))
      ∙ at_form (TypeApp f us n) (TTypeApp (term_of f) (each ty_of us) (ty_of n)) e (of_type_app f us n)

  pub index_app_fires : (f f' : TermExpr) (is is' : List Index) (n : Ty) → t ≡ IndexApp f is n → f' ≡ f → is' ≡ is
      → over_value typed_rules (term_of f') (λ a. TIndexApp a (each index_of is') (ty_of n)) (index_beta typed_rules (each index_of is')) (ty_of n) ≡ fires defs (term_of t)
  index_app_fires f f' is is' n e p q =
      (λ i. over_value typed_rules (term_of (p i)) (λ a. TIndexApp a (each index_of (q i)) (ty_of n)) (index_beta typed_rules (each index_of (q i))) (ty_of n))
      ∙ at_form (IndexApp f is n) (TIndexApp (term_of f) (each index_of is) (ty_of n)) e (of_index_app f is n)

  pub unbox_fires : (ss ss' : List Sort) (f f' b b' : TermExpr) (n : Ty) → t ≡ Unbox ss f b n → ss' ≡ ss → f' ≡ f → b' ≡ b
      → over_value typed_rules (term_of f') (λ a. TUnbox ss' a (term_of b') (ty_of n)) (unbox_one typed_rules (term_of b')) (ty_of n) ≡ fires defs (term_of t)
  unbox_fires ss ss' f f' b b' n e p q r =
      (λ i. over_value typed_rules (term_of (q i)) (λ a. TUnbox (p i) a (term_of (r i)) (ty_of n)) (unbox_one typed_rules (term_of (r i))) (ty_of n))
      ∙ at_form (Unbox ss f b n) (TUnbox ss (term_of f) (term_of b) (ty_of n)) e (of_unbox ss f b n)
