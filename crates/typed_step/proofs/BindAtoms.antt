-- `t-beta`, `i-beta` and `unbox` on the tree of an atom.
use Rattle.std.proofs.Common.{◌≡◌, refl, sym, ap, ◌∙◌, ℕ, Bool, true, false, List, [], ◌∷◌, Option, Some, None, is_some, option_map, true≢false}
use Rattle.core_syntax.specs.declared.errors.TrapKind.TheVariants as trap
use Rattle.core_syntax.specs.declared.index.Index.{Index as Tree}
use Rattle.core_syntax.specs.declared.index.Sort.{Sort}
use Rattle.core_syntax.specs.declared.term.TermAtom.{TermAtom, TypeFn, IndexFn, Boxed}
use Rattle.core_syntax.specs.declared.term.TermExpr.{TermExpr}
use Rattle.core_syntax.specs.declared.ty.Ty.{Ty as TyTree}
use Rattle.core_syntax.specs.Syntax.{Index, Ty}
use Rattle.core_syntax.specs.Fits.{all_fit}
use Rattle.core_syntax.specs.Lists.{each}
use Rattle.core_syntax.specs.Move.{Move, Trapped, Goes}
use Rattle.core_syntax.specs.Refine.{index_of}
use Rattle.core_syntax.specs.RefineTerms.{term_of, cell_of, TypedCell}
use Rattle.core_syntax.specs.Rules.{type_beta, index_beta, index_beta_at, unbox_one}
use Rattle.core_syntax.specs.Subst.{kept, put_first, put_all}
use Rattle.core_syntax.specs.TermPut.{term_put}
use Rattle.core_syntax.specs.Terms.{IndexValue}
use Rattle.core_syntax.specs.Typed.{closed_value, typed_rules, TypedTerm, TypedPuts, value_index}
use Rattle.core_syntax.proofs.RowsOfTerms.{of_type_fn, of_index_fn, of_boxed}
use Rattle.term_values.specs.Indices.{kept_values}

pub type_fn_bound : (us : List Ty) (a : TermAtom) (n : ℕ) (e e' : TermExpr) (x : TypedTerm) → e' ≡ e → a ≡ TypeFn n e → x ≡ term_put typed_rules (typed_rules.put_types us) kept (term_of e')
    → Goes x ≡ type_beta typed_rules us (cell_of a ∷ [])
type_fn_bound us a n e e' x p h ex =
    ap (λ y. Goes y) (ex ∙ ap (λ u. term_put typed_rules (typed_rules.put_types us) kept (term_of u)) p)
    ∙ ap (λ y. type_beta typed_rules us (y ∷ [])) (sym (ap cell_of h ∙ of_type_fn n e))

-- these indices in the place of variables
abbrev puts_of : List Index → TypedPuts
puts_of is = record { indices = put_all is; types = kept }

pub index_fn_bound : (vs : List IndexValue) (js : List Index) (a : TermAtom) (ss : List Sort) (e e' : TermExpr) (x : TypedTerm) → js ≡ each value_index vs → e' ≡ e → a ≡ IndexFn ss e
    → x ≡ term_put typed_rules (puts_of js) kept (term_of e') → Goes x ≡ index_beta_at typed_rules vs (cell_of a ∷ [])
index_fn_bound vs js a ss e e' x q p h ex =
    ap (λ y. Goes y) (ex ∙ (λ i. term_put typed_rules (puts_of (q i)) kept (term_of (p i))))
    ∙ ap (λ y. index_beta_at typed_rules vs (y ∷ [])) (sym (ap cell_of h ∙ of_index_fn ss e))

-- ---- indices whose values are kept

abbrev else_of : List Index → Option (List Index) → List Index
else_of is None = is
else_of is (Some js) = js

some_of : (b : Bool) (xs ys : List Index) → Some xs ≡ elim b [ true ↦ Some ys | false ↦ None ] → (b ≡ true) × (xs ≡ ys)
some_of true xs ys e = (refl, ap (else_of xs) e)
some_of false xs ys e = absurd (true≢false (ap (λ (o : Option (List Index)). is_some o) e))

pub values_kept : (is : List Index) (o : Option (List Tree)) (xs : List Tree) → o ≡ Some xs → option_map (each index_of) o ≡ kept_values is
    → (all_fit (each closed_value is) ≡ true) × (each index_of xs ≡ each value_index (each closed_value is))
values_kept is o xs e k =
    some_of (all_fit (each closed_value is)) (each index_of xs) (each value_index (each closed_value is)) (ap (λ (p : Option (List Tree)). option_map (each index_of) p) (sym e) ∙ k)

pub all_fitting : (is : List Index) (xs : List TypedCell) → all_fit (each closed_value is) ≡ true → index_beta_at typed_rules (each closed_value is) xs ≡ index_beta typed_rules is xs
all_fitting is xs e = let P : Bool → Move TypedTerm = λ b. elim b [ true ↦ index_beta_at typed_rules (each closed_value is) xs | false ↦ Trapped trap.Size ] in sym (ap P e)

pub box_opened : (body : TypedTerm) (is is' : List Tree) (t t' : TermExpr) (u : TyTree) (a : TermAtom) (o : Option (List Tree)) (xs : List Tree) (js : List Index) (x : TypedTerm)
    → is' ≡ is → t' ≡ t → a ≡ Boxed is t u → o ≡ Some xs → option_map (each index_of) o ≡ kept_values (each index_of is') → js ≡ each index_of xs
    → x ≡ term_put typed_rules (puts_of js) (put_first (term_of t' ∷ [])) body → Goes x ≡ unbox_one typed_rules body (cell_of a ∷ [])
box_opened body is is' t t' u a o xs js x p q h e k j ex =
    let same : js ≡ each value_index (each closed_value (each index_of is)) = j ∙ (values_kept (each index_of is') o xs e k).1 ∙ ap (λ zs. each value_index (each closed_value (each index_of zs))) p in
    ap (λ y. Goes y) (ex ∙ (λ i. term_put typed_rules (puts_of (same i)) (put_first (term_of (q i) ∷ [])) body))
    ∙ ap (λ y. unbox_one typed_rules body (y ∷ [])) (sym (ap cell_of h ∙ of_boxed is t u))
