-- `beta` of trees.
use Rattle.std.proofs.Common.{◌≡◌, refl, sym, ap, ◌∙◌, suc, Bool, true, false, List, [], ◌∷◌, length}
use Rattle.std.proofs.lemmas.Bool.{eq-eqb}
use Rattle.std.specs.Prelude.{◌==◌}
use Rattle.core_syntax.specs.declared.term.TermAtom.{TermAtom, Fn}
use Rattle.core_syntax.specs.declared.term.TermExpr.{TermExpr}
use Rattle.core_syntax.specs.declared.ty.Ty.{Ty as Tree}
use Rattle.core_syntax.specs.Lists.{each}
use Rattle.core_syntax.specs.Move.{Move, Goes, Lost}
use Rattle.core_syntax.specs.Refine.{ty_of}
use Rattle.core_syntax.specs.RefineTerms.{cell_of, term_of}
use Rattle.core_syntax.specs.Rules.{apply_atom}
use Rattle.core_syntax.specs.Subst.{put_all}
use Rattle.core_syntax.specs.Syntax.{Ty}
use Rattle.core_syntax.specs.TermPut.{term_put}
use Rattle.core_syntax.specs.Typed.{typed_rules, TypedTerm}
use Rattle.core_syntax.proofs.RowsOfTerms.{of_fn}

each_length : {A B : Type 0} (f : A → B) (xs : List A) → length (each f xs) ≡ length xs
each_length f [] = refl
each_length f (x ∷ xs) = ap (λ n. suc n) (each_length f xs)

abbrev by_arity : Bool → TypedTerm → Move TypedTerm
by_arity b t = elim b [ true ↦ Goes t | false ↦ Lost ]

abbrev with_args : List TermExpr → TermExpr → TypedTerm
with_args args body = term_put typed_rules typed_rules.put_none (put_all (each term_of args)) (term_of body)

-- a function with as many parameters as there are arguments
pub beta_goes : (atom : TermAtom) (inputs : List Tree) (result : Tree) (body body' : TermExpr) (args : List TermExpr) (r : Ty) (t : TypedTerm) → atom ≡ Fn inputs result body → length inputs ≡ length args
    → body' ≡ body → t ≡ with_args args body' → Goes t ≡ apply_atom typed_rules (cell_of atom ∷ []) (each term_of args) r
beta_goes atom inputs result body body' args r t is same put e =
    ap (λ (u : TypedTerm). Goes u) (e ∙ ap (with_args args) put)
    ∙ sym
    (ap (λ x. apply_atom typed_rules (x ∷ []) (each term_of args) r) (ap cell_of is ∙ of_fn inputs result body)
    ∙ (λ i. by_arity (each_length ty_of inputs i == each_length term_of args i) (with_args args body))
    ∙ ap (λ b. by_arity b (with_args args body)) (eq-eqb (length inputs) (length args) same))
