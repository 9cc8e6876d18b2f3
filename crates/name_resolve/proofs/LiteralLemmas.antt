-- Arrays and frames, and applications to types and indices.
use Rattle.std.proofs.Common.{◌≡◌, ap, ◌∙◌, ℕ, List, [], ◌∷◌, length, ◌+◌, arith, true, false, nat_lt, ◌==◌, Ok}
use Rattle.std.proofs.lemmas.Bool.{lt-ltb}
use Rattle.core_syntax.specs.declared.span.Span.{Span}
use Rattle.core_syntax.specs.Lists.{product}
use Rattle.core_syntax.specs.Syntax.{Expr, Array, Frame, Exprs, Atoms}
use Rattle.sexp_reader.specs.declared.sexp.Sexp.{Sexp}
use Rattle.sexp_reader.specs.Forms.{Form, forms_of, forms_count}
use Rattle.name_resolve.specs.declared.errors.NameRefusal.{NameRefusal}
use Rattle.name_resolve.specs.declared.headers.Literal.{Literal}
use Rattle.name_resolve.specs.declared.headers.Literal.TheVariants as literal
use Rattle.name_resolve.specs.declared.headers.Argument.{Argument}
use Rattle.name_resolve.specs.Answers.{Refuses}
use Rattle.name_resolve.specs.Headers.{literal_read, literal_of, applied_read, applied_of}
use Rattle.name_resolve.specs.Reading.{Read, mapped, with}
use Rattle.name_resolve.specs.Scopes.{Scopes}
use Rattle.name_resolve.specs.TermForms.{exprs, atoms, dims}
use Rattle.name_resolve.proofs.HeaderLemmas.{literal_dims, array_items, frame_items, applied_some}
use Rattle.name_resolve.proofs.ListLemmas.{count_of}
use Rattle.name_resolve.proofs.Refusals.{same_refusal, refuses-mapped, refuses-with}

some_count : (xs : List Sexp) → false ≡ (length xs == 0) → nat_lt 0 (forms_count (forms_of xs)) ≡ true
some_count [] h = absurd (cc)
some_count (x ∷ xs) h = lt-ltb 0 (1 + forms_count (forms_of xs)) (omega arith)

-- an application with an argument
module _ (a : Argument) (Γ : Scopes) (at : Span) (xs : List Sexp) (r : Read Expr) (some : false ≡ (length xs == 0)) where
  applied_is : applied_read a Γ at (forms_of xs) r ≡ with r (applied_of a Γ at (forms_of xs))
  applied_is = applied_some a Γ at (forms_of xs) r (some_count xs some)

  pub applied_refused : (e : NameRefusal) → Refuses e r → Refuses e (applied_read a Γ at (forms_of xs) r)
  applied_refused e h = same_refusal e _ _ applied_is (refuses-with e r (applied_of a Γ at (forms_of xs)) h)

  pub applied_to : (f : Expr) → r ≡ Ok f → applied_read a Γ at (forms_of xs) r ≡ applied_of a Γ at (forms_of xs) f
  applied_to f h = applied_is ∙ ap (λ s. with s (applied_of a Γ at (forms_of xs))) h

-- an array or a frame
module _ (l : Literal) (Γ : Scopes) (at : Span) (p : Form) (xs : List Sexp) where
  abbrev pub the_literal : Read Expr
  the_literal = literal_read l Γ at p (forms_of xs)

  counted : the_literal ≡ with (dims at p (length xs)) (literal_of l Γ at (forms_of xs))
  counted = literal_dims l Γ at p (forms_of xs) ∙ ap (λ n. with (dims at p n) (literal_of l Γ at (forms_of xs))) (count_of xs)

  pub dims_refused : (e : NameRefusal) → Refuses e (dims at p (length xs)) → Refuses e the_literal
  dims_refused e h = same_refusal e the_literal _ counted (refuses-with e (dims at p (length xs)) (literal_of l Γ at (forms_of xs)) h)

  module _ (ns : List ℕ) (read : dims at p (length xs) ≡ Ok ns) where
    pub literal_is : the_literal ≡ literal_of l Γ at (forms_of xs) ns
    literal_is = counted ∙ ap (λ r. with r (literal_of l Γ at (forms_of xs))) read

    module _ (some : (product ns == 0) ≡ false) where
      array_is : l ≡ literal.Array → the_literal ≡ mapped (Array at ns) (atoms Γ (forms_of xs))
      array_is e = literal_is ∙ ap (λ k. literal_of k Γ at (forms_of xs) ns) e ∙ array_items Γ at (forms_of xs) ns some

      frame_is : l ≡ literal.Frame → the_literal ≡ mapped (Frame at ns) (exprs Γ (forms_of xs))
      frame_is e = literal_is ∙ ap (λ k. literal_of k Γ at (forms_of xs) ns) e ∙ frame_items Γ at (forms_of xs) ns some

      pub atoms_refused : l ≡ literal.Array → (e : NameRefusal) → Refuses e (atoms Γ (forms_of xs)) → Refuses e the_literal
      atoms_refused k e h = same_refusal e the_literal _ (array_is k) (refuses-mapped e (Array at ns) (atoms Γ (forms_of xs)) h)

      pub atoms_read : l ≡ literal.Array → (ys : Atoms) → atoms Γ (forms_of xs) ≡ Ok ys → the_literal ≡ Ok (Array at ns ys)
      atoms_read k ys h = array_is k ∙ ap (mapped (Array at ns)) h

      pub cells_refused : l ≡ literal.Frame → (e : NameRefusal) → Refuses e (exprs Γ (forms_of xs)) → Refuses e the_literal
      cells_refused k e h = same_refusal e the_literal _ (frame_is k) (refuses-mapped e (Frame at ns) (exprs Γ (forms_of xs)) h)

      pub cells_read : l ≡ literal.Frame → (es : Exprs) → exprs Γ (forms_of xs) ≡ Ok es → the_literal ≡ Ok (Frame at ns es)
      cells_read k es h = frame_is k ∙ ap (mapped (Frame at ns)) h
