-- `unbox` by what stands around its expressions, and atoms by what stands around theirs.
use Rattle.std.proofs.Common.{◌≡◌, refl, ap, ◌∙◌, ℕ, List, [], ◌∷◌, length, Option, Some, None, Ok, Err}
use Rattle.core_syntax.specs.declared.span.Span.{Span}
use Rattle.core_syntax.specs.Syntax.{Ty, Expr, Unbox, Atom}
use Rattle.sexp_reader.specs.Forms.{Form, Forms, no_forms, more_forms}
use Rattle.name_resolve.specs.declared.errors.NameRefusal.{NameRefusal}
use Rattle.name_resolve.specs.declared.words.AtomWord.{AtomWord}
use Rattle.name_resolve.specs.declared.words.NameSpace.TheVariants.{Terms, Indices}
use Rattle.name_resolve.specs.Answers.{Refuses}
use Rattle.name_resolve.specs.Binders.{Binder, binder, binders, bound_names}
use Rattle.name_resolve.specs.Headers.{Header, header}
use Rattle.name_resolve.specs.Lists.{Hidden, hidden}
use Rattle.name_resolve.specs.Reading.{Read, with, both, three, asked}
use Rattle.name_resolve.specs.Scopes.{Name, Scopes, under}
use Rattle.name_resolve.specs.TermForms.{unbox, expr, list_atom, nth_expr, last_in}
use Rattle.name_resolve.specs.TypeForms.{array_ty}
use Rattle.name_resolve.specs.Unboxings.{Unboxing, unboxing, inside, unboxed}
use Rattle.name_resolve.proofs.HeaderLemmas.{whole, atom_whole}
use Rattle.name_resolve.proofs.Refusals.{same_refusal, refuses-with, refuses-both, refuses-three}

-- an atom whose header is read
module _ (Γ : Scopes) (at : Span) (w : AtomWord) (p : Form) (fs : Forms) where
  abbrev pub the_atom : Read Atom
  the_atom = list_atom Γ at w p fs (λ k Δ. nth_expr k Δ fs)

  pub header_refused : (e : NameRefusal) → Refuses e (header Γ at w p fs) → Refuses e the_atom
  header_refused e h = same_refusal e the_atom (whole Γ (header Γ at w p fs)) (atom_whole Γ at p w fs) (refuses-with e (header Γ at w p fs) _ h)

  module _ (h : Header) (read : header Γ at w p fs ≡ Ok h) where
    atom_is : the_atom ≡ with (expr (under h.space h.names Γ) h.body) h.done
    atom_is = atom_whole Γ at p w fs ∙ ap (whole Γ) read

    pub atom_refused : (e : NameRefusal) → Refuses e (expr (under h.space h.names Γ) h.body) → Refuses e the_atom
    atom_refused e r = same_refusal e the_atom _ atom_is (refuses-with e (expr (under h.space h.names Γ) h.body) h.done r)

    pub atom_read : (u : Expr) → expr (under h.space h.names Γ) h.body ≡ Ok u → the_atom ≡ h.done u
    atom_read u e = atom_is ∙ ap (λ r. with r h.done) e

-- an `unbox` with this box
unbox_whole : (Γ : Scopes) (at : Span) (p : Form) (fs : Forms) (box : Read Expr) → unbox Γ at p fs box (λ Δ. nth_expr 1 Δ fs) ≡ with (unboxing at p fs) (unboxed Γ at box)
unbox_whole Γ at p no_forms box = refl
unbox_whole Γ at p (more_forms q no_forms) box = refl
unbox_whole Γ at p (more_forms q (more_forms e (more_forms g gs))) box = refl
unbox_whole Γ at p (more_forms q (more_forms e no_forms)) box = go (hidden p)
  where
    made : List Name → Binder → Unboxing
    made xs b = record { indices = xs; term = b.name; answer = q; body = e }

    meant : List Name → Binder → Read Expr
    meant xs b = three (Unbox at (length xs)) box (array_ty Γ q) (expr (under Terms (b.name ∷ []) (under Indices xs Γ)) e)

    names : (b : Binder) (r : Read (List Name)) → with r (λ xs. meant xs b) ≡ with (with r (λ xs. Ok (made xs b))) (unboxed Γ at box)
    names b (Ok xs) = refl
    names b (Err r) = refl

    term : (h : Hidden) (o : Option Binder) → asked at o (λ b. with (bound_names at (binders (binder Indices) h.indices)) (λ xs. meant xs b))
        ≡ with (asked at o (λ b. with (bound_names at (binders (binder Indices) h.indices)) (λ xs. Ok (made xs b)))) (unboxed Γ at box)
    term h (Some b) = names b (bound_names at (binders (binder Indices) h.indices))
    term h None = refl

    go : (o : Option Hidden) → asked at o (λ h. asked at (binder Terms h.term) (λ b. with (bound_names at (binders (binder Indices) h.indices)) (λ xs. meant xs b)))
        ≡ with (asked at o (λ h. asked at (binder Terms h.term) (λ b. with (bound_names at (binders (binder Indices) h.indices)) (λ xs. Ok (made xs b))))) (unboxed Γ at box)
    go (Some h) = term h (binder Terms h.term)
    go None = refl

module _ (Γ : Scopes) (at : Span) (p : Form) (fs : Forms) where
  abbrev pub the_unbox : Read Expr
  the_unbox = unbox Γ at p fs (last_in Γ p) (λ Δ. nth_expr 1 Δ fs)

  pub unboxing_refused : (e : NameRefusal) → Refuses e (unboxing at p fs) → Refuses e the_unbox
  unboxing_refused e h = same_refusal e the_unbox _ (unbox_whole Γ at p fs (last_in Γ p)) (refuses-with e (unboxing at p fs) _ h)

  module _ (u : Unboxing) (h : unboxing at p fs ≡ Ok u) (box : Read Expr) (l : last_in Γ p ≡ box) where
    unbox_is : the_unbox ≡ unboxed Γ at box u
    unbox_is = ap (λ b. unbox Γ at p fs b (λ Δ. nth_expr 1 Δ fs)) l ∙ unbox_whole Γ at p fs box ∙ ap (λ r. with r (unboxed Γ at box)) h

    pub box_refused : (e : NameRefusal) → Refuses e box → Refuses e the_unbox
    box_refused e r = same_refusal e the_unbox _ unbox_is (refuses-three e (Unbox at (length u.indices)) box (array_ty Γ u.answer) (expr (inside u Γ) u.body) r)

    module _ (v : Expr) (b : box ≡ Ok v) where
      answered : the_unbox ≡ both (Unbox at (length u.indices) v) (array_ty Γ u.answer) (expr (inside u Γ) u.body)
      answered = unbox_is ∙ ap (λ r. three (Unbox at (length u.indices)) r (array_ty Γ u.answer) (expr (inside u Γ) u.body)) b

      pub answer_refused : (e : NameRefusal) → Refuses e (array_ty Γ u.answer) → Refuses e the_unbox
      answer_refused e r = same_refusal e the_unbox _ answered (refuses-both e (Unbox at (length u.indices) v) (array_ty Γ u.answer) (expr (inside u Γ) u.body) r)

      module _ (t : Ty) (a : array_ty Γ u.answer ≡ Ok t) where
        bodied : the_unbox ≡ with (expr (inside u Γ) u.body) (λ w. Ok (Unbox at (length u.indices) v t w))
        bodied = answered ∙ ap (λ r. both (Unbox at (length u.indices) v) r (expr (inside u Γ) u.body)) a ∙ go (expr (inside u Γ) u.body)
          where
            go : (r : Read Expr) → both (Unbox at (length u.indices) v) (Ok t) r ≡ with r (λ w. Ok (Unbox at (length u.indices) v t w))
            go (Ok w) = refl
            go (Err e) = refl

        pub body_refused : (e : NameRefusal) → Refuses e (expr (inside u Γ) u.body) → Refuses e the_unbox
        body_refused e r = same_refusal e the_unbox _ bodied (refuses-with e (expr (inside u Γ) u.body) _ r)

        pub unbox_read : (w : Expr) (n : ℕ) → expr (inside u Γ) u.body ≡ Ok w → length u.indices ≡ n → the_unbox ≡ Ok (Unbox at n v t w)
        unbox_read w n r l = bodied ∙ ap (λ r. with r (λ w. Ok (Unbox at (length u.indices) v t w))) r ∙ ap (λ k. Ok (Unbox at k v t w)) l
