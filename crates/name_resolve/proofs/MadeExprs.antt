-- Expressions and atoms that are read are well made.
use Rattle.std.proofs.Common.{◌≡◌, sym, ap, subst, ◌∙◌, ℕ, zero, suc, ◌+◌, ◌*◌, ◌≤◌, ◌^◌, arith, length, Option, Some, None, Ok, Err}
use Rattle.core_syntax.specs.declared.span.Span.{Span}
use Rattle.core_syntax.specs.Made.{ExprsMade, AtomsMade, exprs_nodes, atoms_nodes}
use Rattle.core_syntax.specs.Syntax.{Expr, Exprs, no_exprs, more_exprs, expr_items, Atom, Atoms, no_atoms, more_atoms, atom_items}
use Rattle.sexp_reader.specs.Forms.{Form, Group, Forms, no_forms, more_forms, form_size, forms_size, forms_count, IsShort, AreShort}
use Rattle.sexp_reader.specs.Forms as form
use Rattle.name_resolve.specs.declared.words.AtomWord.{AtomWord}
use Rattle.name_resolve.specs.declared.words.AtomWord.TheVariants as atom_word
use Rattle.name_resolve.specs.declared.words.ExprWord.{ExprWord}
use Rattle.name_resolve.specs.declared.words.ExprWord.TheVariants as expr_word
use Rattle.name_resolve.specs.Reading.{Read, mapped}
use Rattle.name_resolve.specs.Scopes.{Scopes, HasRoom}
use Rattle.name_resolve.specs.TermForms.{scalar, atom_head, expr_head, Parts, list_atom, array, frame, unbox, type_app, index_app, app, expr, exprs, atom, atoms, nth_expr, last_in, last}
use Rattle.name_resolve.proofs.ReadOk.{mapped_ok, both_ok}
use Rattle.name_resolve.proofs.RoomLemmas.{room_less}
use Rattle.name_resolve.proofs.MadeTypes.{sizes}
use Rattle.name_resolve.proofs.MadeForms.{MadeExpr, MadeAtom, ReadsExpr, scalar_made, token_made, token_atom_made, array_made, frame_made, type_app_made, index_app_made, app_made, fn_made, type_fn_made, index_fn_made, box_made, unbox_made}

-- the same of a larger size
larger : (Γ : Scopes) (n m : ℕ) (e : Expr) → MadeExpr (sizes Γ) n e → n ≤ m → MadeExpr (sizes Γ) m e
larger Γ n m e h l = record { made = h.made; nodes = omega (arith, h.nodes) }

larger_atom : (Γ : Scopes) (n m : ℕ) (a : Atom) → MadeAtom (sizes Γ) n a → n ≤ m → MadeAtom (sizes Γ) m a
larger_atom Γ n m a h l = record { made = h.made; nodes = omega (arith, h.nodes) }

list_made : (Γ : Scopes) (at : Span) (w : AtomWord) (p : Form) (fs : Forms) (part : Parts) (a : Atom) → HasRoom Γ (form_size p + forms_size fs) → list_atom Γ at w p fs part ≡ Ok a →
    ((k : ℕ) → ReadsExpr (forms_size fs) (part k)) → MadeAtom (sizes Γ) (1 + forms_size fs) a
list_made Γ at atom_word.Fn p fs part a room h well = fn_made Γ at p fs (part 1) a room h (well 1)
list_made Γ at atom_word.TypeFn p fs part a room h well = type_fn_made Γ at p fs (part 0) a room h (well 0)
list_made Γ at atom_word.IndexFn p fs part a room h well = index_fn_made Γ at p fs (part 0) a room h (well 0)
list_made Γ at atom_word.Box p fs part a room h well = let r = room_less Γ _ _ room (omega arith) in box_made Γ at p fs (part 0 Γ) a r h (well 0 Γ r)

mutual
  pub made_expr : (Γ : Scopes) (f : Form) → HasRoom Γ (form_size f) → IsShort f → (e : Expr) → expr Γ f ≡ Ok e → MadeExpr (sizes Γ) (form_size f) e
  made_expr Γ (form.Atom at l) room short e h = token_made Γ at l e short h
  made_expr Γ (Group at no_forms) room short e h = absurd (cc)
  made_expr Γ (Group at (more_forms f no_forms)) room short e h = absurd (cc)
  made_expr Γ (Group at (more_forms f (more_forms p fs))) room short e h =
      go (expr_head f) (atom_head f) h
      (made_expr Γ f (room_less Γ _ _ room (omega arith)) short.1.0)
      (made_expr Γ p (room_less Γ _ _ room (omega arith)) short.1.1.0)
      (made_exprs Γ fs (room_less Γ _ _ room (omega arith)) short.1.1.1)
      (made_atoms Γ fs (room_less Γ _ _ room (omega arith)) short.1.1.1)
      (λ k Δ r u q. made_nth k Δ fs r short.1.1.1 u q)
      (λ u q. made_last_in Γ p (room_less Γ _ _ room (omega arith)) short.1.1.0 u q)
    where
      parts_room : HasRoom Γ (form_size p + forms_size fs)
      parts_room = room_less Γ _ _ room (omega arith)

      rest_room : HasRoom Γ (forms_size fs)
      rest_room = room_less Γ _ _ room (omega arith)

      few : forms_count fs ≤ 2 ^ 24
      few = omega (arith, short.0)

      n : ℕ
      n = form_size (Group at (more_forms f (more_forms p fs)))

      go : (o : Option ExprWord) (w : Option AtomWord) → ◌≡◌ {A = Read Expr} (elim o [
        | Some expr_word.Array ↦ array Γ at p fs (atoms Γ fs)
        | Some expr_word.Frame ↦ frame Γ at p fs (exprs Γ fs)
        | Some expr_word.Unbox ↦ unbox Γ at p fs (last_in Γ p) (λ Δ. nth_expr 1 Δ fs)
        | Some expr_word.TypeApp ↦ type_app Γ at fs (expr Γ p)
        | Some expr_word.IndexApp ↦ index_app Γ at fs (expr Γ p)
        | None ↦ elim w [
          | Some v ↦ mapped (scalar at) (list_atom Γ at v p fs (λ k Δ. nth_expr k Δ fs))
          | None ↦ app at (expr Γ f) (expr Γ p) (exprs Γ fs)
        ]
      ]) (Ok e) → ((u : Expr) → expr Γ f ≡ Ok u → MadeExpr (sizes Γ) (form_size f) u) → ((u : Expr) → expr Γ p ≡ Ok u → MadeExpr (sizes Γ) (form_size p) u) →
          ((es : Exprs) → exprs Γ fs ≡ Ok es → (length (expr_items es) ≡ forms_count fs) × ExprsMade (sizes Γ) es × (exprs_nodes es ≤ 2 * forms_size fs)) →
          ((xs : Atoms) → atoms Γ fs ≡ Ok xs → (length (atom_items xs) ≡ forms_count fs) × AtomsMade (sizes Γ) xs × (atoms_nodes xs ≤ 2 * forms_size fs)) →
          ((k : ℕ) → ReadsExpr (forms_size fs) (λ Δ. nth_expr k Δ fs)) → ((u : Expr) → last_in Γ p ≡ Ok u → MadeExpr (sizes Γ) (form_size p) u) → MadeExpr (sizes Γ) n e
      go (Some expr_word.Array) w h head first es xs parts box = larger Γ _ n e (array_made Γ at p fs (atoms Γ fs) e rest_room few h xs) (omega arith)
      go (Some expr_word.Frame) w h head first es xs parts box = larger Γ _ n e (frame_made Γ at p fs (exprs Γ fs) e rest_room few h es) (omega arith)
      go (Some expr_word.Unbox) w h head first es xs parts box = larger Γ _ n e (unbox_made Γ at p fs (last_in Γ p) (λ Δ. nth_expr 1 Δ fs) e parts_room h box (parts 1)) (omega arith)
      go (Some expr_word.TypeApp) w h head first es xs parts box = larger Γ _ n e (type_app_made Γ at (form_size p) fs (expr Γ p) e rest_room h first) (omega arith)
      go (Some expr_word.IndexApp) w h head first es xs parts box = larger Γ _ n e (index_app_made Γ at (form_size p) fs (expr Γ p) e h first) (omega arith)
      go None (Some v) h head first es xs parts box =
          let m = mapped_ok (scalar at) (list_atom Γ at v p fs (λ k Δ. nth_expr k Δ fs)) e h in
          subst (MadeExpr (sizes Γ) n) (sym m.made)
          (scalar_made (sizes Γ) n at m.part (larger_atom Γ _ n m.part (list_made Γ at v p fs (λ k Δ. nth_expr k Δ fs) m.part parts_room m.read parts) (omega arith)))
      go None None h head first es xs parts box =
          larger Γ _ n e (app_made (sizes Γ) at (form_size f) (form_size p) (forms_size fs) (expr Γ f) (expr Γ p) (exprs Γ fs) e h head first (λ us q. let i = es us q in (i.1, i.2))) (omega arith)

  pub made_exprs : (Γ : Scopes) (fs : Forms) → HasRoom Γ (forms_size fs) → AreShort fs → (es : Exprs) → exprs Γ fs ≡ Ok es →
      (length (expr_items es) ≡ forms_count fs) × ExprsMade (sizes Γ) es × (exprs_nodes es ≤ 2 * forms_size fs)
  made_exprs Γ no_forms room short es h =
      let q : no_exprs ≡ es = cc in (ap (λ us. length (expr_items us)) (sym q), subst (ExprsMade (sizes Γ)) q tt, omega (arith, ap exprs_nodes q))
  made_exprs Γ (more_forms f fs) room short es h =
      let b = both_ok more_exprs (expr Γ f) (exprs Γ fs) es h in
      let x = made_expr Γ f (room_less Γ _ _ room (omega arith)) short.0 b.left b.read in
      let i = made_exprs Γ fs (room_less Γ _ _ room (omega arith)) short.1 b.right b.later in
      (ap (λ us. length (expr_items us)) b.made ∙ omega (arith, i.0), subst (ExprsMade (sizes Γ)) (sym b.made) (x.made, i.1), omega (arith, ap exprs_nodes b.made, x.nodes, i.2))

  made_atom : (Γ : Scopes) (f : Form) → HasRoom Γ (form_size f) → IsShort f → (a : Atom) → atom Γ f ≡ Ok a → MadeAtom (sizes Γ) (form_size f) a
  made_atom Γ (form.Atom at l) room short a h = token_atom_made Γ at l a h
  made_atom Γ (Group at no_forms) room short a h = absurd (cc)
  made_atom Γ (Group at (more_forms f no_forms)) room short a h = absurd (cc)
  made_atom Γ (Group at (more_forms f (more_forms p fs))) room short a h =
      go (atom_head f) h (λ k Δ r u q. made_nth k Δ fs r short.1.1.1 u q)
    where
      go : (w : Option AtomWord) → ◌≡◌ {A = Read Atom} (elim w [ Some v ↦ list_atom Γ at v p fs (λ k Δ. nth_expr k Δ fs) | None ↦ Err (7, at) ]) (Ok a) →
          ((k : ℕ) → ReadsExpr (forms_size fs) (λ Δ. nth_expr k Δ fs)) → MadeAtom (sizes Γ) (form_size (Group at (more_forms f (more_forms p fs)))) a
      go (Some v) h parts = larger_atom Γ _ _ a (list_made Γ at v p fs (λ k Δ. nth_expr k Δ fs) a (room_less Γ _ _ room (omega arith)) h parts) (omega arith)
      go None h parts = absurd (cc)

  made_atoms : (Γ : Scopes) (fs : Forms) → HasRoom Γ (forms_size fs) → AreShort fs → (xs : Atoms) → atoms Γ fs ≡ Ok xs →
      (length (atom_items xs) ≡ forms_count fs) × AtomsMade (sizes Γ) xs × (atoms_nodes xs ≤ 2 * forms_size fs)
  made_atoms Γ no_forms room short xs h =
      let q : no_atoms ≡ xs = cc in (ap (λ us. length (atom_items us)) (sym q), subst (AtomsMade (sizes Γ)) q tt, omega (arith, ap atoms_nodes q))
  made_atoms Γ (more_forms f fs) room short xs h =
      let b = both_ok more_atoms (atom Γ f) (atoms Γ fs) xs h in
      let x = made_atom Γ f (room_less Γ _ _ room (omega arith)) short.0 b.left b.read in
      let i = made_atoms Γ fs (room_less Γ _ _ room (omega arith)) short.1 b.right b.later in
      (ap (λ us. length (atom_items us)) b.made ∙ omega (arith, i.0), subst (AtomsMade (sizes Γ)) (sym b.made) (x.made, i.1), omega (arith, ap atoms_nodes b.made, x.nodes, i.2))

  made_nth : (k : ℕ) (Γ : Scopes) (fs : Forms) → HasRoom Γ (forms_size fs) → AreShort fs → (e : Expr) → nth_expr k Γ fs ≡ Ok e → MadeExpr (sizes Γ) (forms_size fs) e
  made_nth k Γ no_forms room short e h = absurd (cc)
  made_nth zero Γ (more_forms f fs) room short e h = larger Γ _ _ e (made_expr Γ f (room_less Γ _ _ room (omega arith)) short.0 e h) (omega arith)
  made_nth (suc k) Γ (more_forms f fs) room short e h = larger Γ _ _ e (made_nth k Γ fs (room_less Γ _ _ room (omega arith)) short.1 e h) (omega arith)

  made_last_in : (Γ : Scopes) (f : Form) → HasRoom Γ (form_size f) → IsShort f → (e : Expr) → last_in Γ f ≡ Ok e → MadeExpr (sizes Γ) (form_size f) e
  made_last_in Γ (form.Atom at l) room short e h = absurd (cc)
  made_last_in Γ (Group at fs) room short e h = larger Γ _ _ e (made_last Γ fs (room_less Γ _ _ room (omega arith)) short.1 e h) (omega arith)

  made_last : (Γ : Scopes) (fs : Forms) → HasRoom Γ (forms_size fs) → AreShort fs → (e : Expr) → last Γ fs ≡ Ok e → MadeExpr (sizes Γ) (forms_size fs) e
  made_last Γ no_forms room short e h = absurd (cc)
  made_last Γ (more_forms f no_forms) room short e h = larger Γ _ _ e (made_expr Γ f (room_less Γ _ _ room (omega arith)) short.0 e h) (omega arith)
  made_last Γ (more_forms f (more_forms g gs)) room short e h = larger Γ _ _ e (made_last Γ (more_forms g gs) (room_less Γ _ _ room (omega arith)) short.1 e h) (omega arith)
