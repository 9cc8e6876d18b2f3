-- One step after another: what is found of the parts before, and the state behind them.
use Rattle.std.proofs.Common.{◌≡◌, refl, sym, ◌∙◌, ap, subst, ℕ, zero, suc, ◌+◌, ◌<◌, ◌≤◌, arith, ℤ, Bool, List, [], ◌∷◌, ◌++◌, append_assoc, append-nil, length, Ok, Err, Result, inl, inr, get_or, take, take_all}
use Rattle.std.specs.Prelude.{IsErrAnd}
use Rattle.core_syntax.specs.declared.expr.Expr.{Expr as ExprTree}
use Rattle.core_syntax.specs.declared.expr.Atom.{Atom as AtomTree}
use Rattle.core_syntax.specs.declared.note.Note.{Note}
use Rattle.core_syntax.specs.declared.span.Span.{Span}
use Rattle.core_syntax.specs.declared.ty.Base.TheVariants as base
use Rattle.core_syntax.specs.declared.ty.Ty.{Ty as Tree}
use Rattle.core_syntax.specs.Syntax.{Ty, BaseTy, no_span, Expr, Exprs, no_exprs, more_exprs, expr_items, Array, Frame, Atom, Atoms, no_atoms, more_atoms, atom_items, IntAtom, BoolAtom, CharAtom}
use Rattle.core_syntax.specs.Lists.{onto, each, EachTwo}
use Rattle.core_syntax.specs.Made.{Scope, ExprMade, ExprsMade, AtomMade, AtomsMade}
use Rattle.core_syntax.specs.Notes.{NodeNote, note_of}
use Rattle.core_syntax.specs.Refine.{ty_of, expr_of, exprs_of, atom_of, atoms_of}
use Rattle.core_syntax.specs.TypeEqual.{Same}
use Rattle.core_syntax.specs.Typing.{Context}
use Rattle.core_syntax.specs.Blame.{Premises, expr_premises, atom_premises, later_atoms, later_cells}
use Rattle.core_syntax.proofs.Equality.{same_refl}
use Rattle.type_check.specs.declared.concluded.Concluded.{Concluded}
use Rattle.type_check.specs.declared.refusal.TypeRefusal.{TypeRefusal}
use Rattle.type_check.specs.declared.refusal.TypeRefusal.TheVariants.{Refused, Memory}
use Rattle.type_check.specs.Answers.{Finding, Answers, ExprAnswers, NodeAnswers, AtomAnswers, AtomsAnswer, LaterAtomAnswers, CellsAnswer, LaterCellAnswers}
use Rattle.type_check.specs.Contexts.{Like, IsSound, scope_of}
use Rattle.type_check.specs.Found.{Refuses, Found, FoundAtom}
use Rattle.type_check.specs.FoundParts.{FoundAtoms, FoundCells}
use Rattle.type_check.specs.State.{State, context_of, IsSteady}
use Rattle.type_check.proofs.one_by_one.NodeLemmas.{unchanged}
use Rattle.type_check.proofs.one_by_one.PartsTested.{atom_refused, cell_refused, atoms_step, atoms_refused, cells_step, cells_refused}

-- ---- states to which notes are added

module _ (P : Context → List NodeNote → Type 0) (old now : State) (f : Finding P old now) where
  pub steady_after : IsSteady old → IsSteady now
  steady_after h = subst IsSteady (sym f.1) (record { ready = h.ready; older = h.older })

  pub made_after : (F : Scope → Type 0) → F (scope_of (context_of old)) → F (scope_of (context_of now))
  made_after F h = subst (λ (s : State). F (scope_of (context_of s))) (sym f.1) h

  pub like_after : (Γ : Context) → Like Γ (context_of old) → Like Γ (context_of now)
  like_after Γ l = subst (λ (s : State). Like Γ (context_of s)) (sym f.1) l

  pub then_finds : (Q R : Context → List NodeNote → Type 0) (later : State) → Finding Q now later → ((Γ : Context) (ns ms : List NodeNote) → P Γ ns → Q Γ ms → R Γ (ns ++ ms)) → Finding R old later
  then_finds Q R later g h = (f.0 ++ g.0, later_is, λ Γ l. subst (R Γ) (sym (each_append note_of f.0 g.0)) (h Γ (each note_of f.0) (each note_of g.0) (f.2 Γ l) (g.2 Γ (like_after Γ l))))
    where
      each_append : {A B : Type 0} (f : A → B) (xs ys : List A) → each f (xs ++ ys) ≡ each f xs ++ each f ys
      each_append f [] ys = refl
      each_append f (x ∷ xs) ys = ap (λ zs. f x ∷ zs) (each_append f xs ys)

      later_is : later ≡ record old { notes = old.notes ++ (f.0 ++ g.0) }
      later_is = g.1 ∙ ap (λ (s : State). record s { notes = s.notes ++ g.0 }) f.1 ∙ ap (λ (ns : List Note). record old { notes = ns }) (append_assoc old.notes f.0 g.0)

  pub then_refuses : (qs rs : Context → Premises) (r : TypeRefusal) → ((Γ : Context) → Like Γ (context_of now) → Refuses (qs Γ) r)
      → ((Γ : Context) (ns : List NodeNote) → P Γ ns → Refuses (qs Γ) r → Refuses (rs Γ) r) → (Γ : Context) → Like Γ (context_of old) → Refuses (rs Γ) r
  then_refuses qs rs r g h Γ l = h Γ (each note_of f.0) (f.2 Γ l) (g Γ (like_after Γ l))

two_same : (ts : List Ty) → EachTwo Same ts ts
two_same [] = tt
two_same (t ∷ ts) = (same_refl t, two_same ts)

pub like_itself : (N : Context) → Like N N
like_itself N = record { types = refl; sorts = refl; defs = two_same N.defs; terms = two_same N.terms }

-- the type that is found of an expression is sound where the expression stands
pub sound_after : (old now : State) (e : Expr) (t : Ty) → Finding (λ Γ. Found Γ e t) old now → IsSound now.types (onto now.sorts []) t
sound_after old now e t f = subst (λ (s : State). IsSound s.types (onto s.sorts []) t) (sym f.1) (f.2 (context_of old) (like_itself (context_of old))).sound

-- nothing was found yet
pub at_first : (P : Context → List NodeNote → Type 0) (s : State) → ((Γ : Context) → P Γ []) → Finding P s s
at_first P s h = ([], unchanged s, λ Γ l. h Γ)

-- ---- arrays

array_first : (Γ : Context) (at : Span) (dims : List ℕ) (x : Atom) (xs : Atoms) (r : TypeRefusal) → Refuses (atom_premises Γ x) r → Refuses (expr_premises Γ (Array at dims (more_atoms x xs))) r
array_first Γ at dims x xs (Refused n s) h = inl (inl h)
array_first Γ at dims x xs Memory h = tt

array_behind : (Γ : Context) (at : Span) (dims : List ℕ) (x : Atom) (xs : Atoms) (t : Ty) (ns : List NodeNote) (r : TypeRefusal) → FoundAtom Γ x t ns → Refuses (later_atoms Γ t xs) r → Refuses (expr_premises Γ (Array at dims (more_atoms x xs))) r
array_behind Γ at dims x xs t ns (Refused n s) f h = inl (inr (f.met, (t, f.has, h)))
array_behind Γ at dims x xs t ns Memory f h = tt

frame_first : (Γ : Context) (at : Span) (dims : List ℕ) (x : Expr) (xs : Exprs) (r : TypeRefusal) → Refuses (expr_premises Γ x) r → Refuses (expr_premises Γ (Frame at dims (more_exprs x xs))) r
frame_first Γ at dims x xs (Refused n s) h = inl (inl h)
frame_first Γ at dims x xs Memory h = tt

frame_behind : (Γ : Context) (at : Span) (dims : List ℕ) (x : Expr) (xs : Exprs) (t : Ty) (ns : List NodeNote) (r : TypeRefusal) → Found Γ x t ns → Refuses (later_cells Γ t xs) r → Refuses (expr_premises Γ (Frame at dims (more_exprs x xs))) r
frame_behind Γ at dims x xs t ns (Refused n s) f h = inl (inr (f.met, (t, f.has, h)))
frame_behind Γ at dims x xs t ns Memory f h = tt

pub literal_refused : (old now later : State) (at : Span) (dims : List ℕ) (x : Atom) (xs ys : Atoms) (r : TypeRefusal) → ys ≡ more_atoms x xs → ((Γ : Context) → Like Γ (context_of old) → Refuses (atom_premises Γ x) r) → NodeAnswers old now (Array at dims ys) (Err r)
literal_refused old now later at dims x xs ys r e h =
    subst (λ zs. NodeAnswers old now (Array at dims zs) (Err r)) (sym e) (λ Γ l. array_first Γ at dims x xs r (h Γ l))

pub later_refused : (before old now : State) (at : Span) (dims : List ℕ) (x : Atom) (xs : Atoms) (t : Ty) (r : TypeRefusal) → Finding (λ Γ. FoundAtom Γ x t) before old
    → ((Γ : Context) → Like Γ (context_of old) → Refuses (later_atoms Γ t xs) r) → NodeAnswers before now (Array at dims (more_atoms x xs)) (Err r)
later_refused before old now at dims x xs t r f h =
    then_refuses (λ Γ. FoundAtom Γ x t) before old f (λ Γ. later_atoms Γ t xs) (λ Γ. expr_premises Γ (Array at dims (more_atoms x xs))) r h
    (λ Γ ns found q. array_behind Γ at dims x xs t ns r found q)

module _ (t : Ty) (xs : List AtomTree) (k : ℕ) (x : AtomTree) (lt : k < length xs) (is : x ≡ get_or xs k x) (old mid : State) (f : Finding (λ Γ. FoundAtoms Γ t (atoms_of (take k xs))) old mid) where
  pub atoms_go_on : (now : State) → Finding (λ Γ. FoundAtoms Γ t (more_atoms (atom_of x) no_atoms)) mid now → Finding (λ Γ. FoundAtoms Γ t (atoms_of (take (k + 1) xs))) old now
  atoms_go_on now a =
      then_finds (λ Γ. FoundAtoms Γ t (atoms_of (take k xs))) old mid f (λ Γ. FoundAtoms Γ t (more_atoms (atom_of x) no_atoms)) (λ Γ. FoundAtoms Γ t (atoms_of (take (k + 1) xs))) now a
      (λ Γ ns ms p q. atoms_step Γ t xs k x lt is ns p ms q)

  pub atoms_stop : (r : TypeRefusal) → ((Γ : Context) → Like Γ (context_of mid) → (ys : Atoms) → Refuses (later_atoms Γ t (more_atoms (atom_of x) ys)) r) → (Γ : Context) → Like Γ (context_of old) → Refuses (later_atoms Γ t (atoms_of xs)) r
  atoms_stop r a Γ l = atoms_refused Γ t xs k x lt is (each note_of f.0) (f.2 Γ l) r (a Γ (like_after (λ Γ. FoundAtoms Γ t (atoms_of (take k xs))) old mid f Γ l))

  pub made_atom : (Γ : Scope) → AtomsMade Γ (atoms_of xs) → AtomMade Γ (atom_of x)
  made_atom Γ m = subst (λ y. AtomMade Γ (atom_of y)) (sym is) (at xs k lt m)
    where
      at : (xs : List AtomTree) (k : ℕ) → k < length xs → AtomsMade Γ (atoms_of xs) → AtomMade Γ (atom_of (get_or xs k x))
      at [] k lt m = absurd (omega arith)
      at (y ∷ ys) zero lt m = m.0
      at (y ∷ ys) (suc k) lt m = at ys k (omega arith) m.1

-- ---- frames

pub frame_refused : (old now later : State) (at : Span) (dims : List ℕ) (x : Expr) (xs ys : Exprs) (r : TypeRefusal) → ys ≡ more_exprs x xs → ((Γ : Context) → Like Γ (context_of old) → Refuses (expr_premises Γ x) r) → NodeAnswers old now (Frame at dims ys) (Err r)
frame_refused old now later at dims x xs ys r e h =
    subst (λ zs. NodeAnswers old now (Frame at dims zs) (Err r)) (sym e) (λ Γ l. frame_first Γ at dims x xs r (h Γ l))

pub cells_later_refused : (before old now : State) (at : Span) (dims : List ℕ) (x : Expr) (xs : Exprs) (t : Ty) (r : TypeRefusal) → Finding (λ Γ. Found Γ x t) before old
    → ((Γ : Context) → Like Γ (context_of old) → Refuses (later_cells Γ t xs) r) → NodeAnswers before now (Frame at dims (more_exprs x xs)) (Err r)
cells_later_refused before old now at dims x xs t r f h =
    then_refuses (λ Γ. Found Γ x t) before old f (λ Γ. later_cells Γ t xs) (λ Γ. expr_premises Γ (Frame at dims (more_exprs x xs))) r h
    (λ Γ ns found q. frame_behind Γ at dims x xs t ns r found q)

module _ (t : Ty) (xs : List ExprTree) (k : ℕ) (x : ExprTree) (lt : k < length xs) (is : x ≡ get_or xs k x) (old mid : State) (f : Finding (λ Γ. FoundCells Γ t (exprs_of (take k xs))) old mid) where
  pub cells_go_on : (now : State) → Finding (λ Γ. FoundCells Γ t (more_exprs (expr_of x) no_exprs)) mid now → Finding (λ Γ. FoundCells Γ t (exprs_of (take (k + 1) xs))) old now
  cells_go_on now a =
      then_finds (λ Γ. FoundCells Γ t (exprs_of (take k xs))) old mid f (λ Γ. FoundCells Γ t (more_exprs (expr_of x) no_exprs)) (λ Γ. FoundCells Γ t (exprs_of (take (k + 1) xs))) now a
      (λ Γ ns ms p q. cells_step Γ t xs k x lt is ns p ms q)

  pub cells_stop : (r : TypeRefusal) → ((Γ : Context) → Like Γ (context_of mid) → (ys : Exprs) → Refuses (later_cells Γ t (more_exprs (expr_of x) ys)) r) → (Γ : Context) → Like Γ (context_of old) → Refuses (later_cells Γ t (exprs_of xs)) r
  cells_stop r a Γ l = cells_refused Γ t xs k x lt is (each note_of f.0) (f.2 Γ l) r (a Γ (like_after (λ Γ. FoundCells Γ t (exprs_of (take k xs))) old mid f Γ l))

  pub made_cell : (Γ : Scope) → ExprsMade Γ (exprs_of xs) → ExprMade Γ (expr_of x)
  made_cell Γ m = subst (λ y. ExprMade Γ (expr_of y)) (sym is) (at xs k lt m)
    where
      at : (xs : List ExprTree) (k : ℕ) → k < length xs → ExprsMade Γ (exprs_of xs) → ExprMade Γ (expr_of (get_or xs k x))
      at [] k lt m = absurd (omega arith)
      at (y ∷ ys) zero lt m = m.0
      at (y ∷ ys) (suc k) lt m = at ys k (omega arith) m.1

-- ---- atoms of base types

pub int_found : (s : State) (at : Span) (z : ℤ) (t : Tree) → ty_of t ≡ BaseTy no_span base.Int → AtomAnswers s s (IntAtom at z) (Ok t)
int_found s at z t e = at_first (λ Γ. FoundAtom Γ (IntAtom at z) (ty_of t)) s
    (λ Γ. subst (λ u. FoundAtom Γ (IntAtom at z) u []) (sym e) (record { met = tt; has = (tt, refl); sound = record { formed = tt; top = refl; inside = tt }; notes = refl }))

pub bool_found : (s : State) (at : Span) (b : Bool) (t : Tree) → ty_of t ≡ BaseTy no_span base.Bool → AtomAnswers s s (BoolAtom at b) (Ok t)
bool_found s at b t e = at_first (λ Γ. FoundAtom Γ (BoolAtom at b) (ty_of t)) s
    (λ Γ. subst (λ u. FoundAtom Γ (BoolAtom at b) u []) (sym e) (record { met = tt; has = (tt, refl); sound = record { formed = tt; top = refl; inside = tt }; notes = refl }))

pub char_found : (s : State) (at : Span) (n : ℕ) (t : Tree) → ty_of t ≡ BaseTy no_span base.Char → AtomAnswers s s (CharAtom at n) (Ok t)
char_found s at n t e = at_first (λ Γ. FoundAtom Γ (CharAtom at n) (ty_of t)) s
    (λ Γ. subst (λ u. FoundAtom Γ (CharAtom at n) u []) (sym e) (record { met = tt; has = (tt, refl); sound = record { formed = tt; top = refl; inside = tt }; notes = refl }))

-- ---- loops

pub atoms_at_first : (s : State) (t : Ty) → Finding (λ Γ. FoundAtoms Γ t no_atoms) s s
atoms_at_first s t = at_first (λ Γ. FoundAtoms Γ t no_atoms) s (λ Γ. record { met = tt; have = tt; notes = refl })

pub cells_at_first : (s : State) (t : Ty) → Finding (λ Γ. FoundCells Γ t no_exprs) s s
cells_at_first s t = at_first (λ Γ. FoundCells Γ t no_exprs) s (λ Γ. record { met = tt; have = tt; notes = refl })

pub atoms_at_end : (old now : State) (t : Ty) (xs : List AtomTree) (k : ℕ) → length xs ≤ k → Finding (λ Γ. FoundAtoms Γ t (atoms_of (take k xs))) old now → Finding (λ Γ. FoundAtoms Γ t (atoms_of xs)) old now
atoms_at_end old now t xs k h f = subst (λ ys. Finding (λ Γ. FoundAtoms Γ t (atoms_of ys)) old now) (take_all k xs h) f

pub cells_at_end : (old now : State) (t : Ty) (xs : List ExprTree) (k : ℕ) → length xs ≤ k → Finding (λ Γ. FoundCells Γ t (exprs_of (take k xs))) old now → Finding (λ Γ. FoundCells Γ t (exprs_of xs)) old now
cells_at_end old now t xs k h f = subst (λ ys. Finding (λ Γ. FoundCells Γ t (exprs_of ys)) old now) (take_all k xs h) f

-- the answer of a `?` carries the refusal on
pub atoms_carried : {V : Type 0} (t : Ty) (xs : Atoms) (old now : State) (o : Result V TypeRefusal) (e : TypeRefusal) → IsErrAnd o (λ x. x ≡ e) → ((Γ : Context) → Like Γ (context_of old) → Refuses (later_atoms Γ t xs) e) → AtomsAnswer t xs old now o
atoms_carried t xs old now (Ok v) e h k = absurd h
atoms_carried t xs old now (Err x) e h k = λ Γ l. subst (Refuses (later_atoms Γ t xs)) (sym h) (k Γ l)

pub cells_carried : {V : Type 0} (t : Ty) (es : Exprs) (old now : State) (o : Result V TypeRefusal) (e : TypeRefusal) → IsErrAnd o (λ x. x ≡ e) → ((Γ : Context) → Like Γ (context_of old) → Refuses (later_cells Γ t es) e) → CellsAnswer t es old now o
cells_carried t es old now (Ok v) e h k = absurd h
cells_carried t es old now (Err x) e h k = λ Γ l. subst (Refuses (later_cells Γ t es)) (sym h) (k Γ l)

-- ---- what is made of the parts of a list

pub atoms_count : (xs : List AtomTree) → length (atom_items (atoms_of xs)) ≡ length xs
atoms_count [] = refl
atoms_count (x ∷ xs) = ap suc (atoms_count xs)

pub exprs_count : (es : List ExprTree) → length (expr_items (exprs_of es)) ≡ length es
exprs_count [] = refl
exprs_count (e ∷ es) = ap suc (exprs_count es)
