-- What a rule says of each context, of the state.
use Rattle.std.proofs.Common.{◌≡◌, sym, ap, subst, ◌∙◌, ℕ, arith, length, inl, List, [], ◌∷◌, ◌++◌, Ok, Err, Result}
use Rattle.core_syntax.specs.declared.index.Sort.{Sort}
use Rattle.core_syntax.specs.declared.note.Note.{Note}
use Rattle.core_syntax.specs.declared.ty.Ty.{Ty as Tree}
use Rattle.core_syntax.specs.Kinds.{IsWellFormed}
use Rattle.core_syntax.specs.declared.span.Span.{Span}
use Rattle.core_syntax.specs.Lists.{onto, each, Each}
use Rattle.core_syntax.specs.Made.{IsArray, TyMade, ArraysMade, IndexMade}
use Rattle.core_syntax.specs.NormTypes.{norm_ty}
use Rattle.core_syntax.specs.Notes.{NodeNote, note_of}
use Rattle.core_syntax.specs.Refine.{ty_of, tys_of}
use Rattle.core_syntax.specs.Syntax.{Index, Ty, BaseTy, TyVar, Fun, Forall, Pi, Sigma, Arr, Expr, NoAtoms, NoCells, Atom, no_atoms, more_atoms, no_exprs, more_exprs, no_tys, more_tys}
use Rattle.core_syntax.specs.Typing.{Context}
use Rattle.core_syntax.specs.Word.{Word}
use Rattle.core_syntax.specs.Blame.{expr_premises, written, written_atom}
use Rattle.type_check.specs.declared.concluded.Concluded.{Concluded}
use Rattle.type_check.specs.declared.refusal.TypeRefusal.{TypeRefusal}
use Rattle.type_check.specs.declared.refusal.TypeRefusal.TheVariants.{Refused, Memory}
use Rattle.type_check.specs.Answers.{Finding, NodeAnswers, AtomAnswers, LaterAtomAnswers, LaterCellAnswers, ArgAnswers}
use Rattle.type_check.specs.Boxes.{ConcludesAtom}
use Rattle.type_check.specs.Contexts.{Like, scope_of}
use Rattle.type_check.specs.Found.{Found, FoundAtom, Concludes, Refuses}
use Rattle.type_check.specs.FoundParts.{FoundAtoms, FoundCells, FoundArgs, TestsAtom, TestsCell, TestsArg}
use Rattle.type_check.specs.State.{State, context_of, IsSteady}
use Rattle.type_check.specs.Written.{IsWritten, HasScope, HasRoom}
use Rattle.type_check.proofs.contexts.Binding.{onto_length}
use Rattle.type_check.proofs.trees.MadeWritten.{made_written, atoms_written, inputs_written}
use Rattle.type_check.proofs.one_by_one.NodeLemmas.{unchanged}
use Rattle.type_check.proofs.one_by_one.Steps.{then_finds, like_after}

pub ruled_one : (before now : State) (e : Expr) (P : Context → List NodeNote → Type 0) → Finding P before now → (r : Result Concluded TypeRefusal)
    → ((Γ : Context) (ns : List NodeNote) → P Γ ns → Concludes Γ e ns r) → NodeAnswers before now e r
ruled_one before now e P f (Ok c) h = (f.0, f.1, λ Γ l. h Γ (each note_of f.0) (f.2 Γ l))
ruled_one before now e P f (Err r) h = λ Γ l. h Γ (each note_of f.0) (f.2 Γ l)

pub ruled_two : (before mid now : State) (e : Expr) (P Q : Context → List NodeNote → Type 0) → Finding P before mid → Finding Q mid now → (r : Result Concluded TypeRefusal)
    → ((Γ : Context) (ns ms : List NodeNote) → P Γ ns → Q Γ ms → Concludes Γ e (ns ++ ms) r) → NodeAnswers before now e r
ruled_two before mid now e P Q f g (Ok c) h = then_finds P before mid f Q (λ Γ ns. Found Γ e (ty_of c.ty) (note_of c.note ∷ ns)) now g h
ruled_two before mid now e P Q f g (Err r) h = λ Γ l. h Γ (each note_of f.0) (each note_of g.0) (f.2 Γ l) (g.2 Γ (like_after P before mid f Γ l))

pub tested_atom : {V : Type 0} (before now : State) (x : Atom) (u t : Ty) → Finding (λ Γ. FoundAtom Γ x u) before now → (r : Result V TypeRefusal)
    → ((Γ : Context) (ns : List NodeNote) → FoundAtom Γ x u ns → TestsAtom Γ t x ns r) → LaterAtomAnswers t x before now r
tested_atom before now x u t f (Ok v) h = (f.0, f.1, λ Γ l. h Γ (each note_of f.0) (f.2 Γ l))
tested_atom before now x u t f (Err r) h = λ Γ l. h Γ (each note_of f.0) (f.2 Γ l)

pub tested_cell : {V : Type 0} (before now : State) (e : Expr) (u t : Ty) → Finding (λ Γ. Found Γ e u) before now → (r : Result V TypeRefusal)
    → ((Γ : Context) (ns : List NodeNote) → Found Γ e u ns → TestsCell Γ t e ns r) → LaterCellAnswers t e before now r
tested_cell before now e u t f (Ok v) h = (f.0, f.1, λ Γ l. h Γ (each note_of f.0) (f.2 Γ l))
tested_cell before now e u t f (Err r) h = λ Γ l. h Γ (each note_of f.0) (f.2 Γ l)

pub tested_arg : (before now : State) (e : Expr) (u t : Ty) → Finding (λ Γ. Found Γ e u) before now → (r : Result Word TypeRefusal)
    → ((Γ : Context) (ns : List NodeNote) → Like Γ (context_of before) → Found Γ e u ns → TestsArg Γ t e ns r) → ArgAnswers t e before now r
tested_arg before now e u t f (Ok w) h = (f.0, f.1, λ Γ l. h Γ (each note_of f.0) l (f.2 Γ l))
tested_arg before now e u t f (Err r) h = λ Γ l. h Γ (each note_of f.0) l (f.2 Γ l)

pub formed_like : (Γ : Context) (before now : State) (t : Ty) → Like Γ (context_of before) → before.types ≡ now.types → before.sorts ≡ now.sorts → IsWellFormed now.types (onto now.sorts []) t → IsWellFormed Γ.types Γ.sorts t
formed_like Γ before now t l p q h =
    subst (λ n. IsWellFormed n Γ.sorts t) (sym (l.types ∙ p)) (subst (λ ss. IsWellFormed now.types ss t) (sym (l.sorts ∙ ap (λ ss. onto ss []) q)) h)

-- ---- written types

pub scope_like : (s : State) (Γ : Context) → Like Γ (context_of s) → HasScope s.types s.sorts Γ
scope_like s Γ l = record { types_are = l.types; sorts_are = l.sorts }

sorts_length : (ss : List Sort) → length (onto ss []) ≡ length ss
sorts_length ss = let e = onto_length ss [] in omega (arith, e)

pub room_of : (s : State) → IsSteady s → HasRoom s.types s.sorts
room_of s h = let e = sorts_length s.sorts in let l = h.ready.sorts_few in record { types_few = h.ready.types_few; sorts_few = omega (arith, e, l) }

pub written_of : (s : State) (t : Ty) → TyMade (scope_of (context_of s)) t → IsWritten s.types (length s.sorts) t
written_of s t m = subst (λ n. IsWritten s.types n t) (sorts_length s.sorts) (made_written (scope_of (context_of s)) t m)

pub types_written : (s : State) (ts : List Ty) → Each (TyMade (scope_of (context_of s))) ts → Each (IsWritten s.types (length s.sorts)) ts
types_written s ts m = subst (λ n. Each (IsWritten s.types n) ts) (sorts_length s.sorts) (atoms_written (scope_of (context_of s)) ts m)

pub indices_made : (s : State) (is : List Index) → Each (IndexMade (length (onto s.sorts []))) is → Each (IndexMade (length s.sorts)) is
indices_made s is m = subst (λ n. Each (IndexMade n) is) (sorts_length s.sorts) m

pub ruled_scoped : (before old now : State) (e : Expr) (P : Context → List NodeNote → Type 0) → Finding P before old → now ≡ old → (r : Result Concluded TypeRefusal)
    → ((Γ : Context) (ns : List NodeNote) → HasScope old.types old.sorts Γ → P Γ ns → Concludes Γ e ns r) → NodeAnswers before now e r
ruled_scoped before old now e P f kept (Ok c) h = (f.0, kept ∙ f.1, λ Γ l. h Γ (each note_of f.0) (scope_like old Γ (like_after P before old f Γ l)) (f.2 Γ l))
ruled_scoped before old now e P f kept (Err r) h = λ Γ l. h Γ (each note_of f.0) (scope_like old Γ (like_after P before old f Γ l)) (f.2 Γ l)

pub ruled_alone : (old now : State) (e : Expr) → now ≡ old → (r : Result Concluded TypeRefusal) → ((Γ : Context) → Like Γ (context_of old) → Concludes Γ e [] r) → NodeAnswers old now e r
ruled_alone old now e kept (Ok c) h = ([], kept ∙ unchanged old, h)
ruled_alone old now e kept (Err r) h = h

pub no_atoms_refused : (Γ : Context) (at : Span) (dims : List ℕ) (t : Ty) (r : TypeRefusal) → Refuses (written_atom Γ t) r → Refuses (expr_premises Γ (NoAtoms at dims t)) r
no_atoms_refused Γ at dims t (Refused n s) h = inl h
no_atoms_refused Γ at dims t Memory h = tt

pub no_cells_refused : (Γ : Context) (at : Span) (dims : List ℕ) (t : Ty) (r : TypeRefusal) → Refuses (written Γ t) r → Refuses (expr_premises Γ (NoCells at dims t)) r
no_cells_refused Γ at dims t (Refused n s) h = inl h
no_cells_refused Γ at dims t Memory h = tt

pub array_normal : (t : Ty) → IsArray t → IsArray (norm_ty t)
array_normal (BaseTy at b) h = h
array_normal (TyVar at k) h = h
array_normal (Fun at ts r) h = h
array_normal (Forall at n t) h = h
array_normal (Pi at ss t) h = h
array_normal (Sigma at ss t) h = h
array_normal (Arr at t i) h = h

pub atom_ruled : (before now : State) (a : Atom) (P : Context → List NodeNote → Type 0) → Finding P before now → (r : Result Tree TypeRefusal)
    → ((Γ : Context) (ns : List NodeNote) → Like Γ (context_of before) → P Γ ns → ConcludesAtom ty_of Γ a ns r) → AtomAnswers before now a r
atom_ruled before now a P f (Ok t) h = (f.0, f.1, λ Γ l. h Γ (each note_of f.0) l (f.2 Γ l))
atom_ruled before now a P f (Err r) h = λ Γ l. h Γ (each note_of f.0) l (f.2 Γ l)

pub ruled_two_like : (before mid now : State) (e : Expr) (P Q : Context → List NodeNote → Type 0) → Finding P before mid → Finding Q mid now → (r : Result Concluded TypeRefusal)
    → ((Γ : Context) (ns ms : List NodeNote) → Like Γ (context_of before) → P Γ ns → Q Γ ms → Concludes Γ e (ns ++ ms) r) → NodeAnswers before now e r
ruled_two_like before mid now e P Q f g r h =
    ruled_two before mid now e (λ Γ ns. Like Γ (context_of before) × P Γ ns) Q (f.0, f.1, λ Γ l. (l, f.2 Γ l)) g r (λ Γ ns ms p q. h Γ ns ms p.0 p.1 q)

pub inputs_written_of : (s : State) (ts : List Tree) → ArraysMade (scope_of (context_of s)) (tys_of ts) → Each (IsWritten s.types (length s.sorts)) (each ty_of ts)
inputs_written_of s ts m = subst (λ n. Each (IsWritten s.types n) (each ty_of ts)) (sorts_length s.sorts) (inputs_written (scope_of (context_of s)) ts m)
