-- What is found in a checker's context is found in each context like it.
use Rattle.std.proofs.Common.{◌≡◌, subst, ℕ, List}
use Rattle.std.specs.Prelude.{Result, Ok, Err}
use Rattle.core_syntax.specs.declared.index.Sort.{Sort}
use Rattle.core_syntax.specs.Syntax.{Ty, Expr, Atom}
use Rattle.core_syntax.specs.Kinds.{IsWellFormed}
use Rattle.core_syntax.specs.Typing.{Context}
use Rattle.core_syntax.specs.Blame.{expr_premises, atom_premises}
use Rattle.core_syntax.specs.Notes.{NodeNote}
use Rattle.core_syntax.proofs.Alike.{Alike, alike_sym, has_alike, atom_has_alike}
use Rattle.core_syntax.proofs.Carries.{expr_premises_carry, atom_premises_carry}
use Rattle.core_syntax.proofs.NotesAlike.{notes_alike, atom_notes_alike}
use Rattle.type_check.specs.declared.refusal.TypeRefusal.{TypeRefusal}
use Rattle.type_check.specs.declared.refusal.TypeRefusal.TheVariants.{Refused, Memory}
use Rattle.type_check.specs.Contexts.{Like, IsSound, IsSoundAtom}
use Rattle.type_check.specs.Found.{Refuses, Found, FoundAtom, Finds, FindsAtom}

pub like_alike : (Γ N : Context) → Like Γ N → Alike Γ N
like_alike Γ N l = record { types = l.types; sorts = l.sorts; defs = l.defs; terms = l.terms }

pub alike_like : (Γ N : Context) → Alike Γ N → Like Γ N
alike_like Γ N a = record { types = a.types; sorts = a.sorts; defs = a.defs; terms = a.terms }

sound_with : (n m : ℕ) (ss rs : List Sort) (t : Ty) → n ≡ m → ss ≡ rs → IsSound n ss t → IsSound m rs t
sound_with n m ss rs t e d h = subst (λ m. IsSound m rs t) e (subst (λ rs. IsSound n rs t) d h)

sound_atom_with : (N Γ : Context) (t : Ty) → N.types ≡ Γ.types → N.sorts ≡ Γ.sorts → IsSoundAtom N t → IsSoundAtom Γ t
sound_atom_with N Γ t e d h = record {
  formed = subst (λ m. IsWellFormed m Γ.sorts t) e (subst (λ rs. IsWellFormed N.types rs t) d h.formed);
  top = h.top;
  inside = h.inside;
}

-- an expression that is found in a context is found in each context like it
pub found_like : (Γ N : Context) → Like Γ N → (e : Expr) (t : Ty) (ns : List NodeNote) → Found N e t ns → Found Γ e t ns
found_like Γ N l e t ns f =
    let a : Alike N Γ = alike_sym Γ N (like_alike Γ N l) in
    record {
      met = (expr_premises_carry N Γ a e).met f.met;
      has = has_alike N Γ a e t f.has;
      sound = sound_with N.types Γ.types N.sorts Γ.sorts t a.types a.sorts f.sound;
      notes = notes_alike N Γ a e ns f.notes;
    }

pub found_atom_like : (Γ N : Context) → Like Γ N → (x : Atom) (t : Ty) (ns : List NodeNote) → FoundAtom N x t ns → FoundAtom Γ x t ns
found_atom_like Γ N l x t ns f =
    let a : Alike N Γ = alike_sym Γ N (like_alike Γ N l) in
    record {
      met = (atom_premises_carry N Γ a x).met f.met;
      has = atom_has_alike N Γ a x t f.has;
      sound = sound_atom_with N Γ t a.types a.sorts f.sound;
      notes = atom_notes_alike N Γ a x ns f.notes;
    }

-- and what is refused in it is refused there
pub refuses_like : (Γ N : Context) → Like Γ N → (e : Expr) (r : TypeRefusal) → Refuses (expr_premises N e) r → Refuses (expr_premises Γ e) r
refuses_like Γ N l e (Refused n at) h = (expr_premises_carry N Γ (alike_sym Γ N (like_alike Γ N l)) e).blames (n, at) h
refuses_like Γ N l e Memory h = h

pub refuses_atom_like : (Γ N : Context) → Like Γ N → (x : Atom) (r : TypeRefusal) → Refuses (atom_premises N x) r → Refuses (atom_premises Γ x) r
refuses_atom_like Γ N l x (Refused n at) h = (atom_premises_carry N Γ (alike_sym Γ N (like_alike Γ N l)) x).blames (n, at) h
refuses_atom_like Γ N l x Memory h = h

-- an answer that holds in the checker's own context
abbrev pub FindsHere : {V : Type 0} → (V → Ty) → Context → Expr → List NodeNote → Result V TypeRefusal → Type 0
FindsHere view N e ns (Ok v) = Found N e (view v) ns
FindsHere view N e ns (Err r) = Refuses (expr_premises N e) r

abbrev pub FindsAtomHere : {V : Type 0} → (V → Ty) → Context → Atom → List NodeNote → Result V TypeRefusal → Type 0
FindsAtomHere view N x ns (Ok v) = FoundAtom N x (view v) ns
FindsAtomHere view N x ns (Err r) = Refuses (atom_premises N x) r

-- holds in each context like it
pub finds_all : {V : Type 0} (view : V → Ty) (N : Context) (e : Expr) (ns : List NodeNote) (r : Result V TypeRefusal) → FindsHere view N e ns r → Finds view N e ns r
finds_all view N e ns (Ok v) h = λ Γ l. found_like Γ N l e (view v) ns h
finds_all view N e ns (Err r) h = λ Γ l. refuses_like Γ N l e r h

pub finds_atom_all : {V : Type 0} (view : V → Ty) (N : Context) (x : Atom) (ns : List NodeNote) (r : Result V TypeRefusal) → FindsAtomHere view N x ns r → FindsAtom view N x ns r
finds_atom_all view N x ns (Ok v) h = λ Γ l. found_atom_like Γ N l x (view v) ns h
finds_atom_all view N x ns (Err r) h = λ Γ l. refuses_atom_like Γ N l x r h
