-- The types of expressions are well formed.
use Rattle.std.proofs.Common.{List, [], ◌∷◌}
use Rattle.core_syntax.specs.declared.index.Sort.TheVariants as sort
use Rattle.core_syntax.specs.Syntax.{Index, Ty, Arr, Tys, no_tys, more_tys, Expr, TermVar, DefVar, Array, NoAtoms, Frame, NoCells, App, TypeApp, IndexApp, Unbox, Exprs, no_exprs, more_exprs, Atom, IntAtom, BoolAtom, CharAtom, PrimAtom, Fn, TypeFn, IndexFn, Boxed, no_atoms, more_atoms}
use Rattle.core_syntax.specs.Lists.{Each}
use Rattle.core_syntax.specs.Sorts.{IsSorted}
use Rattle.core_syntax.specs.Kinds.{IsWellFormed}
use Rattle.core_syntax.specs.Value.{then_shape}
use Rattle.core_syntax.specs.Subst.{with_types, with_indices}
use Rattle.core_syntax.specs.Prims.{array_of}
use Rattle.core_syntax.specs.Typing.{Context, OnArr, Takes, numbers, Has, HasAtom, ArgsHave}

-- what a rule concludes from a result cell's type u and a frame p
result_formed : (Γ : Context) (u : Ty) (p : Index) (t : Ty) → OnArr u (λ a c. Takes Γ (array_of a (then_shape p c)) t) → IsWellFormed Γ.types Γ.sorts t
result_formed Γ (Arr at a c) p t h = h.0
result_formed Γ _ p t h = absurd h

pub has_formed : (Γ : Context) (e : Expr) (t : Ty) → Has Γ e t → IsWellFormed Γ.types Γ.sorts t
has_formed Γ (TermVar at k) t h = h.2.0
has_formed Γ (DefVar at k) t h = h.2.0
has_formed Γ (Array at dims no_atoms) t h = absurd h
has_formed Γ (Array at dims (more_atoms x xs)) t h = h.3.0
has_formed Γ (NoAtoms at dims a) t h = h.1.0
has_formed Γ (Frame at dims no_exprs) t h = absurd h
has_formed Γ (Frame at dims (more_exprs e es)) t h = h.4.0
has_formed Γ (NoCells at dims u) t h = result_formed Γ u (numbers dims) t h.1
has_formed Γ (App at f es) t h = result_formed Γ h.1 h.4.2.0 t h.4.2.2
has_formed Γ (TypeApp at e us) t h = result_formed Γ (with_types us h.1) h.2 t h.6
has_formed Γ (IndexApp at e is) t h = result_formed Γ (with_indices is h.1) h.2 t h.5
has_formed Γ (Unbox at n e u b) t h = result_formed Γ u h.2 t h.7

pub has_atom_formed : (Γ : Context) (a : Atom) (t : Ty) → HasAtom Γ a t → IsWellFormed Γ.types Γ.sorts t
has_atom_formed Γ (IntAtom at z) t h = h.0
has_atom_formed Γ (BoolAtom at b) t h = h.0
has_atom_formed Γ (CharAtom at c) t h = h.0
has_atom_formed Γ (PrimAtom at p) t h = h.0
has_atom_formed Γ (Fn at ts r e) t h = h.3.0
has_atom_formed Γ (TypeFn at n e) t h = h.2.0
has_atom_formed Γ (IndexFn at ss e) t h = h.2.0
has_atom_formed Γ (Boxed at is e u) t h = h.2.0

-- the frames of arguments are well sorted
pub frames_sorted : (Γ : Context) (es : Exprs) (ts : Tys) (ps : List Index) → ArgsHave Γ es ts ps → Each (IsSorted Γ.sorts sort.Shape) ps
frames_sorted Γ no_exprs no_tys [] h = tt
frames_sorted Γ (more_exprs e es) (more_tys (Arr at a c) ts) (p ∷ ps) h = ((has_formed Γ e (array_of a (then_shape p c)) h.0).1.1.0, frames_sorted Γ es ts ps h.1)
frames_sorted Γ no_exprs no_tys (p ∷ ps) h = absurd h
frames_sorted Γ no_exprs (more_tys t ts) ps h = absurd h
frames_sorted Γ (more_exprs e es) no_tys ps h = absurd h
frames_sorted Γ (more_exprs e es) (more_tys t ts) [] h = absurd h
frames_sorted Γ (more_exprs e es) (more_tys _ ts) (p ∷ ps) h = absurd h.0
