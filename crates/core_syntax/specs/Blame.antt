-- The first premise of a program's typing that is not met.
use Rattle.std.specs.Prelude.{ℕ, ◌≡◌, ◌⊎◌, true, List, [], ◌∷◌, ◌++◌, length, Option, Some, None, ⊤}
use Rattle.core_syntax.specs.declared.span.Span.{Span}
use Rattle.core_syntax.specs.declared.index.Sort.{Sort}
use Rattle.core_syntax.specs.declared.index.Sort.TheVariants as sort
use Rattle.core_syntax.specs.Syntax.{Index, index_at, Ty, Fun, Forall, Pi, Sigma, Arr, Tys, no_tys, more_tys, ty_at, Expr, TermVar, DefVar, Array, NoAtoms, Frame, NoCells, App, TypeApp, IndexApp, Unbox, Exprs, no_exprs, more_exprs, expr_at, expr_items, Atom, IntAtom, BoolAtom, CharAtom, PrimAtom, Fn, TypeFn, IndexFn, Boxed, Atoms, no_atoms, more_atoms, atom_at, Def, Program, ty_items}
use Rattle.core_syntax.specs.Sorts.{Refusal, index_blame}
use Rattle.core_syntax.specs.Kinds.{kind_blame, atom_kind_blame}
use Rattle.core_syntax.specs.Value.{IndexEqual, then_shape}
use Rattle.core_syntax.specs.TypeEqual.{Same}
use Rattle.core_syntax.specs.Subst.{ty_under_index, with_indices}
use Rattle.core_syntax.specs.Norm.{measure_at}
use Rattle.core_syntax.specs.NormTypes.{measure_ty}
use Rattle.core_syntax.specs.Typing.{Context, times, under_types, under_sorts, under_terms, Has, HasAtom, ArgsHave, IsPrincipal, is_syntactic_value, is_printable, defs_only, body_context}

-- premises in an order: all of them are met, and the first that isn't met has this number and place
pub record Premises : Type 1 where
  pub met : Type 0
  pub blames : Refusal → Type 0

-- no premise
abbrev pub nothing : Premises
nothing = record { met = ⊤; blames = λ r. ⊥ }

-- one premise, with its number and place
abbrev pub premise : ℕ → Span → Type 0 → Premises
premise n at P = record { met = P; blames = λ r. (¬ P) × (r ≡ (n, at)) }

-- premises that a function tests, with the refusal of the first that isn't met
abbrev pub tested : Option Refusal → Premises
tested o = record { met = o ≡ None; blames = λ r. o ≡ Some r }

-- a measure at a place
abbrev pub measure : Option ℕ → Span → Premises
measure o at = record { met = o ≡ None; blames = λ r. (n : ℕ) × (o ≡ Some n) × (r ≡ (n, at)) }

-- the first premises, and then the second
infixr 20 ◌then◌
abbrev pub ◌then◌ : Premises → Premises → Premises
p then q = record { met = p.met × q.met; blames = λ r. p.blames r ⊎ (p.met × q.blames r) }

-- premises that are read with any a of which P holds
abbrev pub with_any : {A : Type 0} → (A → Type 0) → (A → Premises) → Premises
with_any {A} P f = record { met = (a : A) × P a × (f a).met; blames = λ r. (a : A) × P a × (f a).blames r }

-- a written type is well formed, and measured at its place
abbrev pub written : Context → Ty → Premises
written Γ t = tested (kind_blame Γ.sorts t) then measure (measure_ty t) (ty_at t)

-- the same in an atom type's place
abbrev pub written_atom : Context → Ty → Premises
written_atom Γ t = tested (atom_kind_blame Γ.sorts t) then measure (measure_ty t) (ty_at t)

-- each of a list is
abbrev pub all_written : Context → Tys → Premises
all_written Γ no_tys = nothing
all_written Γ (more_tys t ts) = written Γ t then all_written Γ ts

-- each of a list in atom type's places is
abbrev pub all_written_atoms : Context → List Ty → Premises
all_written_atoms Γ [] = nothing
all_written_atoms Γ (t ∷ ts) = written_atom Γ t then all_written_atoms Γ ts

-- each index has its binder's sort, and is measured at its place
abbrev pub written_indices : Context → List Sort → List Index → Premises
written_indices Γ (s ∷ ss) (i ∷ is) = (tested (index_blame Γ.sorts s i) then measure (measure_at s i) (index_at i)) then written_indices Γ ss is
written_indices Γ _ _ = nothing

-- the premises of an expression, and then the measure of its type at its place
abbrev pub concluding : Context → Expr → Premises → Premises
concluding Γ e ps = ps then with_any (Has Γ e) (λ t. measure (measure_ty t) (expr_at e))

-- the array type is one of functions
abbrev pub IsFunction : Ty → Type 0
IsFunction (Arr at (Fun at' ts r) s) = ⊤
IsFunction _ = ⊥

-- one of universal types
abbrev pub IsForall : Ty → Type 0
IsForall (Arr at (Forall at' n b) s) = ⊤
IsForall _ = ⊥

-- one of dependent products
abbrev pub IsPi : Ty → Type 0
IsPi (Arr at (Pi at' ss b) s) = ⊤
IsPi _ = ⊥

-- one of dependent sums
abbrev pub IsSigma : Ty → Type 0
IsSigma (Arr at (Sigma at' ss b) s) = ⊤
IsSigma _ = ⊥

-- the same of a type in an atom type's place
abbrev pub IsSigmaAtom : Ty → Type 0
IsSigmaAtom (Sigma at ss b) = ⊤
IsSigmaAtom _ = ⊥

-- premises that read the parts of an array type of functions, and none where it is of another form
abbrev pub of_function : Ty → (Tys → Ty → Index → Premises) → Premises
of_function (Arr at (Fun at' ts r) s) f = f ts r s
of_function _ f = nothing

-- the same of universal types
abbrev pub of_forall : Ty → (ℕ → Premises) → Premises
of_forall (Arr at (Forall at' n b) s) f = f n
of_forall _ f = nothing

-- the same of dependent products
abbrev pub of_pi : Ty → (List Sort → Premises) → Premises
of_pi (Arr at (Pi at' ss b) s) f = f ss
of_pi _ f = nothing

-- the same of dependent sums
abbrev pub of_sigma : Ty → (List Sort → Ty → Premises) → Premises
of_sigma (Arr at (Sigma at' ss b) s) f = f ss b
of_sigma _ f = nothing

-- the same of a dependent sum in an atom type's place
abbrev pub of_sigma_atom : Ty → (List Sort → Ty → Premises) → Premises
of_sigma_atom (Sigma at ss b) f = f ss b
of_sigma_atom _ f = nothing

-- an argument's type has the atom type of its input type, and a shape that ends in the input's cell shape
abbrev pub FitsInput : Context → Ty → Ty → Type 0
FitsInput Γ (Arr at t c) (Arr at' u s) = Same u t × ((p : Index) × IndexEqual Γ.sorts sort.Shape (then_shape p c) s)
FitsInput Γ _ _ = ⊥

-- the premises of the rule of an expression, those of its parts included
abbrev mutual
  pub premises : Context → Expr → Premises
  premises Γ (TermVar at k) = nothing
  premises Γ (DefVar at k) = nothing
  premises Γ (Array at dims xs) = atoms_premises Γ xs
  premises Γ (NoAtoms at dims t) = written_atom Γ t
  premises Γ (Frame at dims es) = cells_premises Γ es
  premises Γ (NoCells at dims t) = written Γ t
  premises Γ (App at f es) =
      concluding Γ f (premises Γ f)
      then with_any (Has Γ f) (λ t. premise 19 (expr_at f) (IsFunction t)
      then of_function t (λ ts r s. premise 20 at (length (ty_items ts) ≡ length (expr_items es))
      then args_premises Γ es ts
      then with_any (ArgsHave Γ es ts) (λ frames. premise 22 at ((p : Index) × IsPrincipal Γ (s ∷ frames) p))))
  premises Γ (TypeApp at e us) =
      concluding Γ e (premises Γ e)
      then with_any (Has Γ e) (λ t. premise 23 (expr_at e) (IsForall t)
      then of_forall t (λ n. premise 20 at (length us ≡ n) then all_written_atoms Γ us))
  premises Γ (IndexApp at e is) =
      concluding Γ e (premises Γ e)
      then with_any (Has Γ e) (λ t. premise 24 (expr_at e) (IsPi t)
      then of_pi t (λ ss. premise 20 at (length is ≡ length ss) then written_indices Γ ss is))
  premises Γ (Unbox at n e u b) =
      concluding Γ e (premises Γ e)
      then with_any (Has Γ e) (λ t. premise 25 (expr_at e) (IsSigma t)
      then of_sigma t (λ ss c. premise 20 at (n ≡ length ss)
      then written Γ u
      then concluding (under_terms (c ∷ []) (under_sorts ss Γ)) b (premises (under_terms (c ∷ []) (under_sorts ss Γ)) b)
      then with_any (Has (under_terms (c ∷ []) (under_sorts ss Γ)) b) (λ w. premise 27 (ty_at u) (Same w (times n ty_under_index u)))))

  -- the cells of a frame: the first, and each later one with a type that equals the first's
  pub cells_premises : Context → Exprs → Premises
  cells_premises Γ no_exprs = nothing
  cells_premises Γ (more_exprs e es) = concluding Γ e (premises Γ e) then with_any (Has Γ e) (λ t. later_cells Γ t es)

  -- the cells behind the first, whose type this is
  pub later_cells : Context → Ty → Exprs → Premises
  later_cells Γ t no_exprs = nothing
  later_cells Γ t (more_exprs e es) =
      concluding Γ e (premises Γ e) then with_any (Has Γ e) (λ u. premise 18 (expr_at e) (Same u t)) then later_cells Γ t es

  -- the arguments of an application, each with its input type
  pub args_premises : Context → Exprs → Tys → Premises
  args_premises Γ no_exprs ts = nothing
  args_premises Γ (more_exprs e es) no_tys = nothing
  args_premises Γ (more_exprs e es) (more_tys t ts) =
      concluding Γ e (premises Γ e) then with_any (Has Γ e) (λ u. premise 21 (expr_at e) (FitsInput Γ t u)) then args_premises Γ es ts

  -- the premises of the rule of an atom
  pub atom_premises : Context → Atom → Premises
  atom_premises Γ (IntAtom at z) = nothing
  atom_premises Γ (BoolAtom at b) = nothing
  atom_premises Γ (CharAtom at c) = nothing
  atom_premises Γ (PrimAtom at p) = nothing
  atom_premises Γ (Fn at ts r e) =
      all_written Γ ts then written Γ r
      then concluding (under_terms (ty_items ts) Γ) e (premises (under_terms (ty_items ts) Γ) e)
      then with_any (Has (under_terms (ty_items ts) Γ) e) (λ t. premise 27 (ty_at r) (Same t r))
  atom_premises Γ (TypeFn at n e) = concluding (under_types n Γ) e (premises (under_types n Γ) e)
  atom_premises Γ (IndexFn at ss e) = concluding (under_sorts ss Γ) e (premises (under_sorts ss Γ) e)
  atom_premises Γ (Boxed at is e t) =
      written_atom Γ t then premise 25 (ty_at t) (IsSigmaAtom t)
      then of_sigma_atom t (λ ss b. premise 20 at (length is ≡ length ss)
      then written_indices Γ ss is
      then measure (measure_ty (with_indices is b)) at
      then concluding Γ e (premises Γ e)
      then with_any (Has Γ e) (λ u. premise 26 (expr_at e) (Same u (with_indices is b))))

  -- the atoms of an array: the first, and each later one with a type that equals the first's
  pub atoms_premises : Context → Atoms → Premises
  atoms_premises Γ no_atoms = nothing
  atoms_premises Γ (more_atoms a xs) = atom_premises Γ a then with_any (HasAtom Γ a) (λ t. later_atoms Γ t xs)

  -- the atoms behind the first, whose type this is
  pub later_atoms : Context → Ty → Atoms → Premises
  later_atoms Γ t no_atoms = nothing
  later_atoms Γ t (more_atoms a xs) =
      atom_premises Γ a then with_any (HasAtom Γ a) (λ u. premise 17 (atom_at a) (Same u t)) then later_atoms Γ t xs

-- the premises of an expression in a context, its own measure included
abbrev pub expr_premises : Context → Expr → Premises
expr_premises Γ e = concluding Γ e (premises Γ e)

-- the premises of a definition behind those with these types
abbrev pub def_premises : List Ty → Def → Premises
def_premises earlier d =
    written (defs_only earlier) d.ty
    then premise 28 (expr_at d.value) (is_syntactic_value d.value ≡ true)
    then expr_premises (defs_only earlier) d.value
    then with_any (Has (defs_only earlier) d.value) (λ t. premise 27 (ty_at d.ty) (Same t d.ty))

-- the premises of definitions in order
abbrev pub defs_premises : List Ty → List Def → Premises
defs_premises earlier [] = nothing
defs_premises earlier (d ∷ ds) = def_premises earlier d then defs_premises (earlier ++ d.ty ∷ []) ds

-- each input type is well formed and printable
abbrev pub inputs_premises : List Ty → Premises
inputs_premises [] = nothing
inputs_premises (t ∷ ts) = (written (defs_only []) t then premise 29 (ty_at t) (is_printable t ≡ true)) then inputs_premises ts

-- the premises of a program, in order
abbrev pub program_premises : Program → Premises
program_premises P =
    defs_premises [] P.defs
    then inputs_premises P.inputs
    then expr_premises (body_context P) P.body
    then with_any (Has (body_context P) P.body) (λ t. premise 30 (expr_at P.body) (is_printable t ≡ true))

-- all premises of a program are met
abbrev pub IsAccepted : Program → Type 0
IsAccepted P = (program_premises P).met

-- the first premise of a program that isn't met has this number and place
abbrev pub Blames : Program → Refusal → Type 0
Blames P r = (program_premises P).blames r
