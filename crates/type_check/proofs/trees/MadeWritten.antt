-- Types of a program that is well made are as they are to be written.
use Rattle.std.proofs.Common.{ℕ, List, [], ◌∷◌, length}
use Rattle.core_syntax.specs.declared.ty.Ty.{Ty as Tree}
use Rattle.core_syntax.specs.Syntax.{Ty, BaseTy, TyVar, Fun, Forall, Pi, Sigma, Arr, Tys, no_tys, more_tys}
use Rattle.core_syntax.specs.Lists.{each, Each}
use Rattle.core_syntax.specs.Made.{Scope, TyMade, ArraysMade, types_more, indices_more, HoldsArrays, AreArrays}
use Rattle.core_syntax.specs.Refine.{ty_of, tys_of}
use Rattle.kind_check.proofs.MadeLemmas.{made_in_scope}
use Rattle.type_check.specs.Written.{IsWritten}

mutual
  pub made_holds : (Γ : Scope) (t : Ty) → TyMade Γ t → HoldsArrays t
  made_holds Γ (BaseTy at b) made = tt
  made_holds Γ (TyVar at k) made = tt
  made_holds Γ (Fun at ts r) (some, inputs, array, output) = (made_arrays Γ ts inputs, array, made_holds Γ r output)
  made_holds Γ (Forall at n t) (some, small, array, body) = (array, made_holds (types_more n Γ) t body)
  made_holds Γ (Pi at ss t) (some, small, array, body) = (array, made_holds (indices_more (length ss) Γ) t body)
  made_holds Γ (Sigma at ss t) (some, small, array, body) = (array, made_holds (indices_more (length ss) Γ) t body)
  made_holds Γ (Arr at t i) (elem, shape) = made_holds Γ t elem

  pub made_arrays : (Γ : Scope) (ts : Tys) → ArraysMade Γ ts → AreArrays ts
  made_arrays Γ no_tys made = tt
  made_arrays Γ (more_tys t ts) (array, first, others) = ((array, made_holds Γ t first), made_arrays Γ ts others)

-- one type
pub made_written : (Γ : Scope) (t : Ty) → TyMade Γ t → IsWritten Γ.types Γ.indices t
made_written Γ t made = record { scope = made_in_scope Γ t made; inside = made_holds Γ t made }

-- types in atom types' places
pub atoms_written : (Γ : Scope) (ts : List Ty) → Each (TyMade Γ) ts → Each (IsWritten Γ.types Γ.indices) ts
atoms_written Γ [] made = tt
atoms_written Γ (t ∷ ts) made = (made_written Γ t made.0, atoms_written Γ ts made.1)

-- the input types of a function
pub inputs_written : (Γ : Scope) (ts : List Tree) → ArraysMade Γ (tys_of ts) → Each (IsWritten Γ.types Γ.indices) (each ty_of ts)
inputs_written Γ [] made = tt
inputs_written Γ (t ∷ ts) made = (made_written Γ (ty_of t) made.1, inputs_written Γ ts made.2)
