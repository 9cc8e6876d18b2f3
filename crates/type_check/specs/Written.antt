-- What is said of the types and indices that a program writes.
use Rattle.std.specs.Prelude.{ℕ, ◌≡◌, ◌<◌, ◌^◌, List, [], ◌∷◌, length, Result, Ok, Err}
use Rattle.core_syntax.specs.declared.index.Sort.{Sort}
use Rattle.core_syntax.specs.declared.norm.NormIndex.{NormIndex}
use Rattle.core_syntax.specs.declared.ty.Ty.{Ty as Tree}
use Rattle.core_syntax.specs.Syntax.{Index, Ty}
use Rattle.core_syntax.specs.Lists.{onto, EachTwo}
use Rattle.core_syntax.specs.Sorts.{IsSorted}
use Rattle.core_syntax.specs.Kinds.{IsWellFormed}
use Rattle.core_syntax.specs.Made.{TyInScope, IsArray, HoldsArrays}
use Rattle.core_syntax.specs.Norm.{norm_at}
use Rattle.core_syntax.specs.NormTypes.{norm_ty}
use Rattle.core_syntax.specs.Refine.{ty_of}
use Rattle.core_syntax.specs.Typing.{Context, IsAtomType}
use Rattle.core_syntax.specs.Blame.{Premises}
use Rattle.type_check.specs.declared.refusal.TypeRefusal.{TypeRefusal}
use Rattle.type_check.specs.Found.{Refuses}

-- a type as a program that is well made writes it: its variables are in range with so many in scope, and array types stand in their places
pub record IsWritten (types indices : ℕ) (t : Ty) : Type 0 where
  pub scope : TyInScope types indices t
  pub inside : HoldsArrays t

-- the same in an array type's place
abbrev pub IsWrittenArray : ℕ → ℕ → Ty → Type 0
IsWrittenArray types indices t = IsArray t × IsWritten types indices t

-- a context has so many type variables, and index variables of these sorts, the outermost first
pub record HasScope (types : ℕ) (sorts : List Sort) (Γ : Context) : Type 0 where
  pub types_are : Γ.types ≡ types
  pub sorts_are : Γ.sorts ≡ onto sorts []

-- fewer than 2^31 type variables and index variables are in scope
pub record HasRoom (types : ℕ) (sorts : List Sort) : Type 0 where
  pub types_few : types < 2 ^ 31
  pub sorts_few : length sorts < 2 ^ 31

-- what an answer says of premises: they are met and this holds of its value, or the first that isn't met
abbrev pub Tells : {V : Type 0} → Premises → (V → Type 0) → Result V TypeRefusal → Type 0
Tells ps P (Ok v) = ps.met × P v
Tells ps P (Err r) = Refuses ps r

-- a written type is well formed, and this is its normal type
abbrev pub IsNormalOf : Context → Ty → Tree → Type 0
IsNormalOf Γ t n = IsWellFormed Γ.types Γ.sorts t × (ty_of n ≡ norm_ty t)

-- the same of one in an atom type's place
abbrev pub IsNormalAtomOf : Context → Ty → Tree → Type 0
IsNormalAtomOf Γ t n = IsAtomType Γ t × (ty_of n ≡ norm_ty t)

-- the same of each of a list
abbrev pub AreNormalAtomsOf : Context → List Ty → List Tree → Type 0
AreNormalAtomsOf Γ = EachTwo (IsNormalAtomOf Γ)

abbrev pub AreNormalOf : Context → List Ty → List Tree → Type 0
AreNormalOf Γ = EachTwo (IsNormalOf Γ)

-- indices have these sorts, and these are their normal forms
abbrev pub AreNormalIndicesOf : Context → List Sort → List Index → List NormIndex → Type 0
AreNormalIndicesOf Γ (s ∷ ss) (i ∷ is) (n ∷ ns) = IsSorted Γ.sorts s i × (n ≡ norm_at s i) × AreNormalIndicesOf Γ ss is ns
AreNormalIndicesOf Γ [] [] [] = Unit {0}
AreNormalIndicesOf Γ _ _ _ = ⊥
