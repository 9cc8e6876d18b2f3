-- Which indices a code may hold.
use Rattle.std.specs.Prelude.{◌≡◌, ℕ, zero, suc, ◌^◌, ◌<◌, ◌≤◌, List, [], ◌∷◌, ◌++◌, reverse}
use Rattle.std.specs.List.{All}
use Rattle.core_syntax.specs.declared.index.Sort.{Sort}
use Rattle.core_syntax.specs.declared.index.Sort.TheVariants as sort
use Rattle.core_syntax.specs.declared.norm.Letter.{Letter}
use Rattle.core_syntax.specs.declared.norm.Letter.TheVariants as letter
use Rattle.core_syntax.specs.declared.norm.NormIndex.TheVariants as norm
use Rattle.core_syntax.specs.Linear.{Linear, IsAscending}
use Rattle.core_syntax.specs.Word.{Word}
use Rattle.machine_table.specs.declared.code.CodeIndex.{CodeIndex}
use Rattle.machine_table.specs.declared.code.CodeIndex.TheVariants as index
use Rattle.machine_table.specs.Indices.{code_index}

-- where an index stands: in a block, or under these binders of a parameter, the innermost first
pub data Scope : Type 0 where
  InBlock : Scope
  Under : List Sort → Scope

-- the binders that are in scope under these, of which the last is the innermost
abbrev pub under : List Sort → List Sort → List Sort
under sorts binders = reverse sorts ++ binders

-- the binder with this number has this sort
abbrev pub Binds : Sort → List Sort → ℕ → Type 0
Binds s [] k = ⊥
Binds s (b ∷ bs) zero = b ≡ s
Binds s (b ∷ bs) (suc k) = Binds s bs k

-- a variable that may stand in a place of this sort
abbrev pub IsVar : Scope → Sort → ℕ → Type 0
IsVar InBlock s k = k < 2 ^ 32
IsVar (Under binders) s k = Binds s binders k

-- A linear form that an index may hold: a normal form, with variables that may stand there, and a constant of at most 2^40.
pub record IsDim (scope : Scope) (d : Linear) : Type 0 where
  pub normal : IsAscending 0 d.coefs
  pub vars : All (λ c. IsVar scope sort.Dim c.var) d.coefs
  pub small : d.constant ≤ 2 ^ 40

-- a letter of a word that an index may hold
abbrev pub IsLetter : Scope → Letter → Type 0
IsLetter scope (letter.Dim d) = IsDim scope d
IsLetter scope (letter.Var k) = IsVar scope sort.Shape k

-- a word that an index may be
abbrev pub IsShape : Scope → Word → Type 0
IsShape scope w = All (IsLetter scope) w

-- a shape in a block
abbrev pub IsCell : Word → Type 0
IsCell w = IsShape InBlock w

-- an index of either sort in a block; a normal form that is a variable alone is held as that variable
abbrev pub IsIndex : CodeIndex → Type 0
IsIndex (index.Var k) = k < 2 ^ 32
IsIndex (index.Dim d) = IsDim InBlock d × (code_index (norm.Dim d) ≡ index.Dim d)
IsIndex (index.Shape w) = IsCell w × (code_index (norm.Shape w) ≡ index.Shape w)
