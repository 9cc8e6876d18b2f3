-- What a code keeps, so that it has a text.
use Rattle.std.specs.Prelude.{◌≡◌, ◌⊎◌, ℕ, zero, suc, ◌^◌, ◌<◌, ◌≤◌, List, [], ◌∷◌, length, pos, negsuc}
use Rattle.std.specs.List.{All}
use Rattle.core_syntax.specs.declared.index.Sort.{Sort}
use Rattle.core_syntax.specs.Word.{Word}
use Rattle.array_values.specs.Forms.{Forms, cells}
use Rattle.array_values.specs.declared.closure.CloseKind.{CloseKind}
use Rattle.array_values.specs.declared.closure.CloseKind.TheVariants as close
use Rattle.machine_table.specs.declared.code.Literal.{Literal}
use Rattle.machine_table.specs.declared.code.Literal.TheVariants as literal
use Rattle.machine_table.specs.declared.code.CodeIndex.{CodeIndex}
use Rattle.machine_table.specs.declared.code.Instr.{Instr}
use Rattle.machine_table.specs.declared.code.Instr.TheVariants as instr
use Rattle.machine_table.specs.declared.code.Block.{Block}
use Rattle.machine_table.specs.Codes.{Boxes, Param, Code}
use Rattle.machine_table.specs.IndexBounds.{Under, under, IsShape, IsCell, IsIndex}

-- ---- instructions

-- the number of a character
abbrev pub IsChar : ℕ → Type 0
IsChar c = (c < 55296) ⊎ ((57344 ≤ c) × (c < 1114112))

-- an integer of 64 bits, a truth value or a character
abbrev pub IsLiteral : Literal → Type 0
IsLiteral (literal.Int (pos n)) = n < 2 ^ 63
IsLiteral (literal.Int (negsuc n)) = n < 2 ^ 63
IsLiteral (literal.Bool b) = Unit {0}
IsLiteral (literal.Char c) = IsChar c

-- Dims that an array may have, with as many atoms as their product.
pub record IsConst (dims : List ℕ) (atoms : List Literal) : Type 0 where
  pub forms : Forms dims
  pub count : length atoms ≡ cells dims
  pub each : All IsLiteral atoms

-- Dims of an array that has atoms.
pub record IsFilled (dims : List ℕ) : Type 0 where
  pub forms : Forms dims
  pub some : 0 < cells dims

-- At least one index.
pub record AreIndices (is : List CodeIndex) : Type 0 where
  pub some : 0 < length is
  pub each : All IsIndex is

-- At least one cell shape.
pub record AreCells (cells : List Word) : Type 0 where
  pub some : 0 < length cells
  pub each : All IsCell cells

-- a number of arrays or indices that a block takes
abbrev pub IsCount : ℕ → Type 0
IsCount n = (0 < n) × (n < 2 ^ 32)

-- how many arrays or indices a closure takes
abbrev pub IsTaken : CloseKind → ℕ → Type 0
IsTaken close.Fn n = IsCount n
IsTaken close.TypeFn n = n ≡ 0
IsTaken close.IndexFn n = IsCount n

-- an instruction of a code of so many blocks
abbrev pub IsInstr : ℕ → Instr → Type 0
IsInstr blocks (instr.Const dims atoms) = IsConst dims atoms
IsInstr blocks (instr.Var k) = k < 2 ^ 32
IsInstr blocks (instr.Global b) = b < blocks
IsInstr blocks (instr.Prim p) = Unit {0}
IsInstr blocks (instr.Close kind b n) = (b < blocks) × IsTaken kind n
IsInstr blocks (instr.Box is) = AreIndices is
IsInstr blocks (instr.Array dims) = IsFilled dims
IsInstr blocks (instr.Room dims) = IsFilled dims
IsInstr blocks (instr.Frame dims) = IsFilled dims
IsInstr blocks (instr.Empty shape) = IsCell shape
IsInstr blocks (instr.App cells result) = AreCells cells × IsCell result
IsInstr blocks (instr.TypeApp result) = IsCell result
IsInstr blocks (instr.IndexApp is result) = AreIndices is × IsCell result
IsInstr blocks (instr.Unbox b n result) = (b < blocks) × IsCount n × IsCell result

-- ---- blocks

-- A block of at least one instruction and fewer than 2^32.
pub record IsBlock (blocks : ℕ) (b : Block) : Type 0 where
  pub some : 0 < length b.steps
  pub few : length b.steps < 2 ^ 32
  pub each : All (IsInstr blocks) b.steps

-- At least one block and fewer than 2^32.
pub record AreBlocks (bs : List Block) : Type 0 where
  pub some : 0 < length bs
  pub few : length bs < 2 ^ 32
  pub blocks : All (IsBlock (length bs)) bs

-- ---- types of inputs

-- Boxes that hide at least one index, where so few are in scope that each has a number.
pub record AreHidden (binders sorts : List Sort) : Type 0 where
  pub some : 0 < length sorts
  pub few : length (under sorts binders) ≤ 2 ^ 32

-- boxes under these binders around a type, of which so many may nest
abbrev pub IsAround : ℕ → List Sort → List Boxes → Word → Type 0
IsAround depth binders [] shape = IsShape (Under binders) shape
IsAround zero binders (x ∷ xs) shape = ⊥
IsAround (suc depth) binders (x ∷ xs) shape = AreHidden binders x.sorts × IsAround depth (under x.sorts binders) xs shape × IsShape (Under binders) x.shape

-- the type of an input, in which at most 256 Sigmas nest
abbrev pub IsParam : Param → Type 0
IsParam p = IsAround 256 [] p.boxes p.shape

-- Fewer than 2^32 types of inputs.
pub record AreParams (ps : List Param) : Type 0 where
  pub few : length ps < 2 ^ 32
  pub params : All IsParam ps

-- ---- codes

-- A code that has a text.
pub record IsCode (c : Code) : Type 0 where
  pub params : AreParams c.params
  pub blocks : AreBlocks c.blocks
