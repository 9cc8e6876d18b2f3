-- That a code keeps what it keeps is a fact with one proof.
use Rattle.std.proofs.Common.{inl, inr, ℕ, zero, suc, ◌+◌, ◌<◌, ◌≤◌, ◌^◌, arith, List, [], ◌∷◌, length}
use Rattle.std.specs.Prelude.{pos, negsuc, slice_index_or}
use Rattle.std.specs.Coded.{×_prop, le_prop, Unit-prop, Coded-set, coded_ℕ}
use Rattle.std.specs.List.{All}
use mathlib.Core.HLevel.{×₃_prop}
use Rattle.core_syntax.specs.declared.index.Sort.{Sort}
use Rattle.core_syntax.specs.declared.index.Sort.TheVariants as sort
use Rattle.core_syntax.specs.contracts.index.Sort.{the_row}
use Rattle.core_syntax.specs.declared.norm.Coef.{Coef}
use Rattle.core_syntax.specs.declared.norm.Letter.{Letter}
use Rattle.core_syntax.specs.declared.norm.Letter.TheVariants as letter
use Rattle.core_syntax.specs.declared.norm.NormIndex.TheVariants as norm
use Rattle.core_syntax.specs.Linear.{Linear, IsAscending}
use Rattle.core_syntax.specs.Word.{Word}
use Rattle.array_values.specs.Forms.{Forms, cells}
use Rattle.array_values.specs.declared.closure.CloseKind.{CloseKind}
use Rattle.array_values.specs.declared.closure.CloseKind.TheVariants as close
use Rattle.machine_table.specs.declared.code.Literal.{Literal}
use Rattle.machine_table.specs.declared.code.Literal.TheVariants as literal
use Rattle.machine_table.specs.declared.code.CodeIndex.{CodeIndex}
use Rattle.machine_table.specs.declared.code.CodeIndex.TheVariants as index
use Rattle.machine_table.specs.contracts.code.CodeIndex as code_index_row
use Rattle.machine_table.specs.declared.code.Instr.{Instr}
use Rattle.machine_table.specs.declared.code.Instr.TheVariants as instr
use Rattle.machine_table.specs.declared.code.Block.{Block}
use Rattle.machine_table.specs.Codes.{Boxes, Param, Code}
use Rattle.machine_table.specs.Indices.{code_index}
use Rattle.machine_table.specs.IndexBounds.{Scope, InBlock, Under, under, Binds, IsVar, IsDim, IsLetter, IsShape, IsCell, IsIndex}
use Rattle.machine_table.specs.CodeBounds.{IsChar, IsLiteral, IsConst, IsFilled, AreIndices, AreCells, IsTaken, IsInstr, IsBlock, AreBlocks, AreHidden, IsAround, IsParam, AreParams, IsCode}

-- a fact of each item
all_prop : {A : Type 0} (P : A → Type 0) → ((x : A) → IsProp (P x)) → (xs : List A) → IsProp (All P xs)
all_prop P p xs u v = λ i k d small. p (slice_index_or xs k d) (u k d small) (v k d small) i

-- ---- indices

binds_prop : (s : Sort) (bs : List Sort) (k : ℕ) → IsProp (Binds s bs k)
binds_prop s [] k = λ a b. absurd a
binds_prop s (b ∷ bs) zero = Coded-set the_row.coded b s
binds_prop s (b ∷ bs) (suc k) = binds_prop s bs k

var_prop : (scope : Scope) (s : Sort) (k : ℕ) → IsProp (IsVar scope s k)
var_prop InBlock s k = le_prop
var_prop (Under binders) s k = binds_prop s binders k

ascending_prop : (low : ℕ) (cs : List Coef) → IsProp (IsAscending low cs)
ascending_prop low [] = Unit-prop
ascending_prop low (c ∷ cs) = ×₃_prop le_prop le_prop (ascending_prop (c.var + 1) cs)

dim_prop : (scope : Scope) (d : Linear) → IsProp (IsDim scope d)
dim_prop scope d u v = λ i. record {
  normal = ascending_prop 0 d.coefs u.normal v.normal i;
  vars = all_prop (λ (c : Coef). IsVar scope sort.Dim c.var) (λ (c : Coef). var_prop scope sort.Dim c.var) d.coefs u.vars v.vars i;
  small = le_prop u.small v.small i;
}

letter_prop : (scope : Scope) (l : Letter) → IsProp (IsLetter scope l)
letter_prop scope (letter.Dim d) = dim_prop scope d
letter_prop scope (letter.Var k) = var_prop scope sort.Shape k

shape_prop : (scope : Scope) (w : Word) → IsProp (IsShape scope w)
shape_prop scope w = all_prop (IsLetter scope) (letter_prop scope) w

index_prop : (i : CodeIndex) → IsProp (IsIndex i)
index_prop (index.Var k) = le_prop
index_prop (index.Dim d) = ×_prop (dim_prop InBlock d) (Coded-set code_index_row.the_row.coded (code_index (norm.Dim d)) (index.Dim d))
index_prop (index.Shape w) = ×_prop (shape_prop InBlock w) (Coded-set code_index_row.the_row.coded (code_index (norm.Shape w)) (index.Shape w))

-- ---- instructions

char_prop : (c : ℕ) → IsProp (IsChar c)
char_prop c (inl a) (inl b) = λ i. inl (le_prop a b i)
char_prop c (inr a) (inr b) = λ i. inr (×_prop le_prop le_prop a b i)
char_prop c (inl a) (inr b) = absurd (let low : 57344 ≤ c = b.0 in omega (arith, a, low))
char_prop c (inr a) (inl b) = absurd (let low : 57344 ≤ c = a.0 in omega (arith, b, low))

literal_prop : (l : Literal) → IsProp (IsLiteral l)
literal_prop (literal.Int (pos n)) = le_prop
literal_prop (literal.Int (negsuc n)) = le_prop
literal_prop (literal.Bool b) = Unit-prop
literal_prop (literal.Char c) = char_prop c

forms_prop : (dims : List ℕ) → IsProp (Forms dims)
forms_prop dims u v = λ i. record { rank = le_prop u.rank v.rank i; each = all_prop (λ d. d < 2 ^ 32) (λ d. le_prop {n = suc d} {m = 2 ^ 32}) dims u.each v.each i; few = le_prop u.few v.few i }

const_prop : (dims : List ℕ) (atoms : List Literal) → IsProp (IsConst dims atoms)
const_prop dims atoms u v = λ i. record {
  forms = forms_prop dims u.forms v.forms i;
  count = Coded-set coded_ℕ (length atoms) (cells dims) u.count v.count i;
  each = all_prop IsLiteral literal_prop atoms u.each v.each i;
}

filled_prop : (dims : List ℕ) → IsProp (IsFilled dims)
filled_prop dims u v = λ i. record { forms = forms_prop dims u.forms v.forms i; some = le_prop u.some v.some i }

indices_prop : (is : List CodeIndex) → IsProp (AreIndices is)
indices_prop is u v = λ i. record { some = le_prop u.some v.some i; each = all_prop IsIndex index_prop is u.each v.each i }

cells_prop : (cs : List Word) → IsProp (AreCells cs)
cells_prop cs u v = λ i. record { some = le_prop u.some v.some i; each = all_prop IsCell (shape_prop InBlock) cs u.each v.each i }

taken_prop : (kind : CloseKind) (n : ℕ) → IsProp (IsTaken kind n)
taken_prop close.Fn n = ×_prop le_prop le_prop
taken_prop close.TypeFn n = Coded-set coded_ℕ n 0
taken_prop close.IndexFn n = ×_prop le_prop le_prop

instr_prop : (blocks : ℕ) (i : Instr) → IsProp (IsInstr blocks i)
instr_prop blocks (instr.Const dims atoms) = const_prop dims atoms
instr_prop blocks (instr.Var k) = le_prop
instr_prop blocks (instr.Global b) = le_prop
instr_prop blocks (instr.Prim p) = Unit-prop
instr_prop blocks (instr.Close kind b n) = ×_prop le_prop (taken_prop kind n)
instr_prop blocks (instr.Box is) = indices_prop is
instr_prop blocks (instr.Array dims) = filled_prop dims
instr_prop blocks (instr.Room dims) = filled_prop dims
instr_prop blocks (instr.Frame dims) = filled_prop dims
instr_prop blocks (instr.Empty shape) = shape_prop InBlock shape
instr_prop blocks (instr.App cs result) = ×_prop (cells_prop cs) (shape_prop InBlock result)
instr_prop blocks (instr.TypeApp result) = shape_prop InBlock result
instr_prop blocks (instr.IndexApp is result) = ×_prop (indices_prop is) (shape_prop InBlock result)
instr_prop blocks (instr.Unbox b n result) = ×₃_prop le_prop (×_prop le_prop le_prop) (shape_prop InBlock result)

-- ---- codes

block_prop : (blocks : ℕ) (b : Block) → IsProp (IsBlock blocks b)
block_prop blocks b u v = λ i. record { some = le_prop u.some v.some i; few = le_prop u.few v.few i; each = all_prop (IsInstr blocks) (instr_prop blocks) b.steps u.each v.each i }

blocks_prop : (bs : List Block) → IsProp (AreBlocks bs)
blocks_prop bs u v = λ i. record { some = le_prop u.some v.some i; few = le_prop u.few v.few i; blocks = all_prop (IsBlock (length bs)) (block_prop (length bs)) bs u.blocks v.blocks i }

hidden_prop : (binders sorts : List Sort) → IsProp (AreHidden binders sorts)
hidden_prop binders sorts u v = λ i. record { some = le_prop u.some v.some i; few = le_prop u.few v.few i }

around_prop : (depth : ℕ) (binders : List Sort) (xs : List Boxes) (shape : Word) → IsProp (IsAround depth binders xs shape)
around_prop depth binders [] shape = shape_prop (Under binders) shape
around_prop zero binders (x ∷ xs) shape = λ a b. absurd a
around_prop (suc depth) binders (x ∷ xs) shape = ×₃_prop (hidden_prop binders x.sorts) (around_prop depth (under x.sorts binders) xs shape) (shape_prop (Under binders) x.shape)

params_prop : (ps : List Param) → IsProp (AreParams ps)
params_prop ps u v = λ i. record { few = le_prop u.few v.few i; params = all_prop IsParam (λ (p : Param). around_prop 256 [] p.boxes p.shape) ps u.params v.params i }

pub code_prop : (c : Code) → IsProp (IsCode c)
code_prop c u v = λ i. record { params = params_prop c.params u.params v.params i; blocks = blocks_prop c.blocks u.blocks v.blocks i }
