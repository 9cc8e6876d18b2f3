-- Lines, read and spelled.
use Rattle.std.proofs.Common.{◌≡◌, ℕ, zero, suc, ◌-◌, ◌^◌, ◌≤◌, ◌<◌, eqb, Bool, true, false, List, [], ◌∷◌, ◌++◌, map, ap, sym, subst, ◌∙◌, refl, arith, lit<, lit≤, append_assoc}
use Rattle.std.specs.Prelude.{codes}
use Rattle.std.specs.List.{All}
use Rattle.std.specs.Fmt.{decimal}
use Rattle.std.proofs.lemmas.List.Elements.{All-nil, All-cons, All-head, All-tail}
use Rattle.core_syntax.specs.Word.{Word}
use Rattle.array_values.specs.Forms.{cells}
use Rattle.machine_table.specs.declared.code.Literal.{Literal}
use Rattle.array_values.specs.declared.closure.CloseKind.TheVariants as close
use Rattle.machine_table.specs.declared.code.CodeIndex.{CodeIndex}
use Rattle.machine_table.specs.declared.code.Instr.{Instr}
use Rattle.machine_table.specs.declared.code.Instr.TheVariants as instr
use Rattle.machine_table.specs.IndexBounds.{InBlock, IsIndex, IsCell}
use Rattle.machine_table.specs.CodeBounds.{IsLiteral, IsConst, IsFilled, AreIndices, AreCells, IsCount, IsInstr}
use Rattle.code_text.specs.Text.{literal_text, primitive_text}
use Rattle.code_text.specs.Reading.{Reader, is_hex, common, plainly, behind, before, both_at, made, choice}
use Rattle.code_text.specs.DimsReading.{dims_at, filled_at}
use Rattle.code_text.specs.LiteralReading.{literal_at}
use Rattle.code_text.specs.IndexReading.{largest, index_at}
use Rattle.code_text.specs.CodeReading.{number, count, next_count, block_number, cell_at, next_cell, cells_at, indices_at, atoms_at, primitives, primitive_at, name_line, keywords, line_end, line_of, line_at}
use Rattle.code_text.proofs.goes.PickGoes.{At}
use Rattle.code_text.proofs.codecs.Codec.{Codec, made_codec, both_codec}
use Rattle.code_text.proofs.codecs.Parts.{behind_codec, before_codec, number_codec, positive_codec, choice_codec}
use Rattle.code_text.proofs.codecs.Many.{agree, Counted, many_codec, SomeItems, EachItem, some_codec}
use Rattle.code_text.proofs.atoms.Literals.{literal_codec}
use Rattle.code_text.proofs.indices.Indices.{index_codec, cell_codec}
use Rattle.code_text.proofs.dims.Filled.{IsCounted, dims_codec, filled_codec}
use Rattle.code_text.proofs.lines.Names.{name_codec}
use Rattle.code_text.proofs.forms.CodeForms.{dims_form, index_form, line_form}
use Rattle.code_text.proofs.forms.IndexForms.{shape_form}
use Rattle.code_text.proofs.forms.Lists.{until, listed}
use Rattle.code_text.specs.Spelling.{spaced}

-- what f makes of something for which P holds
abbrev pub Image : {A B : Type 0} → (A → B) → (A → Type 0) → B → Type 0
Image {A} f P b = (a : A) × P a × (f a ≡ b)

image_codec : {A B : Type 0} (f : A → B) (p : Reader A) (t : A → List ℕ) (P : A → Type 0) (u : B → List ℕ) → ((a : A) → P a → u (f a) ≡ t a) → Codec false false p t P → Codec false false (made f p) u (Image f P)
image_codec f p t P u spelled c = made_codec f p t P u (Image f P) spelled (λ a is. (a, is, refl)) (λ b is. is) false false c

-- ---- parts of lines

abbrev IsNumber : ℕ → Type 0
IsNumber n = n ≤ largest

abbrev IsCounting : ℕ → Type 0
IsCounting n = (1 ≤ n) × (n ≤ largest)

ended_number : Codec false false (before number line_end) (λ n. decimal n ++ line_end) IsNumber
ended_number = before_codec line_end number decimal IsNumber false true refl (number_codec largest (lit< tt))

next_codec : Codec true true next_count (λ n. (32 ∷ []) ++ decimal n) IsCounting
next_codec = behind_codec (32 ∷ []) count decimal IsCounting true false true refl (positive_codec largest (lit≤ tt) (lit< tt))

next_cell_codec : Codec true true next_cell (λ w. (32 ∷ []) ++ shape_form InBlock w) IsCell
next_cell_codec = behind_codec (32 ∷ []) cell_at (shape_form InBlock) IsCell true false true refl cell_codec

-- a shape and the end of the line
ended_cell : Codec false false (before cell_at line_end) (λ w. shape_form InBlock w ++ line_end) IsCell
ended_cell = before_codec line_end cell_at (shape_form InBlock) IsCell false true refl cell_codec

ended_dims : Codec false false (before filled_at line_end) (λ ds. dims_form ds ++ line_end) IsFilled
ended_dims = before_codec line_end filled_at dims_form IsFilled false false tt filled_codec

abbrev Any : Bool → Type 0
Any s = Unit {0}

index_item : (s : Bool) → Any s → true ≡ true → Codec false true index_at index_form IsIndex
index_item s v e = index_codec

cell_item : (s : Bool) → Any s → true ≡ true → Codec false true cell_at (shape_form InBlock) IsCell
cell_item s v e = cell_codec

later : {A : Type 0} (P : A → Type 0) (s : Bool) (a : A) → Any s → P a → Any s
later P s a v is = tt

module _ (close : ℕ) (closes : is_hex close ≡ false) (apart : eqb 32 close ≡ false) where
  abbrev Indices : List CodeIndex → Type 0
  Indices is = SomeItems close closes apart (λ _. true) (λ _. index_at) (λ s _. s) index_form Any (λ _. IsIndex) index_item (later IsIndex) true is

  abbrev EachIndex : List CodeIndex → Type 0
  EachIndex is = EachItem close closes apart (λ _. true) (λ _. index_at) (λ s _. s) index_form Any (λ _. IsIndex) index_item (later IsIndex) true is

  each_index : (is : List CodeIndex) → EachIndex is → All IsIndex is
  each_index [] h = All-nil IsIndex
  each_index (i ∷ is) h = All-cons IsIndex i is h.1 (each_index is h.2)

  index_each : (is : List CodeIndex) → All IsIndex is → EachIndex is
  index_each [] h = tt
  index_each (i ∷ is) h = (refl, All-head IsIndex i is h, index_each is (All-tail IsIndex i is h))

  to_indices : (is : List CodeIndex) → Indices is → AreIndices is
  to_indices [] h = absurd h
  to_indices (i ∷ is) h = record { some = omega arith; each = All-cons IsIndex i is h.0 (each_index is h.1) }

  from_indices : (is : List CodeIndex) → AreIndices is → Indices is
  from_indices [] h = absurd (omega (arith, h.some))
  from_indices (i ∷ is) h = (All-head IsIndex i is h.each, index_each is (All-tail IsIndex i is h.each))

  indices_codec : Codec false false (indices_at close) (listed close index_form) AreIndices
  indices_codec = agree false false (indices_at close) (listed close index_form) Indices AreIndices to_indices from_indices
      (some_codec close closes apart (λ _. true) (λ _. index_at) (λ s _. s) index_form Any (λ _. IsIndex) index_item (later IsIndex) true tt refl)

abbrev Cells : List Word → Type 0
Cells cs = SomeItems 41 refl refl (λ _. true) (λ _. cell_at) (λ s _. s) (shape_form InBlock) Any (λ _. IsCell) cell_item (later IsCell) true cs

abbrev EachCell : List Word → Type 0
EachCell cs = EachItem 41 refl refl (λ _. true) (λ _. cell_at) (λ s _. s) (shape_form InBlock) Any (λ _. IsCell) cell_item (later IsCell) true cs

each_cell : (cs : List Word) → EachCell cs → All IsCell cs
each_cell [] h = All-nil IsCell
each_cell (c ∷ cs) h = All-cons IsCell c cs h.1 (each_cell cs h.2)

cell_each : (cs : List Word) → All IsCell cs → EachCell cs
cell_each [] h = tt
cell_each (c ∷ cs) h = (refl, All-head IsCell c cs h, cell_each cs (All-tail IsCell c cs h))

to_cells : (cs : List Word) → Cells cs → AreCells cs
to_cells [] h = absurd h
to_cells (c ∷ cs) h = record { some = omega arith; each = All-cons IsCell c cs h.0 (each_cell cs h.1) }

from_cells : (cs : List Word) → AreCells cs → Cells cs
from_cells [] h = absurd (omega (arith, h.some))
from_cells (c ∷ cs) h = (All-head IsCell c cs h.each, cell_each cs (All-tail IsCell c cs h.each))

cells_codec : Codec false false cells_at (listed 41 (shape_form InBlock)) AreCells
cells_codec = agree false false cells_at (listed 41 (shape_form InBlock)) Cells AreCells to_cells from_cells
    (some_codec 41 refl refl (λ _. true) (λ _. cell_at) (λ s _. s) (shape_form InBlock) Any (λ _. IsCell) cell_item (later IsCell) true tt refl)

atom_codec : Codec true true (behind (32 ∷ []) literal_at) (λ a. (32 ∷ []) ++ literal_text a) IsLiteral
atom_codec = behind_codec (32 ∷ []) literal_at literal_text IsLiteral true false true refl literal_codec

abbrev AreAtoms : List ℕ × ℕ → List Literal → Type 0
AreAtoms dims atoms = Counted (behind (32 ∷ []) literal_at) (λ a. (32 ∷ []) ++ literal_text a) IsLiteral dims.1 atoms

abbrev IsConstPair : (List ℕ × ℕ) × List Literal → Type 0
IsConstPair x = IsCounted x.0 × AreAtoms x.0 x.1

const_codec : Codec false false (before (both_at (plainly dims_at) atoms_at) line_end) (λ x. (dims_form x.0.0 ++ spaced literal_text x.1) ++ line_end) IsConstPair
const_codec =
    before_codec line_end (both_at (plainly dims_at) atoms_at) (λ x. dims_form x.0.0 ++ spaced literal_text x.1) IsConstPair false true refl
    (both_codec (plainly dims_at) (λ x. dims_form x.0) IsCounted atoms_at (λ ds. spaced literal_text) AreAtoms false false false true refl dims_codec
    (λ ds is. many_codec (behind (32 ∷ []) literal_at) (λ a. (32 ∷ []) ++ literal_text a) IsLiteral true true refl atom_codec ds.1))

abbrev IsAppPair : List Word × Word → Type 0
IsAppPair x = AreCells x.0 × IsCell x.1

app_codec : Codec false false (before (both_at cells_at (λ cs. next_cell)) line_end) (λ x. (listed 41 (shape_form InBlock) x.0 ++ ((32 ∷ []) ++ shape_form InBlock x.1)) ++ line_end) IsAppPair
app_codec =
    before_codec line_end (both_at cells_at (λ cs. next_cell)) (λ x. listed 41 (shape_form InBlock) x.0 ++ ((32 ∷ []) ++ shape_form InBlock x.1)) IsAppPair false true refl
    (both_codec cells_at (listed 41 (shape_form InBlock)) AreCells (λ cs. next_cell) (λ cs w. (32 ∷ []) ++ shape_form InBlock w) (λ cs. IsCell) false false true true refl cells_codec (λ cs is. next_cell_codec))

abbrev IsIndexAppPair : List CodeIndex × Word → Type 0
IsIndexAppPair x = AreIndices x.0 × IsCell x.1

index_app_codec : Codec false false (before (both_at (indices_at 41) (λ is. next_cell)) line_end) (λ x. (listed 41 index_form x.0 ++ ((32 ∷ []) ++ shape_form InBlock x.1)) ++ line_end) IsIndexAppPair
index_app_codec =
    before_codec line_end (both_at (indices_at 41) (λ is. next_cell)) (λ x. listed 41 index_form x.0 ++ ((32 ∷ []) ++ shape_form InBlock x.1)) IsIndexAppPair false true refl
    (both_codec (indices_at 41) (listed 41 index_form) AreIndices (λ is. next_cell) (λ is w. (32 ∷ []) ++ shape_form InBlock w) (λ is. IsCell) false false true true refl (indices_codec 41 refl refl) (λ cs is. next_cell_codec))

-- ---- what follows a keyword

tail_text : Instr → List ℕ
tail_text (instr.Const dims atoms) = (dims_form dims ++ spaced literal_text atoms) ++ line_end
tail_text (instr.Var k) = decimal k ++ line_end
tail_text (instr.Global b) = decimal b ++ line_end
tail_text (instr.Prim p) = primitive_text p ++ line_end
tail_text (instr.Close close.Fn b n) = (decimal b ++ ((32 ∷ []) ++ decimal n)) ++ line_end
tail_text (instr.Close close.TypeFn b n) = decimal b ++ line_end
tail_text (instr.Close close.IndexFn b n) = (decimal b ++ ((32 ∷ []) ++ decimal n)) ++ line_end
tail_text (instr.Box is) = listed 10 index_form is
tail_text (instr.Array dims) = dims_form dims ++ line_end
tail_text (instr.Room dims) = dims_form dims ++ line_end
tail_text (instr.Frame dims) = dims_form dims ++ line_end
tail_text (instr.Empty shape) = shape_form InBlock shape ++ line_end
tail_text (instr.App cells result) = (listed 41 (shape_form InBlock) cells ++ ((32 ∷ []) ++ shape_form InBlock result)) ++ line_end
tail_text (instr.TypeApp result) = shape_form InBlock result ++ line_end
tail_text (instr.IndexApp is result) = (listed 41 index_form is ++ ((32 ∷ []) ++ shape_form InBlock result)) ++ line_end
tail_text (instr.Unbox b n result) = (decimal b ++ (((32 ∷ []) ++ decimal n) ++ ((32 ∷ []) ++ shape_form InBlock result))) ++ line_end

-- items up to the end of the line, and the end behind them
until_end : {A : Type 0} (t : A → List ℕ) (xs : List A) → spaced t xs ++ line_end ≡ until 10 t xs
until_end t [] = refl
until_end t (x ∷ xs) = ap (λ v. 32 ∷ v) (append_assoc (t x) (spaced t xs) line_end ∙ ap (λ v. t x ++ v) (until_end t xs))

box_spelled : (is : List CodeIndex) → AreIndices is → line_form (instr.Box is) ≡ codes "box " ++ listed 10 index_form is
box_spelled [] h = absurd (omega (arith, h.some))
box_spelled (i ∷ is) h = ap (λ v. codes "box " ++ v) (append_assoc (index_form i) (spaced index_form is) line_end ∙ ap (λ v. index_form i ++ v) (until_end index_form is))

module _ (blocks : ℕ) (some : 0 < blocks) (few : blocks < 2 ^ 32) where
  abbrev IsBlockNumber : ℕ → Type 0
  IsBlockNumber b = b ≤ blocks - 1

  block_codec : Codec false true (block_number blocks) decimal IsBlockNumber
  block_codec = number_codec (blocks - 1) (omega (arith, few))

  ended_block : Codec false false (before (block_number blocks) line_end) (λ b. decimal b ++ line_end) IsBlockNumber
  ended_block = before_codec line_end (block_number blocks) decimal IsBlockNumber false true refl block_codec

  abbrev IsTarget : ℕ × ℕ → Type 0
  IsTarget x = IsBlockNumber x.0 × IsCounting x.1

  target_codec : Codec false false (before (both_at (block_number blocks) (λ b. next_count)) line_end) (λ x. (decimal x.0 ++ ((32 ∷ []) ++ decimal x.1)) ++ line_end) IsTarget
  target_codec =
      before_codec line_end (both_at (block_number blocks) (λ b. next_count)) (λ x. decimal x.0 ++ ((32 ∷ []) ++ decimal x.1)) IsTarget false true refl
      (both_codec (block_number blocks) decimal IsBlockNumber (λ b. next_count) (λ b n. (32 ∷ []) ++ decimal n) (λ b. IsCounting) false true true true refl block_codec (λ b is. next_codec))

  abbrev IsUnboxed : ℕ × (ℕ × Word) → Type 0
  IsUnboxed x = IsBlockNumber x.0 × (IsCounting x.1.0 × IsCell x.1.1)

  unbox_codec : Codec false false (before (both_at (block_number blocks) (λ b. both_at next_count (λ n. next_cell))) line_end) (λ x. (decimal x.0 ++ (((32 ∷ []) ++ decimal x.1.0) ++ ((32 ∷ []) ++ shape_form InBlock x.1.1))) ++ line_end) IsUnboxed
  unbox_codec =
      before_codec line_end (both_at (block_number blocks) (λ b. both_at next_count (λ n. next_cell))) (λ x. decimal x.0 ++ (((32 ∷ []) ++ decimal x.1.0) ++ ((32 ∷ []) ++ shape_form InBlock x.1.1))) IsUnboxed false true refl
      (both_codec (block_number blocks) decimal IsBlockNumber (λ b. both_at next_count (λ n. next_cell)) (λ b x. ((32 ∷ []) ++ decimal x.0) ++ ((32 ∷ []) ++ shape_form InBlock x.1)) (λ b x. IsCounting x.0 × IsCell x.1) false true true true refl block_codec
      (λ b is. both_codec next_count (λ n. (32 ∷ []) ++ decimal n) IsCounting (λ n. next_cell) (λ n w. (32 ∷ []) ++ shape_form InBlock w) (λ n. IsCell) true true true true refl next_codec (λ n h. next_cell_codec)))

  -- the instruction is one whose keyword has this number
  IsLineOf : ℕ → Instr → Type 0
  IsLineOf zero i = Image (λ x. instr.Const x.0.0 x.1) IsConstPair i
  IsLineOf (suc zero) i = Image instr.Var IsNumber i
  IsLineOf (suc (suc zero)) i = Image instr.Global IsBlockNumber i
  IsLineOf (suc (suc (suc zero))) i = Image instr.Prim (λ p. Unit {0}) i
  IsLineOf (suc (suc (suc (suc zero)))) i = Image (λ x. instr.Close close.Fn x.0 x.1) IsTarget i
  IsLineOf (suc (suc (suc (suc (suc zero))))) i = Image (λ b. instr.Close close.TypeFn b 0) IsBlockNumber i
  IsLineOf (suc (suc (suc (suc (suc (suc zero)))))) i = Image (λ x. instr.Close close.IndexFn x.0 x.1) IsTarget i
  IsLineOf (suc (suc (suc (suc (suc (suc (suc zero))))))) i = Image instr.Box AreIndices i
  IsLineOf (suc (suc (suc (suc (suc (suc (suc (suc zero)))))))) i = Image instr.Array IsFilled i
  IsLineOf (suc (suc (suc (suc (suc (suc (suc (suc (suc zero))))))))) i = Image instr.Room IsFilled i
  IsLineOf (suc (suc (suc (suc (suc (suc (suc (suc (suc (suc zero)))))))))) i = Image instr.Frame IsFilled i
  IsLineOf (suc (suc (suc (suc (suc (suc (suc (suc (suc (suc (suc zero))))))))))) i = Image instr.Empty IsCell i
  IsLineOf (suc (suc (suc (suc (suc (suc (suc (suc (suc (suc (suc (suc zero)))))))))))) i = Image (λ x. instr.App x.0 x.1) IsAppPair i
  IsLineOf (suc (suc (suc (suc (suc (suc (suc (suc (suc (suc (suc (suc (suc zero))))))))))))) i = Image instr.TypeApp IsCell i
  IsLineOf (suc (suc (suc (suc (suc (suc (suc (suc (suc (suc (suc (suc (suc (suc zero)))))))))))))) i = Image (λ x. instr.IndexApp x.0 x.1) IsIndexAppPair i
  IsLineOf (suc (suc (suc (suc (suc (suc (suc (suc (suc (suc (suc (suc (suc (suc (suc j))))))))))))))) i = Image (λ x. instr.Unbox x.0 x.1.0 x.1.1) IsUnboxed i

  branch : (j : ℕ) (w : List ℕ) → At keywords j w → Codec false false (line_of blocks j) tail_text (IsLineOf j)
  unfolding tail_text IsLineOf
  branch zero w at = image_codec (λ x. instr.Const x.0.0 x.1) (before (both_at (plainly dims_at) atoms_at) line_end) (λ x. (dims_form x.0.0 ++ spaced literal_text x.1) ++ line_end) IsConstPair tail_text (λ a is. refl) const_codec
  branch (suc zero) w at = image_codec instr.Var (before number line_end) (λ n. decimal n ++ line_end) IsNumber tail_text (λ a is. refl) ended_number
  branch (suc (suc zero)) w at = image_codec instr.Global (before (block_number blocks) line_end) (λ b. decimal b ++ line_end) IsBlockNumber tail_text (λ a is. refl) ended_block
  branch (suc (suc (suc zero))) w at = image_codec instr.Prim (choice (map name_line primitives) primitive_at) name_line (λ p. Unit {0}) tail_text (λ a is. refl) name_codec
  branch (suc (suc (suc (suc zero)))) w at = image_codec (λ x. instr.Close close.Fn x.0 x.1) (before (both_at (block_number blocks) (λ b. next_count)) line_end) (λ x. (decimal x.0 ++ ((32 ∷ []) ++ decimal x.1)) ++ line_end) IsTarget tail_text (λ a is. refl) target_codec
  branch (suc (suc (suc (suc (suc zero))))) w at = image_codec (λ b. instr.Close close.TypeFn b 0) (before (block_number blocks) line_end) (λ b. decimal b ++ line_end) IsBlockNumber tail_text (λ a is. refl) ended_block
  branch (suc (suc (suc (suc (suc (suc zero)))))) w at = image_codec (λ x. instr.Close close.IndexFn x.0 x.1) (before (both_at (block_number blocks) (λ b. next_count)) line_end) (λ x. (decimal x.0 ++ ((32 ∷ []) ++ decimal x.1)) ++ line_end) IsTarget tail_text (λ a is. refl) target_codec
  branch (suc (suc (suc (suc (suc (suc (suc zero))))))) w at = image_codec instr.Box (indices_at 10) (listed 10 index_form) AreIndices tail_text (λ a is. refl) (indices_codec 10 refl refl)
  branch (suc (suc (suc (suc (suc (suc (suc (suc zero)))))))) w at = image_codec instr.Array (before filled_at line_end) (λ ds. dims_form ds ++ line_end) IsFilled tail_text (λ a is. refl) ended_dims
  branch (suc (suc (suc (suc (suc (suc (suc (suc (suc zero))))))))) w at = image_codec instr.Room (before filled_at line_end) (λ ds. dims_form ds ++ line_end) IsFilled tail_text (λ a is. refl) ended_dims
  branch (suc (suc (suc (suc (suc (suc (suc (suc (suc (suc zero)))))))))) w at = image_codec instr.Frame (before filled_at line_end) (λ ds. dims_form ds ++ line_end) IsFilled tail_text (λ a is. refl) ended_dims
  branch (suc (suc (suc (suc (suc (suc (suc (suc (suc (suc (suc zero))))))))))) w at = image_codec instr.Empty (before cell_at line_end) (λ w. shape_form InBlock w ++ line_end) IsCell tail_text (λ a is. refl) ended_cell
  branch (suc (suc (suc (suc (suc (suc (suc (suc (suc (suc (suc (suc zero)))))))))))) w at = image_codec (λ x. instr.App x.0 x.1) (before (both_at cells_at (λ cs. next_cell)) line_end) (λ x. (listed 41 (shape_form InBlock) x.0 ++ ((32 ∷ []) ++ shape_form InBlock x.1)) ++ line_end) IsAppPair tail_text (λ a is. refl) app_codec
  branch (suc (suc (suc (suc (suc (suc (suc (suc (suc (suc (suc (suc (suc zero))))))))))))) w at = image_codec instr.TypeApp (before cell_at line_end) (λ w. shape_form InBlock w ++ line_end) IsCell tail_text (λ a is. refl) ended_cell
  branch (suc (suc (suc (suc (suc (suc (suc (suc (suc (suc (suc (suc (suc (suc zero)))))))))))))) w at = image_codec (λ x. instr.IndexApp x.0 x.1) (before (both_at (indices_at 41) (λ is. next_cell)) line_end) (λ x. (listed 41 index_form x.0 ++ ((32 ∷ []) ++ shape_form InBlock x.1)) ++ line_end) IsIndexAppPair tail_text (λ a is. refl) index_app_codec
  branch (suc (suc (suc (suc (suc (suc (suc (suc (suc (suc (suc (suc (suc (suc (suc j))))))))))))))) w at = image_codec (λ x. instr.Unbox x.0 x.1.0 x.1.1) (before (both_at (block_number blocks) (λ b. both_at next_count (λ n. next_cell))) line_end) (λ x. (decimal x.0 ++ (((32 ∷ []) ++ decimal x.1.0) ++ ((32 ∷ []) ++ shape_form InBlock x.1.1))) ++ line_end) IsUnboxed tail_text (λ a is. refl) unbox_codec

  abbrev Lined : List ℕ → Instr → Type 0
  Lined w i = IsInstr blocks i × (line_form i ≡ w ++ tail_text i)

  -- what follows a word stands for an instruction
  lined : {A : Type 0} (f : A → Instr) (P : A → Type 0) (v w : List ℕ) (i : Instr) → v ≡ w → ((a : A) → P a → Lined v (f a)) → Image f P i → Lined w i
  lined f P v w i same holds is = subst (Lined w) is.2 (subst (λ x. Lined x (f is.0)) same (holds is.0 is.1))

  below : (b : ℕ) → IsBlockNumber b → b < blocks
  below b is = omega (arith, is, some)

  counting : (n : ℕ) → IsCounting n → IsCount n
  counting n is = (omega (arith, is.0), omega (arith, is.1))

  is_const : (x : (List ℕ × ℕ) × List Literal) → IsConstPair x → IsConst x.0.0 x.1
  is_const x is = record { forms = is.0.0; count = is.1.count ∙ is.0.1; each = is.1.each }

  up : (j : ℕ) (w : List ℕ) (i : Instr) → At keywords j w → IsLineOf j i → Lined w i
  unfolding tail_text IsLineOf
  up zero w i at is = lined (λ x. instr.Const x.0.0 x.1) IsConstPair (codes "const (") w i at (λ x is. (is_const x is, refl)) is
  up (suc zero) w i at is = lined instr.Var IsNumber (codes "var ") w i at (λ n is. (omega (arith, is), refl)) is
  up (suc (suc zero)) w i at is = lined instr.Global IsBlockNumber (codes "global ") w i at (λ b is. (below b is, refl)) is
  up (suc (suc (suc zero))) w i at is = lined instr.Prim (λ p. Unit {0}) (codes "prim ") w i at (λ p is. (tt, refl)) is
  up (suc (suc (suc (suc zero)))) w i at is = lined (λ x. instr.Close close.Fn x.0 x.1) IsTarget (codes "close fn ") w i at (λ x is. ((below x.0 is.0, counting x.1 is.1), refl)) is
  up (suc (suc (suc (suc (suc zero))))) w i at is = lined (λ b. instr.Close close.TypeFn b 0) IsBlockNumber (codes "close tfn ") w i at (λ b is. ((below b is, refl), refl)) is
  up (suc (suc (suc (suc (suc (suc zero)))))) w i at is = lined (λ x. instr.Close close.IndexFn x.0 x.1) IsTarget (codes "close ifn ") w i at (λ x is. ((below x.0 is.0, counting x.1 is.1), refl)) is
  up (suc (suc (suc (suc (suc (suc (suc zero))))))) w i at is = lined instr.Box AreIndices (codes "box ") w i at (λ is h. (h, box_spelled is h)) is
  up (suc (suc (suc (suc (suc (suc (suc (suc zero)))))))) w i at is = lined instr.Array IsFilled (codes "array (") w i at (λ ds is. (is, refl)) is
  up (suc (suc (suc (suc (suc (suc (suc (suc (suc zero))))))))) w i at is = lined instr.Room IsFilled (codes "room (") w i at (λ ds is. (is, refl)) is
  up (suc (suc (suc (suc (suc (suc (suc (suc (suc (suc zero)))))))))) w i at is = lined instr.Frame IsFilled (codes "frame (") w i at (λ ds is. (is, refl)) is
  up (suc (suc (suc (suc (suc (suc (suc (suc (suc (suc (suc zero))))))))))) w i at is = lined instr.Empty IsCell (codes "empty ") w i at (λ w is. (is, refl)) is
  up (suc (suc (suc (suc (suc (suc (suc (suc (suc (suc (suc (suc zero)))))))))))) w i at is = lined (λ x. instr.App x.0 x.1) IsAppPair (codes "app (") w i at (λ x is. (is, refl)) is
  up (suc (suc (suc (suc (suc (suc (suc (suc (suc (suc (suc (suc (suc zero))))))))))))) w i at is = lined instr.TypeApp IsCell (codes "tapp ") w i at (λ w is. (is, refl)) is
  up (suc (suc (suc (suc (suc (suc (suc (suc (suc (suc (suc (suc (suc (suc zero)))))))))))))) w i at is = lined (λ x. instr.IndexApp x.0 x.1) IsIndexAppPair (codes "iapp (") w i at (λ x is. (is, refl)) is
  up (suc (suc (suc (suc (suc (suc (suc (suc (suc (suc (suc (suc (suc (suc (suc zero))))))))))))))) w i at is = lined (λ x. instr.Unbox x.0 x.1.0 x.1.1) IsUnboxed (codes "unbox ") w i at (λ x is. ((below x.0 is.0, counting x.1.0 is.1.0, is.1.1), refl)) is
  up (suc (suc (suc (suc (suc (suc (suc (suc (suc (suc (suc (suc (suc (suc (suc (suc j)))))))))))))))) w i at is = absurd at

  uncount : (n : ℕ) → IsCount n → IsCounting n
  uncount n is = (omega (arith, is.0), omega (arith, is.1))

  within : (b : ℕ) → b < blocks → IsBlockNumber b
  within b is = omega (arith, is)

  down : (i : Instr) → IsInstr blocks i → (j : ℕ) × (w : List ℕ) × At keywords j w × IsLineOf j i
  unfolding IsLineOf
  down (instr.Const dims atoms) is = (0, codes "const (", refl, (((dims, cells dims), atoms), ((is.forms, refl), record { count = is.count; each = is.each }), refl))
  down (instr.Var k) is = (1, codes "var ", refl, (k, omega (arith, is), refl))
  down (instr.Global b) is = (2, codes "global ", refl, (b, within b is, refl))
  down (instr.Prim p) is = (3, codes "prim ", refl, (p, tt, refl))
  down (instr.Close close.Fn b n) is = (4, codes "close fn ", refl, ((b, n), (within b is.0, uncount n is.1), refl))
  down (instr.Close close.TypeFn b n) is = (5, codes "close tfn ", refl, (b, within b is.0, ap (λ (m : ℕ). instr.Close close.TypeFn b m) (sym is.1)))
  down (instr.Close close.IndexFn b n) is = (6, codes "close ifn ", refl, ((b, n), (within b is.0, uncount n is.1), refl))
  down (instr.Box is) h = (7, codes "box ", refl, (is, h, refl))
  down (instr.Array dims) is = (8, codes "array (", refl, (dims, is, refl))
  down (instr.Room dims) is = (9, codes "room (", refl, (dims, is, refl))
  down (instr.Frame dims) is = (10, codes "frame (", refl, (dims, is, refl))
  down (instr.Empty shape) is = (11, codes "empty ", refl, (shape, is, refl))
  down (instr.App cells result) is = (12, codes "app (", refl, ((cells, result), is, refl))
  down (instr.TypeApp result) is = (13, codes "tapp ", refl, (result, is, refl))
  down (instr.IndexApp is result) h = (14, codes "iapp (", refl, ((is, result), h, refl))
  down (instr.Unbox b n result) is = (15, codes "unbox ", refl, ((b, (n, result)), (within b is.0, (uncount n is.1, is.2)), refl))

  -- a line of a code of so many blocks
  pub line_codec : Codec false false (line_at blocks) line_form (IsInstr blocks)
  unfolding common
  line_codec = choice_codec keywords (codes "const (") refl refl (line_of blocks) (λ j. tail_text) IsLineOf line_form (IsInstr blocks) false branch up down
