-- The text of codes as a reader meets it.
use Rattle.std.proofs.Common.{◌≡◌, ℕ, List, [], ◌∷◌, ◌++◌, length, ap, ◌∙◌, refl, append_assoc}
use Rattle.std.specs.Prelude.{codes, flat_map}
use Rattle.std.specs.Fmt.{decimal}
use Rattle.std.proofs.lemmas.List.{append-nil}
use Rattle.core_syntax.specs.Word.{Word}
use Rattle.array_values.specs.declared.closure.CloseKind.{CloseKind}
use Rattle.array_values.specs.declared.closure.CloseKind.TheVariants as close
use Rattle.machine_table.specs.declared.code.CodeIndex.{CodeIndex}
use Rattle.machine_table.specs.declared.code.CodeIndex.TheVariants as index
use Rattle.machine_table.specs.declared.code.Instr.{Instr}
use Rattle.machine_table.specs.declared.code.Instr.TheVariants as instr
use Rattle.machine_table.specs.declared.code.Block.{Block}
use Rattle.machine_table.specs.Codes.{Code, Param}
use Rattle.machine_table.specs.IndexBounds.{InBlock}
use Rattle.code_text.specs.Spelling.{spaced, bracketed, lines}
use Rattle.code_text.specs.IndexText.{name_text}
use Rattle.code_text.specs.ParamText.{param_text}
use Rattle.code_text.specs.Text.{literal_text, primitive_text, index_text, dims_text, cell_text, instr_text, block_text, code_text}
use Rattle.code_text.proofs.forms.Lists.{listed, bracketed_is, beside}
use Rattle.code_text.proofs.forms.IndexForms.{dim_form, shape_form, dim_is, shape_is}
use Rattle.code_text.proofs.forms.ParamForms.{param_form, param_is}

abbrev pub dims_form : List ℕ → List ℕ
dims_form ds = listed 41 decimal ds

abbrev pub index_form : CodeIndex → List ℕ
index_form (index.Var k) = name_text InBlock k
index_form (index.Dim d) = dim_form InBlock d
index_form (index.Shape w) = shape_form InBlock w

abbrev pub close_form : CloseKind → ℕ → ℕ → List ℕ
close_form close.Fn block count = codes "fn " ++ (decimal block ++ 32 ∷ decimal count)
close_form close.TypeFn block count = codes "tfn " ++ decimal block
close_form close.IndexFn block count = codes "ifn " ++ (decimal block ++ 32 ∷ decimal count)

abbrev pub instr_form : Instr → List ℕ
instr_form (instr.Const dims atoms) = codes "const (" ++ (dims_form dims ++ spaced literal_text atoms)
instr_form (instr.Var k) = codes "var " ++ decimal k
instr_form (instr.Global b) = codes "global " ++ decimal b
instr_form (instr.Prim p) = codes "prim " ++ primitive_text p
instr_form (instr.Close kind block count) = codes "close " ++ close_form kind block count
instr_form (instr.Box is) = codes "box" ++ spaced index_form is
instr_form (instr.Array dims) = codes "array (" ++ dims_form dims
instr_form (instr.Room dims) = codes "room (" ++ dims_form dims
instr_form (instr.Frame dims) = codes "frame (" ++ dims_form dims
instr_form (instr.Empty shape) = codes "empty " ++ shape_form InBlock shape
instr_form (instr.App cells result) = codes "app (" ++ (listed 41 (shape_form InBlock) cells ++ 32 ∷ shape_form InBlock result)
instr_form (instr.TypeApp result) = codes "tapp " ++ shape_form InBlock result
instr_form (instr.IndexApp is result) = codes "iapp (" ++ (listed 41 index_form is ++ 32 ∷ shape_form InBlock result)
instr_form (instr.Unbox block count result) = codes "unbox " ++ (decimal block ++ 32 ∷ (decimal count ++ 32 ∷ shape_form InBlock result))

-- an instruction and the end of its line
abbrev pub line_form : Instr → List ℕ
line_form i = instr_form i ++ 10 ∷ []

abbrev pub block_form : Block → List ℕ
block_form b = codes "block " ++ (decimal (length b.steps) ++ 10 ∷ flat_map line_form b.steps)

-- the type of an input and the end of its line
abbrev pub param_line_form : Param → List ℕ
param_line_form p = param_form p ++ 10 ∷ []

abbrev pub code_form : Code → List ℕ
code_form c =
    codes "remora-code 1" ++ 10 ∷ (codes "params " ++ (decimal (length c.params) ++ 10 ∷ (flat_map param_line_form c.params ++ (codes "blocks " ++ (decimal (length c.blocks) ++ 10 ∷ flat_map block_form c.blocks)))))

-- ---- it is the text

index_is : (i : CodeIndex) → index_text i ≡ index_form i
index_is (index.Var k) = refl
index_is (index.Dim d) = dim_is InBlock d
index_is (index.Shape w) = shape_is InBlock w

indices : index_text ≡ index_form
indices = λ i x. index_is x i

cells : cell_text ≡ shape_form InBlock
cells = λ i w. shape_is InBlock w i

-- dims behind a keyword
dims_is : (dims : List ℕ) → dims_text dims ≡ codes "(" ++ dims_form dims
dims_is dims = bracketed_is decimal dims

instr_is : (i : Instr) → instr_text i ≡ instr_form i
instr_is (instr.Const dims atoms) = ap (λ v. codes "const " ++ (v ++ spaced literal_text atoms)) (dims_is dims)
instr_is (instr.Var k) = refl
instr_is (instr.Global b) = refl
instr_is (instr.Prim p) = refl
instr_is (instr.Close close.Fn block count) = refl
instr_is (instr.Close close.TypeFn block count) = ap (λ v. codes "close tfn " ++ v) (append-nil (decimal block))
instr_is (instr.Close close.IndexFn block count) = refl
instr_is (instr.Box is) = ap (λ (t : CodeIndex → List ℕ). codes "box" ++ spaced t is) indices
instr_is (instr.Array dims) = ap (λ v. codes "array " ++ v) (dims_is dims)
instr_is (instr.Room dims) = ap (λ v. codes "room " ++ v) (dims_is dims)
instr_is (instr.Frame dims) = ap (λ v. codes "frame " ++ v) (dims_is dims)
instr_is (instr.Empty shape) = ap (λ v. codes "empty " ++ v) (shape_is InBlock shape)
instr_is (instr.App cs result) =
    ap (λ v. codes "app " ++ v) (append_assoc (bracketed cell_text cs) (codes " ") (cell_text result))
    ∙ ap (λ v. codes "app " ++ (v ++ 32 ∷ cell_text result)) (bracketed_is cell_text cs)
    ∙ ap (λ (t : Word → List ℕ). codes "app (" ++ (listed 41 t cs ++ 32 ∷ t result)) cells
instr_is (instr.TypeApp result) = ap (λ v. codes "tapp " ++ v) (shape_is InBlock result)
instr_is (instr.IndexApp is result) =
    ap (λ v. codes "iapp " ++ v) (append_assoc (bracketed index_text is) (codes " ") (cell_text result))
    ∙ ap (λ v. codes "iapp " ++ (v ++ 32 ∷ cell_text result)) (bracketed_is index_text is)
    ∙ ap (λ (t : CodeIndex → List ℕ). codes "iapp (" ++ (listed 41 t is ++ 32 ∷ cell_text result)) indices
    ∙ ap (λ v. codes "iapp (" ++ (listed 41 index_form is ++ 32 ∷ v)) (shape_is InBlock result)
instr_is (instr.Unbox block count result) =
    ap (λ v. codes "unbox " ++ v) (append_assoc ((decimal block ++ codes " ") ++ decimal count) (codes " ") (cell_text result) ∙ beside (decimal block) (decimal count) (32 ∷ cell_text result))
    ∙ ap (λ v. codes "unbox " ++ (decimal block ++ 32 ∷ (decimal count ++ 32 ∷ v))) (shape_is InBlock result)

block_is : (b : Block) → block_text b ≡ block_form b
block_is b =
    let each : instr_text ≡ instr_form = λ i x. instr_is x i in
    ap (λ v. codes "block " ++ v) (append_assoc (decimal (length b.steps)) (codes "\n") (lines instr_text b.steps))
    ∙ ap (λ (t : Instr → List ℕ). codes "block " ++ (decimal (length b.steps) ++ 10 ∷ flat_map (λ x. t x ++ 10 ∷ []) b.steps)) each

in_a_row : (a b c d e f g : List ℕ) → (((((a ++ b) ++ c) ++ d) ++ e) ++ f) ++ g ≡ a ++ (b ++ (c ++ (d ++ (e ++ (f ++ g)))))
in_a_row a b c d e f g = simp append_assoc

-- The text of a code is what a reader meets.
pub code_is : (c : Code) → code_text c ≡ code_form c
code_is c =
    let params : param_text ≡ param_form = λ i p. param_is p i in
    let blocks : block_text ≡ block_form = λ i b. block_is b i in
    let rest = codes "blocks " ++ (decimal (length c.blocks) ++ 10 ∷ flat_map block_text c.blocks) in
    ap (λ v. codes "remora-code 1\nparams " ++ v) (in_a_row (decimal (length c.params)) (codes "\n") (lines param_text c.params) (codes "blocks ") (decimal (length c.blocks)) (codes "\n") (flat_map block_text c.blocks))
    ∙ ap (λ (t : Param → List ℕ). codes "remora-code 1" ++ 10 ∷ (codes "params " ++ (decimal (length c.params) ++ 10 ∷ (flat_map (λ p. t p ++ 10 ∷ []) c.params ++ rest)))) params
    ∙ ap (λ (t : Block → List ℕ). codes "remora-code 1" ++ 10 ∷ (codes "params " ++ (decimal (length c.params) ++ 10 ∷ (flat_map param_line_form c.params ++ (codes "blocks " ++ (decimal (length c.blocks) ++ 10 ∷ flat_map t c.blocks)))))) blocks
