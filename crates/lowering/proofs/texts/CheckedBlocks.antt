-- The code of each checked program has a text, where the program's literals are those of a text.
use Rattle.std.proofs.Common.{◌≡◌, refl, sym, ◌∙◌, ℕ, suc, arith, List, [], ◌∷◌, ◌++◌, length, append-nil}
use Rattle.core_syntax.specs.Syntax.{Ty, Def, Program}
use Rattle.core_syntax.specs.Lists.{each, Each}
use Rattle.core_syntax.specs.Literals.{LiteralsFit}
use Rattle.core_syntax.specs.Made.{behind_defs, terms_more, DefsMade, IsWellMade}
use Rattle.core_syntax.specs.Typing.{defs_only, body_context}
use Rattle.core_syntax.specs.Blame.{defs_premises}
use Rattle.core_syntax.specs.Checks.{IsChecked}
use Rattle.core_syntax.specs.Notes.{NodeNote, DefsNotesAre}
use Rattle.core_syntax.specs.Annotate.{annotated, annotated_defs}
use Rattle.erasure.specs.Erasure.{er}
use Rattle.erasure.specs.Programs.{erased_program}
use Rattle.lowering.specs.Laws.{CodeHasText}
use Rattle.lowering.proofs.texts.Writable.{IsNoted, IsProgramNoted, IsProgramWritable}
use Rattle.reduction_laws.proofs.programs.NotesRead.{unread, split}
use Rattle.lowering.proofs.texts.NotedForms.{expr_noted}
use Rattle.lowering.proofs.texts.Checked.{program_writable}
use Rattle.lowering.proofs.texts.Blocks.{blocks_written}
use Rattle.lowering.proofs.texts.InputParams.{checked_params}

-- definitions in order
defs_noted : (n : ℕ) (earlier : List Ty) (ds : List Def) → DefsMade n ds → (defs_premises earlier ds).met → (ms : List NodeNote) → DefsNotesAre earlier ds ms
    → (ns rest : List NodeNote) → ns ≡ ms ++ rest → Each IsNoted (each (er []) (annotated_defs ds ns).0) × ((annotated_defs ds ns).1 ≡ rest)
defs_noted n earlier [] m h ms j ns rest e = (tt, unread ms ns rest j e)
defs_noted n earlier (d ∷ ds) m h ms j ns rest e =
    let r = expr_noted (behind_defs n) (defs_only earlier) (refl, omega arith) d.value m.1 h.0.1.1.0 j.0 j.3 ns (j.1 ++ rest) (split ns ms j.0 j.1 rest e j.2) in
    let q = defs_noted (suc n) (earlier ++ d.ty ∷ []) ds m.2 h.1 j.1 j.4 (annotated d.value ns).1 rest r.1 in
    ((r.0, q.0), q.1)

-- a checked program's notes are what a code may hold
pub program_noted : (P : Program) (result : Ty) (inputs : List Ty) (notes : List NodeNote) → IsWellMade P → IsChecked P result inputs notes → IsProgramNoted (erased_program P notes)
program_noted P result inputs notes made c =
    let j = c.notes_are in
    let defs = defs_noted 0 [] P.defs made.defs c.accepted.0 j.0 j.3 notes j.1 j.2 in
    let body = expr_noted (terms_more (length P.inputs) (behind_defs (length P.defs))) (body_context P) (refl, omega arith) P.body made.body c.accepted.1.1.0 j.1 j.4 (annotated_defs P.defs notes).1 [] (defs.1 ∙ sym (append-nil j.1)) in
    (defs.0, body.0)

-- its erasure is writable, and so its code has a text
pub checked_writable : (P : Program) (result : Ty) (inputs : List Ty) (notes : List NodeNote) → IsWellMade P → IsChecked P result inputs notes → LiteralsFit P → IsProgramWritable (erased_program P notes)
checked_writable P result inputs notes made c literals = program_writable P notes made literals (program_noted P result inputs notes made c)

pub code_has_text : CodeHasText
code_has_text P result inputs notes made c literals =
    record { params = checked_params P result inputs notes made c; blocks = blocks_written (erased_program P notes) (checked_writable P result inputs notes made c literals) }
