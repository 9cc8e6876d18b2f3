use Rattle.std.proofs.Common.{arith}
use Rattle.core_syntax.specs.Lists.{each}
use Rattle.core_syntax.specs.Notes.{note_of}
use Rattle.reduction_laws.proofs.programs.NotesRead.{note_there, notes_behind}
use Rattle.typed_start.proofs.starting.next_note.Goals as goal

pub returns-clause-note : goal.returns-clause-note
returns-clause-note c = note_there c.args.notes.now c.args.at.now c.index-notes-at.result (omega arith) c.index-notes-at.is

pub returns-clause-place : goal.returns-clause-place
returns-clause-place c = notes_behind (each note_of c.args.notes.now) c.args.at.now
