-- Notes as they are read along a program.
use Rattle.std.specs.Prelude.{ℕ, List, drop, Option, Some, None}
use Rattle.core_syntax.specs.declared.note.Note.{Note}
use Rattle.core_syntax.specs.Lists.{each}
use Rattle.core_syntax.specs.Notes.{NodeNote, no_note, note_of}

-- the notes from a place on
abbrev pub notes_from : ℕ → List Note → List NodeNote
notes_from at ns = drop at (each note_of ns)

-- the notes of a node, none where the list has ended
abbrev pub note_read : Option Note → NodeNote
note_read None = no_note
note_read (Some n) = note_of n
