-- A checker's notes, read in order: those of a node before those of its parts, from a place on.
use Rattle.std.proofs.Common.{◌≡◌, refl, ap, ℕ, zero, suc, ◌+◌, ◌∙◌, ◌<◌, arith, List, [], ◌∷◌, ◌++◌, append_assoc, length, drop, get_or}
use Rattle.core_syntax.specs.declared.note.Note.{Note}
use Rattle.core_syntax.specs.Annotate.{first_note, later_notes}
use Rattle.core_syntax.specs.Notes.{NodeNote, note_of, Behind, Empty}
use Rattle.reduction_laws.specs.Readings.{notes_from}

-- ---- notes read in order

-- the note of a node is read first, and those of its parts are left
pub opened : (n : NodeNote) (P : List NodeNote → Type 0) (ms ns rest : List NodeNote) → Behind n P ms → ns ≡ ms ++ rest
    → (ls : List NodeNote) × P ls × (first_note ns ≡ n) × (later_notes ns ≡ ls ++ rest)
opened n P [] ns rest b e = absurd b
opened n P (m ∷ ms) ns rest b e = (ms, b.1, ap first_note e ∙ b.0, ap later_notes e)

-- no notes are read
pub unread : (ms ns rest : List NodeNote) → Empty ms → ns ≡ ms ++ rest → ns ≡ rest
unread ms ns rest j e = e ∙ ap (λ l. l ++ rest) j

-- one note is read, and no part has any
pub leaf : (n : NodeNote) (ms ns rest : List NodeNote) → Behind n Empty ms → ns ≡ ms ++ rest → later_notes ns ≡ rest
leaf n ms ns rest b e = let o = opened n Empty ms ns rest b e in unread o.0 (later_notes ns) rest o.1 o.3

-- the notes of one part stand before those of the next
pub split : (ns ls ms ks rest : List NodeNote) → ns ≡ ls ++ rest → ls ≡ ms ++ ks → ns ≡ ms ++ (ks ++ rest)
split ns ls ms ks rest e f = e ∙ ap (λ l. l ++ rest) f ∙ append_assoc ms ks rest

-- ---- places in the notes

-- the notes at a place, and those behind it
pub note_there : (ns : List Note) (k : ℕ) (n : Note) → k < length ns → n ≡ get_or ns k n → note_of n ≡ first_note (notes_from k ns)
note_there [] k n lt e = absurd (omega arith)
note_there (m ∷ ns) zero n lt e = ap note_of e
note_there (m ∷ ns) (suc k) n lt e = note_there ns k n (omega arith) e

no_more : (k : ℕ) → ◌≡◌ {A = List NodeNote} (drop k []) []
no_more zero = refl
no_more (suc k) = refl

pub notes_behind : (ns : List NodeNote) (k : ℕ) → drop (k + 1) ns ≡ later_notes (drop k ns)
notes_behind [] zero = refl
notes_behind [] (suc k) = no_more (suc k + 1)
notes_behind (n ∷ ns) zero = refl
notes_behind (n ∷ ns) (suc k) = let e : suc k + 1 ≡ suc (k + 1) = omega arith in ap (λ (j : ℕ). drop j (n ∷ ns)) e ∙ notes_behind ns k
