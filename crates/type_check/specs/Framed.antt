-- The type of a result: a frame before cells of a type.
use Rattle.std.specs.Prelude.{◌≡◌, Result}
use Rattle.core_syntax.specs.declared.span.Span.{Span}
use Rattle.core_syntax.specs.Syntax.{Index, Ty, Arr}
use Rattle.core_syntax.specs.Value.{then_shape}
use Rattle.core_syntax.specs.NormTypes.{norm_ty, measure_ty}
use Rattle.core_syntax.specs.Notes.{NodeNote, note_of, cell_note}
use Rattle.core_syntax.specs.Prims.{array_of}
use Rattle.core_syntax.specs.Refine.{ty_of}
use Rattle.core_syntax.specs.Blame.{measure}
use Rattle.type_check.specs.declared.concluded.Concluded.{Concluded}
use Rattle.type_check.specs.declared.refusal.TypeRefusal.{TypeRefusal}
use Rattle.type_check.specs.Written.{Tells}

-- the cells' type with the frame before its shape
abbrev pub framed : Index → Ty → Ty
framed p (Arr at t c) = array_of t (then_shape p c)
framed p t = t

-- an answer has this note, and the normal type of t
abbrev pub Answers : Ty → NodeNote → Concluded → Type 0
Answers t note c = (note_of c.note ≡ note) × (ty_of c.ty ≡ norm_ty t)

-- what an answer says of a result with a frame and cells of the normal type r, measured at a place
abbrev pub Frames : Span → Index → Ty → Result Concluded TypeRefusal → Type 0
Frames at p r = Tells (measure (measure_ty (framed p r)) at) (Answers (framed p r) (cell_note r))
