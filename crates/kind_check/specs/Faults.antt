-- The kind of a type, and what a refusal says of it.
use Rattle.std.specs.Prelude.{Bool, true, false, List, Option, None, Some}
use Rattle.core_syntax.specs.declared.index.Sort.{Sort}
use Rattle.core_syntax.specs.declared.index.Sort.TheVariants as sort
use Rattle.core_syntax.specs.declared.ty.Kind.{Kind}
use Rattle.core_syntax.specs.declared.ty.Kind.TheVariants as kind
use Rattle.core_syntax.specs.Syntax.{Index, Ty, ty_at, index_at}
use Rattle.core_syntax.specs.Sorts.{Refusal, own_sort, is_sort, first_of_two, refuse_unless}
use Rattle.core_syntax.specs.Kinds.{is_atom_kind}
use Rattle.kind_check.specs.declared.kinds.Fault.{Fault}
use Rattle.kind_check.specs.declared.kinds.KindRefusal.{KindRefusal}
use Rattle.kind_check.specs.declared.kinds.KindRefusal.TheVariants.{Refused, Memory}

-- the kind by whether it is that of an atom
abbrev pub kind_in : Bool → Kind
kind_in true = kind.Atom
kind_in false = kind.Array

-- the own tests of an array type: its atoms' type has kind Atom (15), and its shape sort Shape (14)
abbrev pub own_fault : List Sort → Ty → Index → Option Refusal
own_fault sorts t i =
    first_of_two (refuse_unless (is_atom_kind t) 15 (ty_at t)) (refuse_unless (is_sort sort.Shape (own_sort sorts i)) 14 (index_at i))

-- the refusal of a fault
abbrev pub fault_of : Option Fault → Option Refusal
fault_of None = None
fault_of (Some f) = Some (f.number, f.span)

-- the number and the place of a refusal
abbrev pub refusal_at : KindRefusal → Option Refusal
refusal_at (Refused number span) = Some (number, span)
refusal_at Memory = None
