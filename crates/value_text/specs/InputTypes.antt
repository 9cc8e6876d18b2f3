-- The types that trees of the types of inputs stand for.
use Rattle.std.specs.Prelude.{List, [], map}
use Rattle.core_syntax.specs.Lists.{each}
use Rattle.core_syntax.specs.Syntax.{Ty}
use Rattle.core_syntax.specs.Typed.{atom_type}
use Rattle.machine_table.specs.declared.code.Param.{Param as Tree}
use Rattle.machine_table.specs.declared.code.Elem.{Elem}
use Rattle.machine_table.specs.Codes.{of_elem, param_of}
use Rattle.machine_table.specs.ParamTypes.{type_of}

-- the type of an input
abbrev pub param_type : Tree → Ty
param_type p = type_of (param_of p)

-- the type of an input's atoms, which is that of any array of them
abbrev pub elem_type : Elem → Ty
elem_type e = atom_type (type_of (of_elem e []))

-- the types of inputs
abbrev pub types_of : List Tree → List Ty
types_of ps = each type_of (map param_of ps)
