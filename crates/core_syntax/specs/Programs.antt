-- The definition and the program of a tree.
use Rattle.std.specs.Prelude.{List}
use Rattle.core_syntax.specs.declared.def.Def.{Def}
use Rattle.core_syntax.specs.declared.ty.Ty.{Ty}
use Rattle.core_syntax.specs.declared.expr.Expr.{Expr}
use Rattle.core_syntax.specs.Lists.{each}
use Rattle.core_syntax.specs.Refine.{ty_of, expr_of}
use Rattle.core_syntax.specs.Syntax as syntax

abbrev pub def_of : Def → syntax.Def
def_of d = record { at = d.at; ty = ty_of d.ty; value = expr_of d.value }

-- the program of these definitions, inputs and body
abbrev pub program_with : List Def → List Ty → Expr → syntax.Program
program_with defs inputs body = record { defs = each def_of defs; inputs = each ty_of inputs; body = expr_of body }
