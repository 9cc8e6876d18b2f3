use Rattle.std.proofs.Common.{rules, refl, Some, codes, arith}
use Rattle.core_syntax.specs.declared.primitive.Primitive.TheVariants as prim
use Rattle.prim_table.proofs.NameLemmas.{is_named}
use Rattle.prim_table.proofs.names.prim.Goals as goal

pub returns-in-99 : goal.returns-in-99
returns-in-99 c = is_named c.args.name.now (codes "char=") (Some prim.CharEqual) refl (omega arith) (search rules)

pub returns-in-99-2 : goal.returns-in-99-2
returns-in-99-2 c = is_named c.args.name.now (codes "char<") (Some prim.CharLess) refl (omega arith) (search rules)

pub returns-in-ravel : goal.returns-in-ravel
returns-in-ravel c = is_named c.args.name.now (codes "ravel") (Some prim.Ravel) refl (omega arith) (search rules)

pub returns-in-select : goal.returns-in-select
returns-in-select c = is_named c.args.name.now (codes "select") (Some prim.Select) refl (omega arith) (search rules)

pub returns-in-append : goal.returns-in-append
returns-in-append c = is_named c.args.name.now (codes "append") (Some prim.Append) refl (omega arith) (search rules)

pub returns-in-length : goal.returns-in-length
returns-in-length c = is_named c.args.name.now (codes "length") (Some prim.Length) refl (omega arith) (search rules)

pub returns-in-reduce : goal.returns-in-reduce
returns-in-reduce c = is_named c.args.name.now (codes "reduce") (Some prim.Reduce) refl (omega arith) (search rules)

pub returns-in-filter : goal.returns-in-filter
returns-in-filter c = is_named c.args.name.now (codes "filter") (Some prim.Filter) refl (omega arith) (search rules)

pub returns-in-reverse : goal.returns-in-reverse
returns-in-reverse c = is_named c.args.name.now (codes "reverse") (Some prim.Reverse) refl (omega arith) (search rules)

pub returns-in-reshape : goal.returns-in-reshape
returns-in-reshape c = is_named c.args.name.now (codes "reshape") (Some prim.Reshape) refl (omega arith) (search rules)

pub returns-in-105 : goal.returns-in-105
returns-in-105 c = is_named c.args.name.now (codes "index-or") (Some prim.IndexOr) refl (omega arith) (search rules)

pub returns-in-99-3 : goal.returns-in-99-3
returns-in-99-3 c = is_named c.args.name.now (codes "char->int") (Some prim.CharToInt) refl (omega arith) (search rules)

pub returns-in-98 : goal.returns-in-98
returns-in-98 c = is_named c.args.name.now (codes "bool->int") (Some prim.BoolToInt) refl (omega arith) (search rules)

pub returns-in-transpose : goal.returns-in-transpose
returns-in-transpose c = is_named c.args.name.now (codes "transpose") (Some prim.Transpose) refl (omega arith) (search rules)

pub returns-in-replicate : goal.returns-in-replicate
returns-in-replicate c = is_named c.args.name.now (codes "replicate") (Some prim.Replicate) refl (omega arith) (search rules)

pub returns-in-positions : goal.returns-in-positions
returns-in-positions c = is_named c.args.name.now (codes "positions") (Some prim.Positions) refl (omega arith) (search rules)
