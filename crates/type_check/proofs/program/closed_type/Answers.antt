use Rattle.std.proofs.Common.{refl, sym, ap, subst, length, []}
use Rattle.core_syntax.specs.Lists.{onto}
use Rattle.core_syntax.specs.Refine.{ty_of}
use Rattle.core_syntax.specs.Typing.{defs_only}
use Rattle.type_check.specs.Written.{IsWritten}
use Rattle.type_check.proofs.program.closed_type.Goals as goal

pub written-requires : goal.written-requires
written-requires c = subst (λ ss. IsWritten 0 (length ss) (ty_of c.args.ty.now)) (sym c.new-sorts.ensures.items) c.requires

pub returns : goal.returns
returns c defs = c.written.ensures.written (defs_only defs) (record { types_are = refl; sorts_are = sym (ap (λ ss. onto ss []) c.new-sorts.ensures.items) })
