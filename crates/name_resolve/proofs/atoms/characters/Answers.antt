use Rattle.std.proofs.Common.{ap, sym, ◌∙◌, Ok}
use Rattle.core_syntax.specs.Refine.{atoms_of}
use Rattle.core_syntax.specs.Syntax.{CharAtom}
use Rattle.name_resolve.proofs.BoxLemmas.{char_step, char_end}
use Rattle.name_resolve.proofs.atoms.characters.Goals as goal

pub loop-byte-preserved : goal.loop-byte-preserved
loop-byte-preserved c =
    char_step c.args.at c.args.bytes.now c.loop-byte.byte-index c.loop-byte.atoms.items c.loop-byte.invariant 0 _ c.push.new.self.items c.loop-byte-test.true (ap (CharAtom c.args.at) c.from.ensures) c.in_ok-push.ensures.items

pub returns : goal.returns
returns c = ap Ok (char_end c.args.at c.args.bytes.now c.loop-byte.byte-index c.loop-byte.atoms.items c.loop-byte.invariant c.loop-byte-test.false ∙ ap atoms_of (sym c.from_vec.ensures))
