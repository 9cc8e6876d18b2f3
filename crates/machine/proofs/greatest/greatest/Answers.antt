use Rattle.std.proofs.Common.{ap, sym, ◌∙◌}
use Rattle.core_syntax.specs.Arrays as arrays
use Rattle.core_syntax.specs.Lists.{each}
use Rattle.machine.specs.Works.{frame_of}
use Rattle.machine.proofs.Longest.{greatest_found, other_first, other_later}
use Rattle.machine.proofs.greatest.greatest.Goals as goal

pub returns-then-not-is_prefix-clause-none : goal.returns-then-not-is_prefix-clause-none
returns-then-not-is_prefix-clause-none c =
    other_first (frame_of c.args.function.now) c.longest-frame.result.now (each frame_of c.args.arguments.now) c.longest-frame.ensures.longest
    (ap (λ f. arrays.is_prefix f c.longest-frame.result.now) (sym c.frame_dims.ensures.frame) ∙ sym c.is_prefix.ensures ∙ c.if-not-is_prefix.true)

pub returns-then-not-all_prefixes-clause-none : goal.returns-then-not-all_prefixes-clause-none
returns-then-not-all_prefixes-clause-none c =
    other_later (frame_of c.args.function.now) c.longest-frame.result.now (each frame_of c.args.arguments.now) c.longest-frame.ensures.longest
    (ap (λ f. arrays.is_prefix f c.longest-frame.result.now) (sym c.frame_dims.ensures.frame) ∙ sym c.is_prefix.ensures ∙ c.if-not-is_prefix.false)
    (sym c.all_prefixes.ensures ∙ c.if-not-all_prefixes.true)

pub returns-clause-some : goal.returns-clause-some
returns-clause-some c =
    greatest_found (frame_of c.args.function.now) c.longest-frame.result.now (each frame_of c.args.arguments.now) c.longest-frame.ensures.longest
    (ap (λ f. arrays.is_prefix f c.longest-frame.result.now) (sym c.frame_dims.ensures.frame) ∙ sym c.is_prefix.ensures ∙ c.if-not-is_prefix.false)
    (sym c.all_prefixes.ensures ∙ c.if-not-all_prefixes.false)
