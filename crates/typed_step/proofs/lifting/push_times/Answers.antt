use Rattle.std.proofs.Common.{◌≡◌, refl, ap, ◌∙◌, ◌++◌, append_assoc, replicate, arith}
use Rattle.core_syntax.specs.Lists.{joined}
use Rattle.prim_kernels.proofs.ArrayCuts.{repeated_more}
use Rattle.typed_step.proofs.lifting.push_times.Goals as goal

pub loop-preserved : goal.loop-preserved
loop-preserved c =
    let before = c.args.copies.now.items in
    let xs = c.args.atoms.now in
    let times = joined (replicate c.loop.counter xs) in
    c.in_ok-push_copies.ensures ∙ ap (λ l. l ++ xs) c.loop.invariant ∙ append_assoc before times xs ∙ ap (λ l. before ++ l) (repeated_more c.loop.counter xs times refl)

pub returns : goal.returns
returns c =
    let all : c.loop.counter ≡ c.args.times = omega arith in
    c.loop.invariant ∙ ap (λ n. c.args.copies.now.items ++ joined (replicate n c.args.atoms.now)) all
