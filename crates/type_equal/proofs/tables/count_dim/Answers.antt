use Rattle.std.proofs.Common.{◌∙◌, ap, ◌-◌, ◌^◌, min}
use Rattle.core_syntax.specs.Linear.{coefs_total}
use Rattle.core_syntax.specs.Norm.{dim_tree}
use Rattle.type_equal.specs.Counted.{count_of, clipped}
use Rattle.type_equal.proofs.LoneLemmas.{dim_counted}
use Rattle.type_equal.proofs.tables.count_dim.Goals as goal

pub returns : goal.returns
returns c =
    dim_counted (record { constant = c.d.inside.constant; coefs = c.d.inside.coefs }) c.times-variables.result c.lone_dim.result c.d.invariant
    (c.times-variables.ensures ∙ ap (λ l. min (coefs_total l) (2 ^ 64 - 1)) c.as_slice.ensures) c.lone_dim.ensures
    ∙ ap (λ d. clipped (count_of (dim_tree d))) c.d.view_is
