use Rattle.std.proofs.Common.{◌≡◌, ◌∙◌, sym, refl, [], ◌∷◌, false, None}
use Rattle.core_syntax.specs.Arrays.{single}
use Rattle.array_values.specs.Lent.{value_of}
use Rattle.machine_table.specs.Begins.{prim_entry}
use Rattle.machine_table.specs.ValueRules.{value_rules}
use Rattle.prim_kernels.specs.Deltas.{has_variables}
use Rattle.prim_kernels.proofs.Looks.{table_entry, wrong_entry}
use Rattle.prim_kernels.proofs.ScalarTests.{one_comes}
use Rattle.prim_kernels.proofs.scalars.apply_one.Goals as goal

pub returns-in-Some-clause-some : goal.returns-in-Some-clause-some
returns-in-Some-clause-some c =
    let xs = single (value_of c.args.x) ∷ [] in
    wrong_entry c.args.p.now.op c.args.p.now.typed c.args.p.now.indices xs c.in-Some.kind (c.in-Some.ensures.some xs refl)

pub returns-in-None-clause-some : goal.returns-in-None-clause-some
returns-in-None-clause-some c =
    let q = c.args.p.now.op in
    let xs = single (value_of c.args.x) ∷ [] in
    let n = c.in-None.ensures.none in
    let plain : has_variables q ≡ false = sym c.has_variables.ensures ∙ c.if-has_variables.false in
    c.on_one.ensures [] ∙ sym (one_comes q plain n.0 (value_of c.args.x)) ∙ table_entry q false None xs ∙ (λ i. prim_entry value_rules q (sym n.1 i) (sym n.2 i) xs)
