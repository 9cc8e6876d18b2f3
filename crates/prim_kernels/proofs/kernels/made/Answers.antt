use Rattle.std.proofs.Common.{◌≡◌, subst, IfOk}
use Rattle.core_syntax.specs.Delta.{delta}
use Rattle.core_syntax.specs.Lists.{each}
use Rattle.array_values.specs.Envs.{index_data}
use Rattle.prim_kernels.specs.Kernels.{machine_atoms, made_answer}
use Rattle.prim_kernels.proofs.Items.{one_item, two_items, three_items}
use Rattle.prim_kernels.proofs.ArrayNumbers.{others_unfit}
use Rattle.prim_kernels.proofs.kernels.made.Goals as goal

pub returns-in-len1 : goal.returns-in-len1
returns-in-len1 c =
    let is = each index_data c.args.indices.now in
    subst (λ ts. IfOk c.on_array.result (λ x. made_answer x ≡ delta machine_atoms c.args.op is ts)) (one_item c.args.args.now c.a-item.result c.in-len1.len_at_least c.in-len1.len_below c.a-item.is) c.on_array.ensures

pub returns-in-len2 : goal.returns-in-len2
returns-in-len2 c =
    let is = each index_data c.args.indices.now in
    subst (λ ts. IfOk c.on_arrays.result (λ x. made_answer x ≡ delta machine_atoms c.args.op is ts))
    (two_items c.args.args.now c.a-item-then-args-lt3.result c.b-item.result c.in-len2.len_at_least c.in-len2.len_below c.a-item-then-args-lt3.is c.b-item.is) (c.on_arrays.ensures is)

pub returns-in-len3 : goal.returns-in-len3
returns-in-len3 c =
    let is = each index_data c.args.indices.now in
    subst (λ ts. IfOk c.on_three.result (λ x. made_answer x ≡ delta machine_atoms c.args.op is ts))
    (three_items c.args.args.now c.a-item-then-args-lt4.result c.b-item-then-args-lt4.result c.c-item.result c.in-len3.len_at_least c.in-len3.len_below c.a-item-then-args-lt4.is c.b-item-then-args-lt4.is c.c-item.is)
    (c.on_three.ensures is)

pub returns-in_default : goal.returns-in_default
returns-in_default c = others_unfit machine_atoms c.args.op c.requires (each index_data c.args.indices.now) c.args.args.now c.in_default.len_at_least
