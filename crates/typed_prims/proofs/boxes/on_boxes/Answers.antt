use Rattle.std.proofs.Common.{◌≡◌, [], ◌∷◌, sym, subst, IfOk}
use Rattle.core_syntax.specs.Delta.{reshaped}
use Rattle.core_syntax.specs.Refine.{ty_of}
use Rattle.core_syntax.specs.RefineTerms.{term_of}
use Rattle.core_syntax.specs.Rules.{atom_rules, atoms_of}
use Rattle.core_syntax.specs.Typed.{typed_rules}
use Rattle.prim_kernels.proofs.Items.{one_item, two_items, three_items}
use Rattle.typed_prims.specs.Answers.{answer_on, array_of}
use Rattle.typed_prims.specs.ArrayAnswers.{answer_is}
use Rattle.typed_prims.proofs.BoxRows.{wanted_all}
use Rattle.typed_prims.proofs.boxes.on_boxes.Goals as goal

pub returns-in-len1 : goal.returns-in-len1
returns-in-len1 c = λ is.
    let r = ty_of c.args.cell.now in
    subst (λ ts. IfOk c.on_one.result (λ x. answer_is x ≡ answer_on r c.args.primitive is ts)) (one_item c.args.args.now c.a-item.result c.in-len1.len_at_least c.in-len1.len_below c.a-item.is) (c.on_one.ensures is)

pub returns-in-Filter : goal.returns-in-Filter
returns-in-Filter c = λ is.
    let r = ty_of c.args.cell.now in
    let mask = c.mask-item.result in
    let a = c.a-item-then-args-lt3.result in
    subst (λ ts. IfOk c.filter.result (λ x. answer_is x ≡ answer_on r c.args.primitive is ts))
    (two_items c.args.args.now mask a c.in-len2.len_at_least c.in-len2.len_below c.mask-item.is c.a-item-then-args-lt3.is)
    (subst (λ q. IfOk c.filter.result (λ x. answer_is x ≡ answer_on r q is (mask ∷ a ∷ []))) (sym c.in-Filter.is) c.filter.ensures)

pub returns-in-Reshape : goal.returns-in-Reshape
returns-in-Reshape c = λ is.
    let r = ty_of c.args.cell.now in
    let q = c.dims-item.result in
    let a = c.a-item-then-args-lt4.result in
    let fill = c.fill-item.result in
    subst (λ ts. IfOk c.reshape.result (λ x. answer_is x ≡ answer_on r c.args.primitive is ts))
    (three_items c.args.args.now q a fill c.in-len3.len_at_least c.in-len3.len_below c.dims-item.is c.a-item-then-args-lt4.is c.fill-item.is)
    (subst (λ p. IfOk c.reshape.result (λ x. answer_is x ≡ answer_on r p is (q ∷ a ∷ fill ∷ []))) (sym c.in-Reshape.is)
    (subst (λ ns. IfOk c.reshape.result (λ x. answer_is x ≡ reshaped (atom_rules typed_rules r) ns (array_of a).atoms (array_of fill).atoms)) (wanted_all r (atoms_of typed_rules (term_of q))) c.reshape.ensures))
