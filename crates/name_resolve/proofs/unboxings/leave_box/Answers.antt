use Rattle.std.proofs.Common.{rules, ◌≡◌, refl, sym, ◌∙◌, [], ◌∷◌, length}
use Rattle.name_resolve.specs.declared.words.NameSpace.TheVariants.{Indices}
use Rattle.name_resolve.specs.Held.{held_names}
use Rattle.name_resolve.specs.Scopes.{under}
use Rattle.name_resolve.proofs.BinderLemmas.{length_names}
use Rattle.name_resolve.proofs.unboxings.leave_box.Goals as goal

pub returns : goal.returns
returns c = λ before e.
    let n : c.len.result ≡ length c.args.unboxing.now.bound.items = search rules in
    c.leave-2.ensures (held_names c.args.unboxing.now.bound.items) before
    (c.leave.ensures (c.args.unboxing.now.term.name.now ∷ []) (under Indices (held_names c.args.unboxing.now.bound.items) before) e refl)
    (length_names c.args.unboxing.now.bound.items ∙ sym n)
