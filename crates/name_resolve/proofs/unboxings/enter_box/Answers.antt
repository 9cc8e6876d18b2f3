use Rattle.std.proofs.Common.{sym, ap, subst, ◌∙◌, arith, length}
use Rattle.name_resolve.specs.declared.words.NameSpace.TheVariants.{Indices}
use Rattle.name_resolve.specs.Held.{held_names}
use Rattle.name_resolve.specs.Scopes.{HasRoom}
use Rattle.name_resolve.proofs.BinderLemmas.{length_names}
use Rattle.name_resolve.proofs.RoomLemmas.{room_under}
use Rattle.name_resolve.proofs.unboxings.enter_box.Goals as goal

pub enter-requires-2 : goal.enter-requires-2
enter-requires-2 c =
    subst (λ Γ. HasRoom Γ 1) (sym c.in_ok-enter.ensures.entered)
    (room_under Indices (held_names c.as_slice.result.now) c.args.scopes.now (length c.args.unboxing.now.bound.items) _ 1 c.requires
    (length_names c.as_slice.result.now ∙ ap length c.as_slice.ensures.value) (omega arith))
