use Rattle.std.proofs.Common.{◌≡◌, refl, sym, subst, ◌∙◌, ap, length, List, []}
use Rattle.core_syntax.specs.declared.index.Sort.{Sort}
use Rattle.core_syntax.specs.Lists.{onto, each, Each}
use Rattle.core_syntax.specs.Made.{IndexMade}
use Rattle.core_syntax.specs.Refine.{index_of, ty_of}
use Rattle.core_syntax.specs.Syntax.{IndexApp}
use Rattle.type_check.specs.Contexts.{IsSound}
use Rattle.type_check.specs.Found.{Found}
use Rattle.type_check.specs.Written.{HasRoom, HasScope}
use Rattle.type_check.proofs.exits.RuleLemmas.{room_of, indices_made, ruled_scoped}
use Rattle.type_check.proofs.rules.indices_rule.Goals as goal

pub apply_indices-requires : goal.apply_indices-requires
apply_indices-requires c =
    let s = c.args.checker.now in
    record {
      sound = subst (λ n. IsSound n (onto c.sorts.result.now []) (ty_of c.args.callee.now)) (sym c.types.ensures)
          (subst (λ (ss : List Sort). IsSound s.types (onto ss []) (ty_of c.args.callee.now)) (sym c.sorts.ensures) c.requires.sound);
      room = subst (λ n. HasRoom n c.sorts.result.now) (sym c.types.ensures) (subst (HasRoom s.types) (sym c.sorts.ensures) (room_of s c.requires.steady));
      made = subst (λ (ss : List Sort). Each (IndexMade (length ss)) (each index_of c.args.indices.now)) (sym c.sorts.ensures) (indices_made s (each index_of c.args.indices.now) c.requires.made);
    }

pub returns : goal.returns
returns c = λ before e at f.
    ruled_scoped before c.args.checker.now c.args.checker.now (IndexApp c.args.at e (each index_of c.args.indices.now)) (λ Γ. Found Γ e (ty_of c.args.callee.now)) f refl c.apply_indices.result
    (λ Γ ns scope p. c.apply_indices.ensures Γ e ns (record { types_are = scope.types_are ∙ sym c.types.ensures; sorts_are = scope.sorts_are ∙ ap (λ (ss : List Sort). onto ss []) (sym c.sorts.ensures) }) at p)
