use Rattle.std.proofs.Common.{sym, subst}
use Rattle.core_syntax.specs.Made.{IndexMade}
use Rattle.core_syntax.specs.Refine.{index_of}
use Rattle.type_equal.proofs.MoveLemmas.{index_moves_inside}
use Rattle.type_equal.proofs.putting.norm_index_under.Goals as goal

pub moved_index-requires : goal.moved_index-requires
moved_index-requires c =
    index_moves_inside c.args.under c.requires.few (index_of c.in_ok-tree.tree) (subst (IndexMade 3221225472) (sym c.in_ok-tree.ensures) c.requires.small)
