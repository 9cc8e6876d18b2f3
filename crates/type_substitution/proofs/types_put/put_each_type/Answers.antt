use Rattle.std.proofs.lemmas.Result.{IfOk-weaker}
use Rattle.type_substitution.specs.Putting.{indices_at, types_at}
use Rattle.type_substitution.proofs.Made.{each_ty_put}
use Rattle.type_substitution.proofs.types_put.put_each_type.Goals as goal

pub returns : goal.returns
returns c =
    IfOk-weaker c.put_trees.result _ _
    (λ p e. each_ty_put (indices_at c.args.under.indices c.args.puts.indices.now) (types_at c.args.under.types c.args.under.indices c.args.puts.types.now) c.args.list.now p e)
    c.put_trees.ensures
