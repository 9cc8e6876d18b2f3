use Rattle.std.proofs.lemmas.Result.{IfOk-weaker}
use Rattle.type_substitution.specs.Putting.{indices_at}
use Rattle.type_substitution.proofs.Made.{each_index_put}
use Rattle.type_substitution.proofs.types_put.put_each_index.Goals as goal

pub returns : goal.returns
returns c = IfOk-weaker c.put_indices.result _ _ (λ p e. each_index_put (indices_at c.args.under c.args.with.now) c.args.indices.now p e) c.put_indices.ensures
