use Rattle.std.proofs.Common.{◌≡◌, inr, arith, sym, subst, rules}
use Rattle.core_syntax.specs.Refine.{index_of}
use Rattle.core_syntax.specs.Linear.{IsAscending}
use Rattle.core_syntax.specs.Norm.{norm_dim}
use Rattle.core_syntax.proofs.LinearLemmas.{same_parts}
use Rattle.core_syntax.proofs.NormLemmas.{IsNormal-norm}
use Rattle.index_dims.proofs.RefusalLemmas.{dim_refusal-wide, dim_refusal-fits}
use Rattle.index_dims.proofs.norm.linear.Goals as goal

pub returns-then-size-gt-LARGEST_SIZE-clause-refused : goal.returns-then-size-gt-LARGEST_SIZE-clause-refused
returns-then-size-gt-LARGEST_SIZE-clause-refused c = inr (dim_refusal-wide (norm_dim (index_of c.args.i.now)) (omega arith) (omega arith))

pub invariant_of-result : goal.invariant_of-result
invariant_of-result c =
    let e : c.from_vec.result ≡ (norm_dim (index_of c.args.i.now)).coefs = search rules in
    subst (IsAscending 0) (sym e) (IsNormal-norm (index_of c.args.i.now))

pub returns-clause-ok : goal.returns-clause-ok
returns-clause-ok c =
    let e : c.from_vec.result ≡ (norm_dim (index_of c.args.i.now)).coefs = search rules in
    let k : c.constant-constant.result ≡ (norm_dim (index_of c.args.i.now)).constant = omega arith in
    same_parts _ (norm_dim (index_of c.args.i.now)) k e

pub returns-clause-fits : goal.returns-clause-fits
returns-clause-fits c = dim_refusal-fits (norm_dim (index_of c.args.i.now)) (omega arith) (omega arith)
