use Rattle.std.proofs.Common.{◌≡◌, ◌∙◌, refl, [], ◌∷◌, ◌++◌, rules}
use Rattle.core_syntax.specs.Syntax.{no_span}
use Rattle.core_syntax.specs.declared.index.Index.{Index as Tree}
use Rattle.core_syntax.specs.declared.index.IndexForm.TheVariants.{Num}
use Rattle.type_equal.proofs.PartsLemmas.{dim_none, dim_one}
use Rattle.type_equal.proofs.tree.dim_of.Goals as goal

pub returns-then-constant-eq0 : goal.returns-then-constant-eq0
returns-then-constant-eq0 c = c.sum.ensures ∙ dim_none _ _ c.args.coefs.now c.args.constant c.in_ok-push_coefs.ensures c.new-parts.ensures.items c.if-constant-eq0.true

pub returns : goal.returns
returns c =
    let p : Tree = record { at = no_span; form = Num c.args.constant } in
    let e : c.push.new.self.items ≡ c.push_coefs.new.parts.items ++ p ∷ [] = search rules in
    c.sum-2.ensures ∙ dim_one _ _ _ p c.args.coefs.now c.args.constant e refl c.in_ok-push_coefs.ensures c.new-parts.ensures.items c.if-constant-eq0.false
