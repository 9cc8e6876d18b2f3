use Rattle.std.proofs.Common.{◌≡◌, subst, IfOk}
use Rattle.core_syntax.specs.RefineTerms.{term_of}
use Rattle.core_syntax.specs.TermPut.{term_put}
use Rattle.core_syntax.specs.Typed.{typed_rules}
use Rattle.type_substitution.specs.Putting.{terms_at}
use Rattle.type_substitution.proofs.Fates.{put_indices_only}
use Rattle.substitution.proofs.putting.with_box.Goals as goal

pub returns : goal.returns
returns c = subst (λ w. IfOk c.put.result (λ t. term_of t ≡ w)) (λ i. term_put typed_rules (put_indices_only c.args.values.now i) (terms_at 0 (c.from_ref.ensures.value i)) (term_of c.args.body.now)) c.put.ensures
