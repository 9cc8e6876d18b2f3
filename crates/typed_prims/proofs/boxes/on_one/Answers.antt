use Rattle.std.proofs.Common.{◌≡◌, List, [], ◌∷◌, sym, subst, IfOk}
use Rattle.core_syntax.specs.Delta.{iota}
use Rattle.core_syntax.specs.Refine.{ty_of}
use Rattle.core_syntax.specs.RefineTerms.{term_of}
use Rattle.core_syntax.specs.Rules.{atom_rules, atoms_of}
use Rattle.core_syntax.specs.Terms.{IndexValue}
use Rattle.core_syntax.specs.Typed.{typed_rules}
use Rattle.typed_prims.specs.Answers.{answer_on}
use Rattle.typed_prims.specs.ArrayAnswers.{answer_is}
use Rattle.typed_prims.proofs.BoxRows.{wanted_all}
use Rattle.typed_prims.proofs.boxes.on_one.Goals as goal

pub returns-in-Iota : goal.returns-in-Iota
returns-in-Iota c =
    let r = ty_of c.args.cell.now in
    subst (λ q. (is : List IndexValue) → IfOk c.iota.result (λ x. answer_is x ≡ answer_on r q is (c.args.a.now ∷ []))) (sym c.in-Iota.is)
    (λ is. subst (λ ns. IfOk c.iota.result (λ x. answer_is x ≡ iota (atom_rules typed_rules r) ns)) (wanted_all r (atoms_of typed_rules (term_of c.args.a.now))) c.iota.ensures)

pub returns-in-Ravel : goal.returns-in-Ravel
returns-in-Ravel c =
    let r = ty_of c.args.cell.now in
    subst (λ q. (is : List IndexValue) → IfOk c.ravel.result (λ x. answer_is x ≡ answer_on r q is (c.args.a.now ∷ []))) (sym c.in-Ravel.is) (λ is. c.ravel.ensures)
