use Rattle.std.proofs.Common.{◌≡◌, ap, subst, arith, Ok}
use Rattle.core_syntax.specs.Refine.{ty_of, tys_of}
use Rattle.sexp_reader.specs.Forms.{form_of, forms_of, forms_size}
use Rattle.name_resolve.proofs.RoomLemmas.{listed_size}
use Rattle.sexp_reader.proofs.Short.{count_within}
use Rattle.name_resolve.specs.Held.{held_names}
use Rattle.name_resolve.specs.TypeForms.{array_ty}
use Rattle.name_resolve.proofs.HeaderLemmas.{fn_read}
use Rattle.name_resolve.proofs.headers.fn_header.Goals as goal

pub bound_names-requires : goal.bound_names-requires
bound_names-requires c = omega (arith, c.requires.terms, listed_size (form_of c.args.first.now) (forms_of c.in-Some-some_listed.pairs.now) c.in-Some-some_listed.ensures, count_within (forms_of c.in-Some-some_listed.pairs.now))

pub returns-clause-read : goal.returns-clause-read
returns-clause-read c =
    fn_read c.args.scopes.now c.args.at (form_of c.args.first.now) (forms_of c.args.rest.now) (form_of c.in-Some.answer.now) (form_of c.in-Some.body.now) (forms_of c.in-Some-some_listed.pairs.now)
    (held_names c.in_ok-bound.bound.items) (tys_of c.in_ok-inputs.inputs) (ty_of c.in_ok-answer.answer) c.in-Some.ensures c.in-Some-some_listed.ensures c.in_ok-bound.ensures.names c.in_ok-inputs.ensures.read
    (subst (λ Γ. array_ty Γ (form_of c.in-Some.answer.now) ≡ Ok (ty_of c.in_ok-answer.answer)) c.in_ok-inputs.ensures.same c.in_ok-answer.ensures.read)

pub returns-clause-size : goal.returns-clause-size
returns-clause-size c =
    omega (arith, listed_size (form_of c.args.first.now) (forms_of c.in-Some-some_listed.pairs.now) c.in-Some-some_listed.ensures, count_within (forms_of c.in-Some-some_listed.pairs.now), c.in_ok-bound.ensures.count, ap forms_size c.in-Some.ensures)
