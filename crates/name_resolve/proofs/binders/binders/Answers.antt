use Rattle.std.proofs.Common.{rules}
use Rattle.sexp_reader.specs.Forms.{forms_of}
use Rattle.name_resolve.specs.Held.{listed_binders}
use Rattle.name_resolve.proofs.BinderLemmas.{prefixed-none, binder_read, no_binder, binders_read}
use Rattle.name_resolve.proofs.Refusals.{is_refused}
use Rattle.name_resolve.proofs.binders.binders.Goals as goal

pub loop-form-init : goal.loop-form-init
loop-form-init c = prefixed-none c.in_ok-all.all.items (listed_binders c.args.listing c.args.space (forms_of c.args.forms.now)) c.in_ok-all.ensures.items

pub returns-in_default : goal.returns-in_default
returns-in_default c =
    is_refused _ 7 c.args.at _ c.malformed.ensures
    (no_binder c.args.listing c.args.space c.args.forms.now c.loop-form.form-index c.loop-form.all.items c.loop-form.invariant c.form-item.result c.form-item.result c.loop-form-test.true c.form-item.is c.args.at c.in_default.ensures)

pub loop-form-preserved : goal.loop-form-preserved
loop-form-preserved c =
    binder_read c.args.listing c.args.space c.args.forms.now c.loop-form.form-index c.loop-form.all.items c.loop-form.invariant c.form-item.result c.form-item.result c.loop-form-test.true c.form-item.is
    c.in-Some.binder c.push.new.self.items (search rules) c.in-Some.ensures

pub returns : goal.returns
returns c = binders_read c.args.listing c.args.space c.args.forms.now c.loop-form.form-index c.loop-form.all.items c.loop-form.invariant c.args.at c.loop-form-test.false
