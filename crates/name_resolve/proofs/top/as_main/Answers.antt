use Rattle.sexp_reader.specs.Forms.{form_of, forms_of}
use Rattle.name_resolve.proofs.TopLemmas.{main_size}
use Rattle.name_resolve.proofs.top.as_main.Goals as goal

pub returns-in_ok-inputs-in-Some-Main-clause-size : goal.returns-in_ok-inputs-in-Some-Main-clause-size
returns-in_ok-inputs-in-Some-Main-clause-size c =
    main_size (form_of c.args.form.now) (forms_of c.in_ok-listed.field-0.now) c.in_ok-listed.ensures (form_of c.in_ok-head.head.now) (form_of c.in_ok-head.inputs.now) (form_of c.in_ok-head.body.now)
    c.in_ok-head.ensures (forms_of c.in_ok-inputs-in-Some-Main.inputs.now) c.in_ok-inputs-in-Some-Main.ensures
