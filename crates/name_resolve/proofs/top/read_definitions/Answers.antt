use Rattle.std.proofs.Common.{rules, refl, sym, ap, ◌∙◌, ◌∷◌, arith, Ok}
use Rattle.core_syntax.specs.Lists.{each}
use Rattle.core_syntax.specs.Programs.{def_of}
use Rattle.sexp_reader.specs.Forms.{forms_of}
use Rattle.name_resolve.specs.Scopes.{Scopes, behind}
use Rattle.name_resolve.specs.Tops.{definitions_read}
use Rattle.name_resolve.proofs.Loops.{loop_init}
use Rattle.name_resolve.proofs.Refusals.{carried}
use Rattle.name_resolve.proofs.TopLemmas.{defs_room, next_known, defs_step, defs_refused, defs_end, known_end, defs_fit}
use Rattle.name_resolve.proofs.top.read_definitions.Goals as goal

pub loop-form-init : goal.loop-form-init
loop-form-init c =
    (c.requires.behind, refl, loop_init def_of (λ d ds. d ∷ ds) (definitions_read c.args.scopes.now.defs) c.args.forms.now c.in_ok-read.read.items c.in_ok-read.ensures.items, omega arith)

pub read_definition-requires-clause-behind : goal.read_definition-requires-clause-behind
read_definition-requires-clause-behind c = c.loop-form.invariant.0

pub read_definition-requires-clause-room : goal.read_definition-requires-clause-room
read_definition-requires-clause-room c =
    defs_room c.args.forms.now c.loop-form.form-index c.form-item.result c.form-item.result c.loop-form-test.true c.form-item.is c.loop-form.scopes c.args.scopes.now c.loop-form.invariant.0 c.requires.room c.loop-form.invariant.3

pub returns-in_err-part-clause-read : goal.returns-in_err-part-clause-read
returns-in_err-part-clause-read c =
    carried (λ ds. each def_of ds) c.from_residual-in_err-part.result c.in_err-part.field-0.0 (definitions_read c.args.scopes.now.defs (forms_of c.args.forms.now)) c.from_residual-in_err-part.ensures.1
    (defs_refused c.args.forms.now c.loop-form.form-index c.form-item.result c.form-item.result c.loop-form-test.true c.form-item.is c.args.scopes.now.defs c.loop-form.scopes.defs c.loop-form.read.items c.loop-form.invariant.2
    c.in_err-part.field-0.0 c.in_err-part.ensures.read)

pub loop-form-preserved : goal.loop-form-preserved
loop-form-preserved c =
    let known = ap (λ (Γ : Scopes). Γ.defs) c.in_ok-part.ensures.known in (
      c.in_ok-part.ensures.known ∙ ap behind (sym known),
      next_known c.args.forms.now c.loop-form.form-index c.form-item.result c.form-item.result c.loop-form-test.true c.form-item.is c.args.scopes.now.defs c.loop-form.scopes.defs c.loop-form.invariant.1
          c.read_definition.new.scopes.defs known,
      defs_step c.args.forms.now c.loop-form.form-index c.form-item.result c.form-item.result c.loop-form-test.true c.form-item.is c.args.scopes.now.defs c.loop-form.scopes.defs c.loop-form.read.items c.loop-form.invariant.2
          c.in_ok-part.part c.push.new.self.items (search rules) c.in_ok-part.ensures.read c.read_definition.new.scopes.defs known,
      defs_fit c.args.forms.now c.loop-form.form-index c.form-item.result c.form-item.result c.loop-form-test.true c.form-item.is c.args.scopes.now.defs c.loop-form.scopes.defs c.loop-form.invariant.3
          c.read_definition.new.scopes.defs known,
    )

pub returns-clause-read : goal.returns-clause-read
returns-clause-read c =
    defs_end c.args.forms.now c.loop-form.form-index c.loop-form-test.false c.args.scopes.now.defs c.loop-form.scopes.defs c.loop-form.read.items c.loop-form.invariant.2
    ∙ ap (λ ds. Ok (each def_of ds)) (sym c.from_vec.ensures)

pub returns-clause-known : goal.returns-clause-known
returns-clause-known c =
    c.loop-form.invariant.0 ∙ ap behind (known_end c.args.forms.now c.loop-form.form-index c.loop-form-test.false c.args.scopes.now.defs c.loop-form.scopes.defs c.loop-form.invariant.1)
