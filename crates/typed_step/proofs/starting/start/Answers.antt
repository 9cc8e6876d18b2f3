use Rattle.std.proofs.Common.{◌∙◌, ap, length}
use Rattle.std.proofs.Math.Logic.{∥∥₁_map}
use Rattle.array_values.specs.Data.{array_data}
use Rattle.core_syntax.specs.Lists.{each}
use Rattle.core_syntax.specs.NormTypes.{norm_ty}
use Rattle.core_syntax.specs.Notes.{note_of}
use Rattle.core_syntax.specs.Refine.{ty_of}
use Rattle.core_syntax.specs.RefineTerms.{term_of}
use Rattle.core_syntax.specs.Wholes.{program_of}
use Rattle.reduction_laws.specs.Readings.{notes_from}
use Rattle.reduction_laws.proofs.programs.SameTypes.{same_types}
use Rattle.typed_step.proofs.Started.{counted, of_tree, starts_defs, starts_term, starts_closed}
use Rattle.typed_step.proofs.starting.start.Goals as goal

pub started-requires : goal.started-requires
started-requires c = ap (λ ts. length ts) c.inputs.ensures ∙ counted c.args.checked.now.inputs c.args.inputs.now c.requires

pub invariant_of-result : goal.invariant_of-result
invariant_of-result c =
    let k = c.args.checked.now in
    let xs = each array_data c.args.inputs.now in
    let s = of_tree k.program c.program-program.result.now c.as_slice.result.now k.notes c.notes-notes.result.now k.inputs c.inputs.result.now xs c.annotated_defs.new.at
    (each term_of c.in_ok-defs.defs) (term_of c.in_ok-term.term) c.program-program.ensures c.as_slice.ensures c.notes-notes.ensures c.inputs.ensures c.in_ok-defs.ensures c.in_ok-term.ensures in
    let normal = same_types (each ty_of k.inputs) (each norm_ty (program_of k.program).inputs) (∥∥₁_map k.checked (λ h. h.inputs_are)) in
    record {
      typed =
          starts_closed (program_of k.program) (each note_of k.notes) (notes_from c.annotated_defs.new.at k.notes) (each ty_of k.inputs) xs (each term_of c.in_ok-defs.defs) (term_of c.in_ok-term.term) s.0 s.1 normal
          (ty_of k.body) k.program.well_made c.requires k.checked;
    }

pub returns : goal.returns
returns c =
    let k = c.args.checked.now in
    let xs = each array_data c.args.inputs.now in
    let s = of_tree k.program c.program-program.result.now c.as_slice.result.now k.notes c.notes-notes.result.now k.inputs c.inputs.result.now xs c.annotated_defs.new.at
    (each term_of c.in_ok-defs.defs) (term_of c.in_ok-term.term) c.program-program.ensures c.as_slice.ensures c.notes-notes.ensures c.inputs.ensures c.in_ok-defs.ensures c.in_ok-term.ensures in
    let normal = same_types (each ty_of k.inputs) (each norm_ty (program_of k.program).inputs) (∥∥₁_map k.checked (λ h. h.inputs_are)) in
    (starts_defs (program_of k.program) (each note_of k.notes) (notes_from c.annotated_defs.new.at k.notes) (each ty_of k.inputs) xs (each term_of c.in_ok-defs.defs) (term_of c.in_ok-term.term) s.0 s.1 normal, starts_term (program_of k.program) (each note_of k.notes) (notes_from c.annotated_defs.new.at k.notes) (each ty_of k.inputs) xs (each term_of c.in_ok-defs.defs) (term_of c.in_ok-term.term) s.0 s.1 normal)
