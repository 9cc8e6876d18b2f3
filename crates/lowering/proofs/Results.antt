-- What the code of programs is, and how it follows their evaluation.
use Rattle.std.proofs.Common.{◌≡◌, ◌∙◌, sym, ap, subst, suc, List, length}
use Rattle.std.proofs.Math.Logic.{∥∥₁_elim}
use Rattle.core_syntax.specs.declared.ty.Ty.{Ty}
use Rattle.core_syntax.specs.Lists.{each}
use Rattle.core_syntax.specs.Refine.{ty_of}
use Rattle.machine_table.specs.declared.code.Block.{Block}
use Rattle.machine_table.specs.Codes.{Code, Param}
use Rattle.machine_table.specs.CodeBounds.{IsCode}
use Rattle.machine_table.specs.Values.{ValueRules, no_env, with_arrays}
use Rattle.erasure.specs.declared.program.ErProgram.{ErProgram}
use Rattle.erasure.specs.Programs.{ErasedProgram, IsErasure}
use Rattle.erasure.specs.RefineProgram.{erased_program_of}
use Rattle.lowering.specs.Lower.{behind_defs, blocks_of, bodies_of, lower}
use Rattle.lowering.specs.Params.{params_of, ty_param}
use Rattle.lowering.specs.Laws.{CodeFollows, EvaluationEndsSoon, EvaluationUsesFew, EvaluationEnds}
use Rattle.lowering.proofs.machine.Lowered.{lowered_runs}
use Rattle.lowering.proofs.counts.ProgramBound.{program_bound}
use Rattle.lowering.proofs.counts.Backward.{uses_few, ended_as}
use Rattle.lowering.proofs.texts.CheckedBlocks.{code_has_text}
use Rattle.lowering.proofs.texts.OneProof.{code_prop}

-- the code of what is merely known to be the erasure of a checked program
pub erasure_code : (E : ErasedProgram) → ∥ IsErasure E ∥₁ → IsCode (lower E)
erasure_code E h = ∥∥₁_elim h (code_prop (lower E)) (λ e. subst (λ D. IsCode (lower D)) (sym e.4.same) (code_has_text e.0 e.1 e.2 e.3 e.4.made e.4.checked e.4.literals))

-- the same of the parts that are made of a tree
pub parts_code : (p q : ErProgram) (types : List Ty) (ps : List Param) (bs : List Block) → ∥ IsErasure (erased_program_of p) ∥₁ → q ≡ p → types ≡ q.inputs → ps ≡ each ty_param (each ty_of types) → bs ≡ blocks_of (erased_program_of q)
    → IsCode (record { params = ps; blocks = bs })
parts_code p q types ps bs h tree inputs params blocks =
    subst IsCode code_is (erasure_code (erased_program_of p) h)
  where
    params_are : params_of (erased_program_of p) ≡ ps
    params_are = sym (params ∙ ap (λ ts. each ty_param (each ty_of ts)) (inputs ∙ ap (λ (r : ErProgram). r.inputs) tree))

    blocks_are : blocks_of (erased_program_of p) ≡ bs
    blocks_are = sym (blocks ∙ ap (λ r. blocks_of (erased_program_of r)) tree)

    code_is : ◌≡◌ {A = Code} (lower (erased_program_of p)) (record { params = ps; blocks = bs })
    code_is = λ i. record { params = params_are i; blocks = blocks_are i }

module _ {A : Type 0} (R : ValueRules A) where
  pub code_follows : CodeFollows R
  code_follows p inputs k = lowered_runs R p inputs k

  pub evaluation_ends_soon : EvaluationEndsSoon R
  evaluation_ends_soon p inputs k = program_bound R p inputs k

  pub evaluation_uses_few : EvaluationUsesFew R
  evaluation_uses_few p inputs k = uses_few R (bodies_of p) k (behind_defs (suc (length p.defs)) p.defs) (with_arrays inputs no_env) p.body

  pub evaluation_ends : EvaluationEnds R
  evaluation_ends p inputs n o e = ended_as R p inputs n o e
