-- An erased program from what is read of its definitions and of its body.
use Rattle.std.proofs.Common.{◌≡◌, ◌∙◌, sym, ap, ℕ, List, []}
use mathlib.Core.Path.{subst₂}
use Rattle.core_syntax.specs.declared.def.Def.{Def}
use Rattle.core_syntax.specs.declared.note.Note.{Note}
use Rattle.core_syntax.specs.declared.program.Program.{Program as Tree}
use Rattle.core_syntax.specs.Annotate.{Read, annotated, annotated_defs}
use Rattle.core_syntax.specs.Checks.{IsChecked}
use Rattle.core_syntax.specs.Lists.{Each, each}
use Rattle.core_syntax.specs.Notes.{NodeNote, note_of}
use Rattle.core_syntax.specs.NormTypes.{norm_ty}
use Rattle.core_syntax.specs.Programs.{def_of}
use Rattle.core_syntax.specs.Refine.{expr_of}
use Rattle.core_syntax.specs.Syntax.{Ty, Program}
use Rattle.core_syntax.specs.Wholes.{program_of}
use Rattle.erasure.specs.Erased.{ErasedTerm}
use Rattle.erasure.specs.Erasure.{er}
use Rattle.erasure.specs.Programs.{ErasedProgram, erased_program}
use Rattle.reduction_laws.specs.Readings.{notes_from}
use Rattle.erasure.specs.Measured.{TermFits}
use Rattle.erasure.specs.Readings.{read_as}
use Rattle.erasure.proofs.bounded.Bounds.{checked_fits}

program_read : (P : Program) (ns ks ls : List NodeNote) (defs : List ErasedTerm) (inputs : List Ty) (body : ErasedTerm) → read_as (each (er [])) (annotated_defs P.defs ns) ≡ (defs, ks) →
    read_as (er []) (annotated P.body ks) ≡ (body, ls) → inputs ≡ each norm_ty P.inputs → ◌≡◌ {A = ErasedProgram} (record { defs = defs; inputs = inputs; body = body }) (erased_program P ns)
program_read P ns ks ls defs inputs body d b i = λ j. record { defs = defs_are j; inputs = i j; body = body_is j }
  where
    defs_are : defs ≡ each (er []) (annotated_defs P.defs ns).0
    defs_are = ap (λ r. r.0) (sym d)

    body_is : body ≡ er [] (annotated P.body (annotated_defs P.defs ns).1).0
    body_is = ap (λ r. r.0) (sym b) ∙ ap (λ r. er [] (annotated P.body r.1).0) (sym d)

-- the same of the trees that are read
pub whole_read : (P Q : Tree) (ds : List Def) (ns now : List Note) (at : ℕ) (ls : List NodeNote) (defs : List ErasedTerm) (inputs : List Ty) (body : ErasedTerm) → Q ≡ P → ds ≡ Q.defs → now ≡ ns →
    read_as (each (er [])) (annotated_defs (each def_of ds) (notes_from 0 now)) ≡ (defs, notes_from at now) → read_as (er []) (annotated (expr_of Q.body) (notes_from at now)) ≡ (body, ls) →
    inputs ≡ each norm_ty (program_of P).inputs → ◌≡◌ {A = ErasedProgram} (record { defs = defs; inputs = inputs; body = body }) (erased_program (program_of P) (each note_of ns))
whole_read P Q ds ns now at ls defs inputs body p d n a b i =
    program_read (program_of P) (each note_of ns) (notes_from at now) ls defs inputs body
    ((λ j. read_as (each (er [])) (annotated_defs (each def_of (sym (d ∙ ap (λ R. R.defs) p) j)) (notes_from 0 (sym n j)))) ∙ a)
    ((λ j. read_as (er []) (annotated (expr_of (sym p j).body) (notes_from at now))) ∙ b) i

-- ---- the parts of a checked program are within the measures

module _ (P Q : Tree) (ds : List Def) (ns now : List Note) (result : Ty) (inputs : List Ty) (p : Q ≡ P) (n : now ≡ ns) (h : ∥ IsChecked (program_of P) result inputs (each note_of ns) ∥₁) where
  pub defs_at : ds ≡ Q.defs → Each TermFits (each (er []) (annotated_defs (each def_of ds) (notes_from 0 now)).0)
  defs_at d =
      subst₂ (λ ds ns. Each TermFits (each (er []) (annotated_defs (each def_of ds) (notes_from 0 ns)).0)) (sym (d ∙ ap (λ R. R.defs) p)) (sym n)
      (checked_fits (program_of P) result inputs (each note_of ns) h).0

  pub body_at : (ks : List NodeNote) (defs : List ErasedTerm) → ds ≡ Q.defs → read_as (each (er [])) (annotated_defs (each def_of ds) (notes_from 0 now)) ≡ (defs, ks) → TermFits (er [] (annotated (expr_of Q.body) ks).0)
  body_at ks defs d a =
      subst₂ (λ (Q : Tree) ks. TermFits (er [] (annotated (expr_of Q.body) ks).0)) (sym p)
      (ap (λ (r : Read (List ErasedTerm)). r.1) ((λ j. read_as (each (er [])) (annotated_defs (each def_of (sym (d ∙ ap (λ R. R.defs) p) j)) (notes_from 0 (sym n j)))) ∙ a))
      (checked_fits (program_of P) result inputs (each note_of ns) h).1
