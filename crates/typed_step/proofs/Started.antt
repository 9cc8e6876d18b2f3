-- The start of a run of a checked program.
use Rattle.std.proofs.Common.{◌≡◌, ◌∙◌, refl, sym, ap, subst, ℕ, suc, List, [], ◌∷◌, length}
use Rattle.std.proofs.Math.Logic.{∥∥₁_map}
use Rattle.array_values.specs.Data.{array_data}
use Rattle.array_values.specs.Values.{Array}
use Rattle.core_syntax.specs.declared.def.Def.{Def}
use Rattle.core_syntax.specs.declared.note.Note.{Note}
use Rattle.core_syntax.specs.declared.program.Program.{Program as Tree}
use Rattle.core_syntax.specs.declared.ty.Ty.{Ty as TyTree}
use Rattle.core_syntax.specs.Syntax.{Ty, Program}
use Rattle.core_syntax.specs.Annotate.{annotated, annotated_defs}
use Rattle.core_syntax.specs.Checks.{IsChecked}
use Rattle.core_syntax.specs.Data.{Data, FitsValues, data_terms}
use Rattle.core_syntax.specs.Lists.{each}
use Rattle.core_syntax.specs.Made.{IsWellMade}
use Rattle.core_syntax.specs.NormTypes.{norm_ty}
use Rattle.core_syntax.specs.Notes.{NodeNote, note_of}
use Rattle.core_syntax.specs.Programs.{def_of}
use Rattle.core_syntax.specs.Refine.{expr_of, ty_of}
use Rattle.core_syntax.specs.Start.{def_terms, body_term, start_term}
use Rattle.core_syntax.specs.Subst.{put_all}
use Rattle.core_syntax.specs.TermPut.{term_put}
use Rattle.core_syntax.specs.Typed.{typed_rules, TypedTerm}
use Rattle.core_syntax.specs.Wholes.{program_of}
use Rattle.typed_step.specs.Closing.{IsClosed}
use Rattle.reduction_laws.specs.Laws.{IsReady, def_types}
use Rattle.typed_start.specs.Starting.{StartsAt}
use Rattle.reduction_laws.specs.Readings.{notes_from}
use Rattle.reduction_laws.proofs.runs.Results.{defs_ready, starts_typed}

-- data that fits types is as long as they are
pub counted : (ts : List TyTree) (xs : List Array) → FitsValues (each ty_of ts) (each array_data xs) → length ts ≡ length xs
counted [] [] h = refl
counted [] (x ∷ xs) h = absurd h
counted (t ∷ ts) [] h = absurd h
counted (t ∷ ts) (x ∷ xs) h = ap suc (counted ts xs h.1)

-- what is read of a tree, by the tree that it is
pub of_tree : (P Q : Tree) (ds : List Def) (ns now : List Note) (types there : List TyTree) (xs : List Data) (at : ℕ) (defs : List TypedTerm) (term : TypedTerm) → Q ≡ P → ds ≡ Q.defs → now ≡ ns → there ≡ types →
    annotated_defs (each def_of ds) (notes_from 0 now) ≡ (defs, notes_from at now) → StartsAt (expr_of Q.body) (notes_from at now) (data_terms (each ty_of there) xs) term →
    (annotated_defs (program_of P).defs (each note_of ns) ≡ (defs, notes_from at ns)) × StartsAt (program_of P).body (notes_from at ns) (data_terms (each ty_of types) xs) term
of_tree P Q ds ns now types there xs at defs term p d n t read put = (
  (λ i. annotated_defs (each def_of (sym (d ∙ ap (λ R. R.defs) p) i)) (notes_from 0 (sym n i))) ∙ read ∙ (λ i. (defs, notes_from at (n i))),
  put ∙ (λ i. term_put typed_rules typed_rules.put_none (put_all (data_terms (each ty_of (t i)) xs)) (annotated (expr_of (p i).body) (notes_from at (n i))).0),
)

module _ (P : Program) (ns ms : List NodeNote) (inputs : List Ty) (xs : List Data) (defs : List TypedTerm) (term : TypedTerm) (read : annotated_defs P.defs ns ≡ (defs, ms)) (put : StartsAt P.body ms (data_terms inputs xs) term)
    (normal : inputs ≡ each norm_ty P.inputs) where
  pub starts_defs : defs ≡ def_terms P ns
  starts_defs = sym (ap (λ r. r.0) read)

  pub starts_term : term ≡ start_term P ns xs
  starts_term =
      put ∙ ap (λ ls. term_put typed_rules typed_rules.put_none (put_all (data_terms inputs xs)) (annotated P.body ls).0) (sym (ap (λ r. r.1) read))
      ∙ ap (λ ts. term_put typed_rules typed_rules.put_none (put_all (data_terms ts xs)) (body_term P ns)) normal

  -- it is typed
  pub starts_closed : (result : Ty) → IsWellMade P → FitsValues inputs xs → ∥ IsChecked P result inputs ns ∥₁ → ∥ IsClosed defs term ∥₁
  starts_closed result made fits checked =
      ∥∥₁_map checked (λ h.
      let ready : IsReady P result ns xs = record { inputs = inputs; made = made; checked = h; fits = fits } in
      subst (λ ds. IsClosed ds term) (sym starts_defs)
      (subst (λ t. IsClosed (def_terms P ns) t) (sym starts_term) (def_types P, defs_ready P result ns xs ready, (result, starts_typed P result ns xs ready))))
