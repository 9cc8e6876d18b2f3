-- Runs of a program on data.
use Rattle.std.specs.Prelude.{ℕ, List}
use Rattle.core_syntax.specs.declared.errors.TrapKind.{TrapKind}
use Rattle.core_syntax.specs.Syntax.{Program}
use Rattle.core_syntax.specs.Lists.{each}
use Rattle.core_syntax.specs.NormTypes.{norm_ty}
use Rattle.core_syntax.specs.Notes.{NodeNote}
use Rattle.core_syntax.specs.Subst.{put_all}
use Rattle.core_syntax.specs.TermPut.{term_put}
use Rattle.core_syntax.specs.Step.{ReachesValue, TrapsAt, GoesOn}
use Rattle.core_syntax.specs.Typed.{typed_rules, TypedTerm}
use Rattle.core_syntax.specs.Annotate.{annotated, annotated_defs}
use Rattle.core_syntax.specs.Data.{Data, data_terms}

-- the terms of a program's definitions, with the notes of their nodes
abbrev pub def_terms : Program → List NodeNote → List TypedTerm
def_terms P ns = (annotated_defs P.defs ns).0

-- the term of a program's body
abbrev pub body_term : Program → List NodeNote → TypedTerm
body_term P ns = (annotated P.body (annotated_defs P.defs ns).1).0

-- the body with data in the place of the inputs, which have normal types
abbrev pub start_term : Program → List NodeNote → List Data → TypedTerm
start_term P ns data' = term_put typed_rules typed_rules.put_none (put_all (data_terms (each norm_ty P.inputs) data')) (body_term P ns)

-- after exactly k steps the source has reached the value
abbrev pub Reaches : Program → List NodeNote → List Data → ℕ → TypedTerm → Type 0
Reaches P ns xs k v = ReachesValue typed_rules (def_terms P ns) k (start_term P ns xs) v

-- the k-th step of the source traps with this kind
abbrev pub SourceTraps : Program → List NodeNote → List Data → ℕ → TrapKind → Type 0
SourceTraps P ns xs k kind = TrapsAt typed_rules (def_terms P ns) k (start_term P ns xs) kind

-- the source goes on at k
abbrev pub SourceGoes : Program → List NodeNote → List Data → ℕ → Type 0
SourceGoes P ns xs k = GoesOn typed_rules (def_terms P ns) k (start_term P ns xs)
