-- The rules of reduction of terms whose parts are values.
use Rattle.std.specs.Prelude.{List}
use Rattle.core_syntax.specs.declared.errors.TrapKind.{TrapKind}
use Rattle.core_syntax.specs.Terms.{TVar, TDef, TArray, TNoAtoms, TFrame, TNoCells, TApp, TTypeApp, TIndexApp, TUnbox, no_terms, more_terms, term_items}
use Rattle.core_syntax.specs.Move.{Move, Rests, Trapped, Goes, Lost}
use Rattle.core_syntax.specs.Rules.{goes_empty, apply, over_value, type_beta, index_beta, unbox_one, collapse}
use Rattle.core_syntax.specs.Step.{unfolded}
use Rattle.core_syntax.specs.Typed.{typed_rules, TypedTerm}

-- a step that traps
abbrev pub trapped : TrapKind → Move TypedTerm
trapped k = Trapped k

-- the rule of a term whose parts are values
abbrev pub fires : List TypedTerm → TypedTerm → Move TypedTerm
fires defs (TVar k) = Lost
fires defs (TDef k) = unfolded typed_rules defs k
fires defs (TArray dims xs) = Rests
fires defs (TNoAtoms dims a) = Rests
fires defs (TFrame dims no_terms n) = Lost
fires defs (TFrame dims (more_terms t ts) n) = Goes (collapse typed_rules dims t (term_items ts) n)
fires defs (TNoCells w) = goes_empty typed_rules (typed_rules.whole_dims w) (typed_rules.whole_atom w)
fires defs (TApp f ts cs r) = apply typed_rules f (term_items ts) cs r
fires defs (TTypeApp t us r) = over_value typed_rules t (λ a. TTypeApp a us r) (type_beta typed_rules us) r
fires defs (TIndexApp t is r) = over_value typed_rules t (λ a. TIndexApp a is r) (index_beta typed_rules is) r
fires defs (TUnbox ss t b r) = over_value typed_rules t (λ a. TUnbox ss a b r) (unbox_one typed_rules b) r
