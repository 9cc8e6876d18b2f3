-- What is said of the body of a function.
use Rattle.std.specs.Prelude.{List, ◌++◌, Result}
use Rattle.core_syntax.specs.declared.ty.Ty.{Ty as Tree}
use Rattle.core_syntax.specs.Lists.{each, EachTwo}
use Rattle.core_syntax.specs.Syntax.{Ty, Expr}
use Rattle.core_syntax.specs.TypeEqual.{Same}
use Rattle.core_syntax.specs.Refine.{ty_of}
use Rattle.core_syntax.specs.Blame.{expr_premises}
use Rattle.core_syntax.specs.Typing.{under_terms}
use Rattle.type_check.specs.declared.refusal.TypeRefusal.{TypeRefusal}
use Rattle.type_check.specs.Answers.{Answers}
use Rattle.type_check.specs.Found.{Found}
use Rattle.type_check.specs.State.{State, bound_at}

-- a state with term variables of these types more
abbrev pub within_terms : List Tree → State → State
within_terms ts s = record s { terms = s.terms ++ each (bound_at s) ts }

-- of the body of a function whose inputs have types equal to these
abbrev pub InFunctionAnswers : List Ty → Expr → State → State → Result Tree TypeRefusal → Type 0
InFunctionAnswers us e old now r =
    (ts : List Ty) → EachTwo Same ts us → Answers (λ Γ t notes. Found (under_terms ts Γ) e (ty_of t) notes) (λ Γ. expr_premises (under_terms ts Γ) e) old now r
