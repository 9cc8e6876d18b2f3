-- The forms of the types that rules read, and what a rule concludes from the type that it gives.
use Rattle.std.specs.Prelude.{ℕ, ◌≡◌, Bool, true, false, List, ◌∷◌, Option, Some, None, Result, Ok, Err, take, ⊤}
use Rattle.core_syntax.specs.declared.span.Span.{Span}
use Rattle.core_syntax.specs.Syntax.{Index, Ty, BaseTy, TyVar, Fun, Forall, Pi, Sigma, Arr, Tys, Expr, expr_at}
use Rattle.core_syntax.specs.Value.{then_shape}
use Rattle.core_syntax.specs.Word.{Word}
use Rattle.core_syntax.specs.TypeEqual.{Same}
use Rattle.core_syntax.specs.Prims.{array_of}
use Rattle.core_syntax.specs.Typing.{Context, Has, OnArr}
use Rattle.core_syntax.specs.Blame.{premises}
use Rattle.core_syntax.specs.Notes.{NodeNote, NotesAre}
use Rattle.shape_words.specs.Split.{Splits}
use Rattle.type_check.specs.declared.concluded.Concluded.{Concluded}
use Rattle.type_check.specs.declared.refusal.TypeRefusal.{TypeRefusal}
use Rattle.type_check.specs.declared.refusal.TypeRefusal.TheVariants.{Refused, Memory}
use Rattle.type_check.specs.Contexts.{IsSound}
use Rattle.type_check.specs.Found.{Concludes}

-- a type is that of arrays of cells of a type, in a frame of shape p
abbrev pub IsFramed : Index → Ty → Ty → Type 0
IsFramed p cell t = OnArr cell (λ a c. t ≡ array_of a (then_shape p c))

-- a type is a function type
abbrev pub is_fun : Ty → Bool
is_fun (BaseTy at b) = false
is_fun (TyVar at k) = false
is_fun (Fun at ts r) = true
is_fun (Forall at n t) = false
is_fun (Pi at ss t) = false
is_fun (Sigma at ss t) = false
is_fun (Arr at t i) = false

-- a type is that of arrays of shape s of functions with these inputs and this output
abbrev pub IsFunctionOf : Ty → Tys → Ty → Index → Type 0
IsFunctionOf t ts r s = (at at' : Span) × (t ≡ Arr at (Fun at' ts r) s)

-- what follows at a node at this place whose rule gives the type t and this note
abbrev pub Follows : Span → Ty → NodeNote → Result Concluded TypeRefusal → Type 0
Follows at t n r =
    (Γ : Context) (e : Expr) (u : Ty) (ns : List NodeNote) → expr_at e ≡ at → (premises Γ e).met → Has Γ e u → Same u t → IsSound Γ.types Γ.sorts t →
    NotesAre Γ e (n ∷ ns) → Concludes Γ e ns r

-- the word in front of the cell's, or the refusal 21 at this place where the whole doesn't end with the cell
abbrev pub SplitsAt : Span → Word → Word → Result Word TypeRefusal → Type 0
SplitsAt at whole cell (Ok w) = (n : ℕ) × Splits (Some n) whole cell × (w ≡ take n whole)
SplitsAt at whole cell (Err (Refused n at')) = (n ≡ 21) × (at' ≡ at) × Splits None whole cell
SplitsAt at whole cell (Err Memory) = ⊤

-- it is a universal type
abbrev pub is_forall : Ty → Bool
is_forall (Forall at n t) = true
is_forall _ = false

-- it is a dependent product
abbrev pub is_pi : Ty → Bool
is_pi (Pi at ss t) = true
is_pi _ = false

-- it is a dependent sum
abbrev pub is_sigma : Ty → Bool
is_sigma (Sigma at ss t) = true
is_sigma _ = false
