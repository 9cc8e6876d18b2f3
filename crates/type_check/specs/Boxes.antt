-- What is known of a box and of an `unbox` before the expression in it is looked at, and what is concluded of atoms.
use Rattle.std.specs.Prelude.{ℕ, ◌≡◌, List, length, None, Result, Ok, Err}
use Rattle.core_syntax.specs.declared.span.Span.{Span}
use Rattle.core_syntax.specs.declared.index.Sort.{Sort}
use Rattle.core_syntax.specs.declared.ty.Ty.{Ty as Tree}
use Rattle.core_syntax.specs.Syntax.{Index, Ty, Sigma, Arr, Tys, ty_items, no_span, Expr, Unbox, Atom, Boxed}
use Rattle.core_syntax.specs.Lists.{EachTwo}
use Rattle.core_syntax.specs.Sorts.{IsSorted}
use Rattle.core_syntax.specs.Kinds.{IsWellFormed}
use Rattle.core_syntax.specs.TypeEqual.{Same}
use Rattle.core_syntax.specs.Subst.{ty_under_index, with_indices}
use Rattle.core_syntax.specs.NormTypes.{norm_ty, measure_ty}
use Rattle.core_syntax.specs.Refine.{ty_of}
use Rattle.core_syntax.specs.Notes.{NodeNote}
use Rattle.core_syntax.specs.Typing.{Context, times, IsAtomType}
use Rattle.core_syntax.specs.Blame.{expr_premises, atom_premises, written, written_atom, all_written, written_indices}
use Rattle.type_check.specs.declared.refusal.TypeRefusal.{TypeRefusal}
use Rattle.type_check.specs.declared.boxes.OpenedBox.{OpenedBox}
use Rattle.type_check.specs.declared.boxes.OpenedUnbox.{OpenedUnbox}
use Rattle.type_check.specs.declared.functions.FunctionTypes.{FunctionTypes}
use Rattle.type_check.specs.Found.{Refuses, FoundAtom}
use Rattle.type_check.specs.Written.{IsNormalOf, AreNormalOf}

-- the type t of a box with these indices meets its premises, and these are its normal type and that of its content
pub record IsOpenedBox (Γ : Context) (is : List Index) (t : Ty) (o : OpenedBox) : Type 0 where
  pub tested : (written_atom Γ t).met
  pub atom : IsAtomType Γ t
  pub place : Span
  pub sorts : List Sort
  pub body : Ty
  pub form : t ≡ Sigma place sorts body
  pub counts : length is ≡ length sorts
  pub given : (written_indices Γ sorts is).met
  pub sorted : EachTwo (IsSorted Γ.sorts) sorts is
  pub fits : measure_ty (with_indices is body) ≡ None
  pub ty_is : ty_of o.ty ≡ norm_ty t
  pub content_is : ty_of o.content ≡ norm_ty (with_indices is body)

-- what an answer says of a box's type before its content is looked at
abbrev pub OpensBox : Context → Span → List Index → Ty → Result OpenedBox TypeRefusal → Type 0
OpensBox Γ at is t (Ok o) = IsOpenedBox Γ is t o
OpensBox Γ at is t (Err r) = (e : Expr) → Refuses (atom_premises Γ (Boxed at is e t)) r

-- what an answer says of the content of a box, whose type t is as it should be
abbrev pub FitsBox : Context → Span → List Index → Ty → Result Tree TypeRefusal → Type 0
FitsBox Γ at is t (Ok n) = (ty : Tree) → ty_of ty ≡ norm_ty t → IsOpenedBox Γ is t (record { ty = ty; content = n })
FitsBox Γ at is t (Err r) = (e : Expr) → Refuses (atom_premises Γ (Boxed at is e t)) r

-- an `unbox` of n indices at a callee of this type, with the result type u, meets its premises up to its body
pub record IsOpenedUnbox (Γ : Context) (n : ℕ) (u callee : Ty) (o : OpenedUnbox) : Type 0 where
  pub frame : Index
  pub callee_is : callee ≡ Arr no_span (Sigma no_span o.sorts (ty_of o.content)) frame
  pub counts : n ≡ length o.sorts
  pub tested : (written Γ u).met
  pub formed : IsWellFormed Γ.types Γ.sorts u
  pub cell_is : ty_of o.cell ≡ norm_ty u
  pub expected_is : Same (ty_of o.expected) (times n ty_under_index u)

-- what an answer says of an `unbox` before its body is looked at
abbrev pub OpensUnbox : Context → Span → ℕ → Expr → Ty → Ty → Result OpenedUnbox TypeRefusal → Type 0
OpensUnbox Γ at n e u callee (Ok o) = IsOpenedUnbox Γ n u callee o
OpensUnbox Γ at n e u callee (Err r) = (b : Expr) → Refuses (expr_premises Γ (Unbox at n e u b)) r

-- the types that a function writes meet their premises, and these are their normal types
pub record AreFunctionTypes (Γ : Context) (ts : Tys) (r : Ty) (f : FunctionTypes) : Type 0 where
  pub inputs_tested : (all_written Γ ts).met
  pub inputs : AreNormalOf Γ (ty_items ts) f.inputs.items
  pub output_tested : (written Γ r).met
  pub output : IsNormalOf Γ r f.output

-- what a rule concludes of an atom, with its parts' notes: its premises are met and it has this type, or the first premise that isn't met
abbrev pub ConcludesAtom : {V : Type 0} → (V → Ty) → Context → Atom → List NodeNote → Result V TypeRefusal → Type 0
ConcludesAtom view Γ a ns (Ok v) = FoundAtom Γ a (view v) ns
ConcludesAtom view Γ a ns (Err r) = Refuses (atom_premises Γ a) r
