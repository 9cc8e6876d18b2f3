-- A typed application, as a check that typed terms exist: (+ 1 2) on scalars, and what the theorems say of its run.
use Rattle.std.proofs.Common.{◌≡◌, refl, ℕ, zero, pos, [], ◌∷◌}
use Rattle.core_syntax.specs.declared.primitive.Primitive.TheVariants as p
use Rattle.core_syntax.specs.Syntax.{Fun, Tys, no_tys, more_tys, no_span}
use Rattle.core_syntax.specs.Kinds.{IsWellFormed}
use Rattle.core_syntax.specs.Value.{IsPrefix, then_shape}
use Rattle.core_syntax.specs.Prims.{scalar, int_ty, array_of}
use Rattle.core_syntax.specs.Typing.{numbers, defs_only}
use Rattle.core_syntax.specs.Terms.{TApp, TInt, TPrim, term_list, scalar_of}
use Rattle.core_syntax.specs.Move.{Goes}
use Rattle.core_syntax.specs.Step.{step}
use Rattle.core_syntax.specs.Typed.{typed_rules, TypedTerm}
use Rattle.core_syntax.specs.TermTyping.{HasTerm, HasClosed}
use Rattle.core_syntax.proofs.Equality.{same_refl}
use Rattle.reduction_laws.proofs.runs.TypedRuns.{preservation}
use Rattle.std.specs.Prelude.{None}

abbrev one : ℕ → TypedTerm
one n = scalar_of (TInt (pos n))

abbrev sum : TypedTerm
sum = TApp (scalar_of (TPrim p.Add None None)) (term_list (one 1 ∷ one 2 ∷ [])) (numbers [] ∷ numbers [] ∷ []) (scalar int_ty)

abbrev inputs : Tys
inputs = more_tys (scalar int_ty) (more_tys (scalar int_ty) no_tys)

int_formed : IsWellFormed 0 [] (scalar int_ty)
int_formed = (refl, (refl, tt), tt)

one_typed : (n : ℕ) → HasTerm (defs_only []) (one n) (array_of int_ty (then_shape (numbers []) (numbers [])))
one_typed n = (int_ty, (tt, refl), tt, ((refl, (refl, ((refl, tt), ((refl, tt), tt))), tt), (refl, λ v. refl)), refl)

same_frame : IsPrefix [] (numbers []) (numbers [])
same_frame = (numbers [], ((refl, ((refl, tt), ((refl, tt), tt))), (refl, tt), λ v. refl))

sum_typed : HasClosed [] sum (scalar int_ty)
sum_typed = (
  inputs,
  scalar int_ty,
  numbers [],
  (Fun no_span inputs (scalar int_ty), (((int_formed, (int_formed, tt)), int_formed), same_refl (Fun no_span inputs (scalar int_ty))), tt, ((refl, (refl, tt), ((int_formed, (int_formed, tt)), int_formed)), same_refl (array_of (Fun no_span inputs (scalar int_ty)) (numbers []))), refl),
  (
    numbers [] ∷ numbers [] ∷ [],
    ((one_typed 1, ((refl, tt), (refl, tt), λ v. refl)), ((one_typed 2, ((refl, tt), (refl, tt), λ v. refl)), tt)),
    (int_formed, int_formed, same_refl (scalar int_ty)),
    (numbers [], (zero, refl, (same_frame, (same_frame, (same_frame, tt)))), (int_formed, (refl, λ v. refl))),
  ),
)

sum_steps : step typed_rules [] sum ≡ Goes (one 3)
sum_steps = refl

three_typed : HasClosed [] (one 3) (scalar int_ty)
three_typed = preservation [] [] tt sum (one 3) (scalar int_ty) sum_typed sum_steps
