-- The params of a typed program's code stand for the types of its inputs.
use Rattle.std.proofs.Common.{◌≡◌, refl, sym, ap, ◌∙◌, List, [], ◌∷◌, true, Result, Ok, Err}
use Rattle.std.specs.Prelude.{map, IfOk}
use Rattle.std.specs.Coded.{×_prop, Unit-prop, Coded-set, coded_bool}
use Rattle.std.proofs.Math.Logic.{∥∥₁_elim, ∥∥₁_map}
use Rattle.core_syntax.specs.declared.checked.Checked.{Checked}
use Rattle.core_syntax.specs.declared.errors.Memory.{Memory}
use Rattle.core_syntax.specs.Kinds.{IsWellFormed}
use Rattle.core_syntax.specs.Lists.{each, Each}
use Rattle.core_syntax.specs.Norm.{norm_word}
use Rattle.core_syntax.specs.NormTypes.{norm_ty}
use Rattle.core_syntax.specs.Notes.{note_of}
use Rattle.core_syntax.specs.Syntax.{Ty, BaseTy, TyVar, Fun, Forall, Pi, Sigma, Arr, Program, no_span}
use Rattle.core_syntax.specs.Typing.{is_printable, is_printable_atom, Typed}
use Rattle.core_syntax.specs.Wholes.{program_of}
use Rattle.core_syntax.specs.Word.{Word}
use Rattle.core_syntax.proofs.NormTyLemmas.{word_again}
use Rattle.machine_table.specs.declared.code.Param.{Param as Tree}
use Rattle.machine_table.specs.Codes.{boxed, param_of}
use Rattle.machine_table.specs.ParamTypes.{arrays_of, type_of}
use Rattle.reduction_laws.proofs.programs.Accepted.{accepted_typed}
use Rattle.lowering.specs.Laws.{CodeHasInputs, code_of_program}
use Rattle.lowering.specs.Params.{ty_param, elem_param}

-- ---- types

mutual
  -- a printable type's param stands for that type in normal form
  pub type_again : (t : Ty) → is_printable t ≡ true → type_of (ty_param t) ≡ norm_ty t
  type_again (Arr at a i) h = atoms_again a (norm_word i) h
  type_again _ h = absurd (cc)

  atoms_again : (a : Ty) (w : Word) → is_printable_atom a ≡ true → type_of (elem_param a w) ≡ arrays_of (norm_ty a) w
  atoms_again (BaseTy at b) w h = refl
  atoms_again (Sigma at ss t) w h = ap (λ (u : Ty). arrays_of (Sigma no_span ss u) w) (type_again t h)
  atoms_again _ w h = absurd (cc)

mutual
  -- a type and its normal form have one param
  pub param_again : (t : Ty) → ty_param (norm_ty t) ≡ ty_param t
  param_again (Arr at a i) = ap (elem_param (norm_ty a)) (word_again i) ∙ elem_again a (norm_word i)
  param_again (BaseTy at b) = refl
  param_again (TyVar at k) = refl
  param_again (Fun at ts r) = refl
  param_again (Forall at n t) = refl
  param_again (Pi at ss t) = refl
  param_again (Sigma at ss t) = refl

  elem_again : (a : Ty) (w : Word) → elem_param (norm_ty a) w ≡ elem_param a w
  elem_again (BaseTy at b) w = refl
  elem_again (Sigma at ss t) w = ap (boxed ss w) (param_again t)
  elem_again (TyVar at k) w = refl
  elem_again (Fun at ts r) w = refl
  elem_again (Forall at n t) w = refl
  elem_again (Pi at ss t) w = refl
  elem_again (Arr at t i) w = refl

pub types_again : (ts : List Ty) → Each (λ t. is_printable t ≡ true) ts → each type_of (each ty_param ts) ≡ each norm_ty ts
types_again [] h = refl
types_again (t ∷ ts) h = λ i. type_again t h.0 i ∷ types_again ts h.1 i

params_again : (ts : List Ty) → each ty_param (each norm_ty ts) ≡ each ty_param ts
params_again [] = refl
params_again (t ∷ ts) = λ i. param_again t i ∷ params_again ts i

-- ---- programs

-- the types of a typed program's inputs are printable
printable_prop : (ts : List Ty) → IsProp (Each (λ t. is_printable t ≡ true) ts)
printable_prop [] = Unit-prop
printable_prop (t ∷ ts) = ×_prop (Coded-set coded_bool (is_printable t) true) (printable_prop ts)

are_printable : (ts : List Ty) → Each (λ t. IsWellFormed 0 [] t × (is_printable t ≡ true)) ts → Each (λ t. is_printable t ≡ true) ts
are_printable [] h = tt
are_printable (t ∷ ts) h = (h.0.1, are_printable ts h.1)

inputs_printable : (P : Program) → ∥ Typed P ∥₁ → Each (λ t. is_printable t ≡ true) P.inputs
inputs_printable P typed = ∥∥₁_elim typed (printable_prop P.inputs) (λ h. are_printable P.inputs h.inputs)

pub code_has_inputs : CodeHasInputs
code_has_inputs P notes typed = ap (each type_of) (params_again P.inputs) ∙ types_again P.inputs (inputs_printable P typed)

-- a checked program is typed
checked_typed : (c : Checked) → ∥ Typed (program_of c.program) ∥₁
checked_typed c = ∥∥₁_map c.checked (λ x. accepted_typed (program_of c.program) c.program.well_made x.accepted)

-- the params of its inputs are those of its code, and stand for the types of its inputs
module _ (c : Checked) (r : Result (List Tree) Memory) (made : IfOk r (λ ps. map param_of ps ≡ each ty_param (program_of c.program).inputs)) where
  pub code_params : IfOk r (λ ps. map param_of ps ≡ (code_of_program (program_of c.program) (each note_of c.notes)).params)
  code_params = go r made
    where
      go : (r : Result (List Tree) Memory) → IfOk r (λ ps. map param_of ps ≡ each ty_param (program_of c.program).inputs) → IfOk r (λ ps. map param_of ps ≡ (code_of_program (program_of c.program) (each note_of c.notes)).params)
      go (Ok ps) h = h ∙ sym (params_again (program_of c.program).inputs)
      go (Err e) h = tt

  pub params_types : IfOk r (λ ps. each type_of (map param_of ps) ≡ each norm_ty (program_of c.program).inputs)
  params_types = go r made
    where
      go : (r : Result (List Tree) Memory) → IfOk r (λ ps. map param_of ps ≡ each ty_param (program_of c.program).inputs) → IfOk r (λ ps. each type_of (map param_of ps) ≡ each norm_ty (program_of c.program).inputs)
      go (Ok ps) h = ap (each type_of) h ∙ types_again (program_of c.program).inputs (inputs_printable (program_of c.program) (checked_typed c))
      go (Err e) h = tt
