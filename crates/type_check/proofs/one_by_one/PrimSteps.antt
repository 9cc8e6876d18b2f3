-- A primitive: its type is the normal form of that of the table.
use Rattle.std.proofs.Common.{◌≡◌, refl, sym, subst, true, [], Ok, Err, Result, IfOk, IfErr}
use Rattle.core_syntax.specs.declared.primitive.Primitive.{Primitive}
use Rattle.core_syntax.specs.declared.span.Span.{Span}
use Rattle.core_syntax.specs.declared.ty.Ty.{Ty as Tree}
use Rattle.core_syntax.specs.Syntax.{Ty, BaseTy, TyVar, Fun, Forall, Pi, Sigma, Arr, PrimAtom}
use Rattle.core_syntax.specs.Kinds.{is_atom_kind}
use Rattle.core_syntax.specs.NormTypes.{norm_ty}
use Rattle.core_syntax.specs.Prims.{prim_type}
use Rattle.core_syntax.specs.Refine.{ty_of}
use Rattle.core_syntax.specs.Typing.{Context}
use Rattle.core_syntax.specs.Blame.{atom_premises}
use Rattle.core_syntax.proofs.Equality.{same_sym}
use Rattle.core_syntax.proofs.NormTyLemmas.{norm_same}
use Rattle.prim_table.proofs.TypeLaws.{prim_formed, prim_atom, prim_arrays}
use Rattle.type_check.specs.declared.refusal.TypeRefusal.{TypeRefusal}
use Rattle.type_check.specs.declared.refusal.TypeRefusal.TheVariants.{Memory}
use Rattle.type_check.specs.Answers.{AtomAnswers}
use Rattle.type_check.specs.Found.{FoundAtom}
use Rattle.type_check.specs.State.{State}
use Rattle.type_check.proofs.one_by_one.NodeLemmas.{no_memory}
use Rattle.type_check.proofs.normal_forms.NormSound.{formed_again, arrays_again}
use Rattle.type_check.proofs.one_by_one.Steps.{at_first}

atom_normal : (t : Ty) → is_atom_kind t ≡ true → is_atom_kind (norm_ty t) ≡ true
atom_normal (BaseTy at b) h = h
atom_normal (TyVar at k) h = h
atom_normal (Fun at ts r) h = h
atom_normal (Forall at n t) h = h
atom_normal (Pi at ss t) h = h
atom_normal (Sigma at ss t) h = h
atom_normal (Arr at t i) h = h

prim_in : (Γ : Context) (at : Span) (p : Primitive) → FoundAtom Γ (PrimAtom at p) (norm_ty (prim_type p)) []
prim_in Γ at p = record {
  met = tt;
  has = (formed_again Γ.types Γ.sorts (prim_type p) (prim_formed Γ.types Γ.sorts p), same_sym (norm_ty (prim_type p)) (prim_type p) (norm_same (prim_type p)));
  sound = record {
    formed = formed_again Γ.types Γ.sorts (prim_type p) (prim_formed Γ.types Γ.sorts p);
    top = atom_normal (prim_type p) (prim_atom p);
    inside = arrays_again (prim_type p) (prim_arrays p);
  };
  notes = refl;
}

pub prim_found : (s : State) (at : Span) (p : Primitive) (o : Result Tree TypeRefusal) → IfOk o (λ t. ty_of t ≡ norm_ty (prim_type p)) → IfErr o (λ e. e ≡ Memory) → AtomAnswers s s (PrimAtom at p) o
prim_found s at p (Err r) is none = λ Γ l. no_memory (atom_premises Γ (PrimAtom at p)) r none
prim_found s at p (Ok t) is none = at_first (λ Γ. FoundAtom Γ (PrimAtom at p) (ty_of t)) s (λ Γ. subst (λ u. FoundAtom Γ (PrimAtom at p) u []) (sym is) (prim_in Γ at p))
