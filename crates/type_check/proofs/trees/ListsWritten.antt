-- Lists of types that are written.
use Rattle.std.proofs.Common.{◌≡◌, ◌∙◌, sym, ap, subst, ℕ, ◌+◌, ◌<◌, List, [], ◌∷◌, ◌++◌, length, drop, get_or, append-nil}
use Rattle.std.proofs.lemmas.List.{drop_more}
use Rattle.std.specs.Prelude.{Ok}
use Rattle.core_syntax.specs.declared.ty.Ty.{Ty as Tree}
use Rattle.core_syntax.specs.Syntax.{ty_items}
use Rattle.core_syntax.specs.Lists.{each}
use Rattle.core_syntax.specs.Refine.{ty_of, tys_of}
use Rattle.core_syntax.specs.Typing.{Context}
use Rattle.core_syntax.specs.Blame.{written, written_atom, all_written, all_written_atoms}
use Rattle.type_check.specs.declared.refusal.TypeRefusal.{TypeRefusal}
use Rattle.type_check.specs.Found.{Refuses}
use Rattle.type_check.specs.Written.{Tells, IsNormalOf, IsNormalAtomOf, AreNormalOf, AreNormalAtomsOf}
use Rattle.type_check.proofs.exits.Refusing.{in_first, in_later}
use Rattle.type_check.proofs.one_by_one.Loops.{Leaves, next}

-- what is left from a place
abbrev pub AtomsLeave : Context → List Tree → List Tree → List Tree → Type 0
AtomsLeave Γ whole left done =
    Leaves (all_written_atoms Γ (each ty_of whole)) (all_written_atoms Γ (each ty_of left)) (AreNormalAtomsOf Γ (each ty_of whole)) (AreNormalAtomsOf Γ (each ty_of left)) done

abbrev pub TypesLeave : Context → List Tree → List Tree → List Tree → Type 0
TypesLeave Γ whole left done =
    Leaves (all_written Γ (tys_of whole)) (all_written Γ (tys_of left)) (AreNormalOf Γ (ty_items (tys_of whole))) (AreNormalOf Γ (ty_items (tys_of left))) done

module _ (Γ : Context) (whole done now : List Tree) (k : ℕ) (x : Tree) (lt : k < length whole) (is : x ≡ get_or whole k x) where
  behind : drop k whole ≡ x ∷ drop (k + 1) whole
  behind = drop_more whole k x lt ∙ ap (λ y. y ∷ drop (k + 1) whole) (sym is)

  pub atom_next : (n : Tree) → now ≡ done ++ n ∷ [] → AtomsLeave Γ whole (drop k whole) done → Tells (written_atom Γ (ty_of x)) (IsNormalAtomOf Γ (ty_of x)) (Ok n)
      → AtomsLeave Γ whole (drop (k + 1) whole) now
  atom_next n e l told =
      next _ _ _ _ _ _ done now n e (subst (λ left. AtomsLeave Γ whole left done) behind l)
      (λ m. (told.0, m)) (λ ns s. (told.1, s)) (λ r h. in_later (written_atom Γ (ty_of x)) (all_written_atoms Γ (each ty_of (drop (k + 1) whole))) r told.0 h)

  pub atom_refused : (r : TypeRefusal) → AtomsLeave Γ whole (drop k whole) done → Refuses (written_atom Γ (ty_of x)) r → Refuses (all_written_atoms Γ (each ty_of whole)) r
  atom_refused r l h =
      l.fail r (subst (λ left. Refuses (all_written_atoms Γ (each ty_of left)) r) (sym behind) (in_first (written_atom Γ (ty_of x)) (all_written_atoms Γ (each ty_of (drop (k + 1) whole))) r h))

  pub type_next : (n : Tree) → now ≡ done ++ n ∷ [] → TypesLeave Γ whole (drop k whole) done → Tells (written Γ (ty_of x)) (IsNormalOf Γ (ty_of x)) (Ok n)
      → TypesLeave Γ whole (drop (k + 1) whole) now
  type_next n e l told =
      next _ _ _ _ _ _ done now n e (subst (λ left. TypesLeave Γ whole left done) behind l)
      (λ m. (told.0, m)) (λ ns s. (told.1, s)) (λ r h. in_later (written Γ (ty_of x)) (all_written Γ (tys_of (drop (k + 1) whole))) r told.0 h)

  pub type_refused : (r : TypeRefusal) → TypesLeave Γ whole (drop k whole) done → Refuses (written Γ (ty_of x)) r → Refuses (all_written Γ (tys_of whole)) r
  type_refused r l h =
      l.fail r (subst (λ left. Refuses (all_written Γ (tys_of left)) r) (sym behind) (in_first (written Γ (ty_of x)) (all_written Γ (tys_of (drop (k + 1) whole))) r h))

-- nothing is left
module _ (Γ : Context) (whole left done : List Tree) (none : left ≡ []) where
  pub atoms_end : AtomsLeave Γ whole left done → (all_written_atoms Γ (each ty_of whole)).met × AreNormalAtomsOf Γ (each ty_of whole) done
  atoms_end l =
      let end = (subst (λ left. AtomsLeave Γ whole left done) none l).pass [] tt tt in
      (end.0, subst (AreNormalAtomsOf Γ (each ty_of whole)) (append-nil done) end.1)

  pub types_end : TypesLeave Γ whole left done → (all_written Γ (tys_of whole)).met × AreNormalOf Γ (ty_items (tys_of whole)) done
  types_end l =
      let end = (subst (λ left. TypesLeave Γ whole left done) none l).pass [] tt tt in
      (end.0, subst (AreNormalOf Γ (ty_items (tys_of whole))) (append-nil done) end.1)
