-- The tests of single atoms and cells, and what they say of the whole list.
use Rattle.std.proofs.Common.{◌≡◌, refl, sym, ap, ◌∙◌, subst, ℕ, ◌+◌, ◌<◌, List, [], ◌∷◌, ◌++◌, append-nil, append_assoc, length, length-take-le, arith, take, drop, get_or, inl, inr}
use Rattle.std.proofs.lemmas.List.{take_more, take-append-drop}
use Rattle.core_syntax.specs.declared.span.Span.{Span}
use Rattle.core_syntax.specs.declared.expr.Expr.{Expr}
use Rattle.core_syntax.specs.declared.expr.Atom.{Atom}
use Rattle.core_syntax.specs.declared.ty.Ty.{Ty}
use Rattle.core_syntax.specs.Refine.{ty_of, tys_of, expr_of, exprs_of, atom_of, atoms_of}
use Rattle.core_syntax.specs.Syntax as syntax
use Rattle.core_syntax.specs.Word.{Word}
use Rattle.core_syntax.specs.TypeEqual.{Same}
use Rattle.core_syntax.specs.NormTypes.{norm_ty}
use Rattle.core_syntax.specs.Typing.{Context, Has, HasAtom}
use Rattle.core_syntax.specs.Blame.{expr_premises, atom_premises, later_atoms, later_cells, args_premises}
use Rattle.core_syntax.specs.Notes.{NodeNote}
use Rattle.core_syntax.proofs.Equality.{same_refl}
use Rattle.core_syntax.proofs.NormTyLemmas.{same_normal}
use Rattle.type_check.specs.declared.refusal.TypeRefusal.{TypeRefusal}
use Rattle.type_check.specs.Found.{Refuses, Found, FoundAtom}
use Rattle.type_check.specs.FoundParts.{FoundAtoms, FoundCells, FoundArgs}
use Rattle.type_check.proofs.exits.Refusing.{refused_as}
use Rattle.type_check.proofs.one_by_one.PartsLemmas.{atoms_found, atoms_blame, cells_found, cells_blame, args_found, args_blame, Paired}

-- normal types that differ aren't equal
pub not_same : (u t : syntax.Ty) → norm_ty u ≡ u → norm_ty t ≡ t → ¬ (u ≡ t) → ¬ Same u t
not_same u t p q ne h = ne (sym p ∙ same_normal u t h ∙ q)

is_same : (u t : syntax.Ty) → u ≡ t → Same u t
is_same u t e = subst (Same u) e (same_refl u)

-- ---- one part

module _ (Γ : Context) (t : syntax.Ty) (x : syntax.Atom) (u : syntax.Ty) (ns : List NodeNote) (f : FoundAtom Γ x u ns) where
  pub one_atom : u ≡ t → FoundAtoms Γ t (syntax.more_atoms x syntax.no_atoms) ns
  one_atom e = record {
    met = (f.met, ((u, f.has, is_same u t e), tt));
    have = (subst (HasAtom Γ x) e f.has, tt);
    notes = (ns, [], sym (append-nil ns), f.notes, refl);
  }

  pub other_atom : norm_ty u ≡ u → norm_ty t ≡ t → ¬ (u ≡ t) → (xs : syntax.Atoms) → (later_atoms Γ t (syntax.more_atoms x xs)).blames (17, syntax.atom_at x)
  other_atom p q ne xs = inr (f.met, inl (u, f.has, (not_same u t p q ne, refl)))

module _ (Γ : Context) (t : syntax.Ty) (x : syntax.Expr) (u : syntax.Ty) (ns : List NodeNote) (f : Found Γ x u ns) where
  pub one_cell : u ≡ t → FoundCells Γ t (syntax.more_exprs x syntax.no_exprs) ns
  one_cell e = record {
    met = (f.met, ((u, f.has, is_same u t e), tt));
    have = (subst (Has Γ x) e f.has, tt);
    notes = (ns, [], sym (append-nil ns), f.notes, refl);
  }

  pub other_cell : norm_ty u ≡ u → norm_ty t ≡ t → ¬ (u ≡ t) → (xs : syntax.Exprs) → (later_cells Γ t (syntax.more_exprs x xs)).blames (18, syntax.expr_at x)
  other_cell p q ne xs = inr (f.met, inl (u, f.has, (not_same u t p q ne, refl)))

-- a part that is refused itself is the one to blame
pub atom_refused : (Γ : Context) (t : syntax.Ty) (x : syntax.Atom) (r : TypeRefusal) → Refuses (atom_premises Γ x) r →
    (xs : syntax.Atoms) → Refuses (later_atoms Γ t (syntax.more_atoms x xs)) r
atom_refused Γ t x r h xs = refused_as (atom_premises Γ x) (later_atoms Γ t (syntax.more_atoms x xs)) (λ _ b. inl b) r h

pub cell_refused : (Γ : Context) (t : syntax.Ty) (x : syntax.Expr) (r : TypeRefusal) → Refuses (expr_premises Γ x) r →
    (xs : syntax.Exprs) → Refuses (later_cells Γ t (syntax.more_exprs x xs)) r
cell_refused Γ t x r h xs = refused_as (expr_premises Γ x) (later_cells Γ t (syntax.more_exprs x xs)) (λ _ b. inl b) r h

pub arg_refused : (Γ : Context) (t : syntax.Ty) (x : syntax.Expr) (r : TypeRefusal) → Refuses (expr_premises Γ x) r →
    (ts : syntax.Tys) (xs : syntax.Exprs) → Refuses (args_premises Γ (syntax.more_exprs x xs) (syntax.more_tys t ts)) r
arg_refused Γ t x r h ts xs = refused_as (expr_premises Γ x) (args_premises Γ (syntax.more_exprs x xs) (syntax.more_tys t ts)) (λ _ b. inl b) r h

-- ---- the part at a place of the list, behind those before it

one_more : {A : Type 0} (xs : List A) (k : ℕ) (x : A) → k < length xs → x ≡ get_or xs k x → take (k + 1) xs ≡ take k xs ++ x ∷ []
one_more xs k x lt is = take_more xs k x lt ∙ ap (λ y. take k xs ++ y ∷ []) (sym is)

whole : {A : Type 0} (xs : List A) (k : ℕ) (x : A) → k < length xs → x ≡ get_or xs k x → take k xs ++ x ∷ drop (k + 1) xs ≡ xs
whole xs k x lt is = sym (sym (take-append-drop (k + 1) xs) ∙ ap (λ l. l ++ drop (k + 1) xs) (one_more xs k x lt is) ∙ append_assoc (take k xs) (x ∷ []) (drop (k + 1) xs))

module _ (Γ : Context) (t : syntax.Ty) (xs : List Atom) (k : ℕ) (x : Atom) (lt : k < length xs) (is : x ≡ get_or xs k x)
    (ns : List NodeNote) (before : FoundAtoms Γ t (atoms_of (take k xs)) ns) where
  pub atoms_step : (ms : List NodeNote) → FoundAtoms Γ t (syntax.more_atoms (atom_of x) syntax.no_atoms) ms → FoundAtoms Γ t (atoms_of (take (k + 1) xs)) (ns ++ ms)
  atoms_step ms f = subst (λ l. FoundAtoms Γ t (atoms_of l) (ns ++ ms)) (sym (one_more xs k x lt is)) (atoms_found Γ t (take k xs) (x ∷ []) ns ms before f)

  pub atoms_refused : (r : TypeRefusal) → ((ys : syntax.Atoms) → Refuses (later_atoms Γ t (syntax.more_atoms (atom_of x) ys)) r) → Refuses (later_atoms Γ t (atoms_of xs)) r
  atoms_refused r h =
      subst (λ l. Refuses (later_atoms Γ t (atoms_of l)) r) (whole xs k x lt is)
      (refused_as (later_atoms Γ t (atoms_of (x ∷ drop (k + 1) xs))) (later_atoms Γ t (atoms_of (take k xs ++ x ∷ drop (k + 1) xs)))
      (λ q b. atoms_blame Γ t (take k xs) (x ∷ drop (k + 1) xs) q before.met b) r (h (atoms_of (drop (k + 1) xs))))

module _ (Γ : Context) (t : syntax.Ty) (xs : List Expr) (k : ℕ) (x : Expr) (lt : k < length xs) (is : x ≡ get_or xs k x)
    (ns : List NodeNote) (before : FoundCells Γ t (exprs_of (take k xs)) ns) where
  pub cells_step : (ms : List NodeNote) → FoundCells Γ t (syntax.more_exprs (expr_of x) syntax.no_exprs) ms → FoundCells Γ t (exprs_of (take (k + 1) xs)) (ns ++ ms)
  cells_step ms f = subst (λ l. FoundCells Γ t (exprs_of l) (ns ++ ms)) (sym (one_more xs k x lt is)) (cells_found Γ t (take k xs) (x ∷ []) ns ms before f)

  pub cells_refused : (r : TypeRefusal) → ((ys : syntax.Exprs) → Refuses (later_cells Γ t (syntax.more_exprs (expr_of x) ys)) r) → Refuses (later_cells Γ t (exprs_of xs)) r
  cells_refused r h =
      subst (λ l. Refuses (later_cells Γ t (exprs_of l)) r) (whole xs k x lt is)
      (refused_as (later_cells Γ t (exprs_of (x ∷ drop (k + 1) xs))) (later_cells Γ t (exprs_of (take k xs ++ x ∷ drop (k + 1) xs)))
      (λ q b. cells_blame Γ t (take k xs) (x ∷ drop (k + 1) xs) q before.met b) r (h (exprs_of (drop (k + 1) xs))))

module _ (Γ : Context) (ts : List Ty) (xs : List Expr) (k : ℕ) (t : Ty) (x : Expr) (lt : k < length xs) (is : x ≡ get_or xs k x)
    (lt' : k < length ts) (is' : t ≡ get_or ts k t) (ws : List Word) (ns : List NodeNote) (before : FoundArgs Γ (tys_of (take k ts)) (exprs_of (take k xs)) ws ns) where
  paired : Paired (take k ts) (take k xs)
  paired = omega (arith, length-take-le k ts (omega arith), length-take-le k xs (omega arith))

  pub args_step : (w : Word) (ms : List NodeNote) → FoundArgs Γ (syntax.more_tys (ty_of t) syntax.no_tys) (syntax.more_exprs (expr_of x) syntax.no_exprs) (w ∷ []) ms →
      FoundArgs Γ (tys_of (take (k + 1) ts)) (exprs_of (take (k + 1) xs)) (ws ++ w ∷ []) (ns ++ ms)
  args_step w ms f =
      subst (λ (l : List Ty). FoundArgs Γ (tys_of l) (exprs_of (take (k + 1) xs)) (ws ++ w ∷ []) (ns ++ ms)) (sym (one_more ts k t lt' is'))
      (subst (λ (l : List Expr). FoundArgs Γ (tys_of (take k ts ++ t ∷ [])) (exprs_of l) (ws ++ w ∷ []) (ns ++ ms)) (sym (one_more xs k x lt is))
      (args_found Γ (take k ts) (t ∷ []) (take k xs) (x ∷ []) ws (w ∷ []) ns ms paired before f))

  pub args_refused : (r : TypeRefusal) → ((us : syntax.Tys) (ys : syntax.Exprs) → Refuses (args_premises Γ (syntax.more_exprs (expr_of x) ys) (syntax.more_tys (ty_of t) us)) r) →
      Refuses (args_premises Γ (exprs_of xs) (tys_of ts)) r
  args_refused r h =
      subst (λ (l : List Ty). Refuses (args_premises Γ (exprs_of xs) (tys_of l)) r) (whole ts k t lt' is')
      (subst (λ (l : List Expr). Refuses (args_premises Γ (exprs_of l) (tys_of (take k ts ++ t ∷ drop (k + 1) ts))) r) (whole xs k x lt is)
      (refused_as (args_premises Γ (exprs_of (x ∷ drop (k + 1) xs)) (tys_of (t ∷ drop (k + 1) ts)))
      (args_premises Γ (exprs_of (take k xs ++ x ∷ drop (k + 1) xs)) (tys_of (take k ts ++ t ∷ drop (k + 1) ts)))
      (λ q b. args_blame Γ (take k ts) (t ∷ drop (k + 1) ts) (take k xs) (x ∷ drop (k + 1) xs) q paired before.met b) r
      (h (tys_of (drop (k + 1) ts)) (exprs_of (drop (k + 1) xs)))))

-- ---- parts whose types differ, at their places, where the types are known as v and w

pub atom_differs : (Γ : Context) (t : syntax.Ty) (x : syntax.Atom) (u : syntax.Ty) (ns : List NodeNote) → FoundAtom Γ x u ns → (at : Span) → syntax.atom_at x ≡ at →
    (v w : syntax.Ty) → v ≡ u → w ≡ t → norm_ty v ≡ v → norm_ty w ≡ w → ¬ (v ≡ w) → (xs : syntax.Atoms) → (later_atoms Γ t (syntax.more_atoms x xs)).blames (17, at)
atom_differs Γ t x u ns f at is v w e g p q ne xs =
    subst (λ at. (later_atoms Γ t (syntax.more_atoms x xs)).blames (17, at)) is
    (other_atom Γ t x u ns f (subst (λ u. norm_ty u ≡ u) e p) (subst (λ t. norm_ty t ≡ t) g q) (λ h. ne (e ∙ h ∙ sym g)) xs)

pub cell_differs : (Γ : Context) (t : syntax.Ty) (x : syntax.Expr) (u : syntax.Ty) (ns : List NodeNote) → Found Γ x u ns → (at : Span) → syntax.expr_at x ≡ at →
    (v w : syntax.Ty) → v ≡ u → w ≡ t → norm_ty v ≡ v → norm_ty w ≡ w → ¬ (v ≡ w) → (xs : syntax.Exprs) → (later_cells Γ t (syntax.more_exprs x xs)).blames (18, at)
cell_differs Γ t x u ns f at is v w e g p q ne xs =
    subst (λ at. (later_cells Γ t (syntax.more_exprs x xs)).blames (18, at)) is
    (other_cell Γ t x u ns f (subst (λ u. norm_ty u ≡ u) e p) (subst (λ t. norm_ty t ≡ t) g q) (λ h. ne (e ∙ h ∙ sym g)) xs)
