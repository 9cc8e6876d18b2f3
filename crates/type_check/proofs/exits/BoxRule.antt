-- A box: what is told at each of its exits.
use Rattle.std.proofs.Common.{◌≡◌, ◌∙◌, refl, sym, ap, subst, List, length, None}
use Rattle.std.specs.Prelude.{Result, Ok, Err}
use Rattle.core_syntax.specs.declared.span.Span.{Span}
use Rattle.core_syntax.specs.declared.index.Sort.{Sort}
use Rattle.core_syntax.specs.declared.norm.NormIndex.{NormIndex}
use Rattle.core_syntax.specs.declared.ty.Ty.{Ty as Tree}
use Rattle.core_syntax.specs.Syntax.{Index, Ty, Sigma, Expr, Boxed, expr_at, ty_at}
use Rattle.core_syntax.specs.Lists.{each, EachTwo}
use Rattle.core_syntax.specs.Sorts.{IsSorted}
use Rattle.core_syntax.specs.Kinds.{IsWellFormed}
use Rattle.core_syntax.specs.Made.{HoldsArrays}
use Rattle.core_syntax.specs.TypeEqual.{Same}
use Rattle.core_syntax.specs.Subst.{kept, put_all, with_indices}
use Rattle.core_syntax.specs.NormTypes.{norm_ty, measure_ty}
use Rattle.core_syntax.specs.Notes.{NodeNote}
use Rattle.core_syntax.specs.Refine.{ty_of}
use Rattle.core_syntax.specs.Typing.{Context, Has, IsAtomType}
use Rattle.core_syntax.specs.Blame.{Premises, premise, expr_premises, atom_premises, measure, with_any, ◌then◌, IsSigmaAtom, of_sigma_atom, written_atom, written_indices}
use Rattle.core_syntax.proofs.Equality.{same_sym, same-put}
use Rattle.core_syntax.proofs.NormTyLemmas.{norm_same, same_normal}
use Rattle.core_syntax.proofs.Closed.{has_same}
use Rattle.type_equal.specs.Put.{index_tree}
use Rattle.type_check.specs.declared.refusal.TypeRefusal.{TypeRefusal}
use Rattle.type_check.specs.declared.refusal.TypeRefusal.TheVariants.{Refused}
use Rattle.type_check.specs.declared.boxes.OpenedBox.{OpenedBox}
use Rattle.type_check.specs.Found.{Refuses, Found, FoundAtom}
use Rattle.type_check.specs.Written.{Tells, AreNormalIndicesOf}
use Rattle.type_check.specs.Boxes.{IsOpenedBox, FitsBox}
use Rattle.type_check.proofs.exits.Refusing.{in_first, in_later, in_any, fails}
use Rattle.type_check.proofs.normal_forms.NormSound.{formed_again, arrays_again}
use Rattle.type_check.proofs.substitution.Instances.{with_indices_formed}
use Rattle.type_check.proofs.substitution.GivenSame.{with_indices_normal, indices_sorted}
use Rattle.type_check.proofs.trees.FramedLemmas.{measure_same}

-- the premises behind the type's own
abbrev content : Context → List Index → Expr → List Sort → Ty → Premises
content Γ is e ss b = expr_premises Γ e then with_any (Has Γ e) (λ u. premise 26 (expr_at e) (Same u (with_indices is b)))

abbrev counted : Context → Span → List Index → Expr → List Sort → Ty → Premises
counted Γ at is e ss b = premise 20 at (length is ≡ length ss) then written_indices Γ ss is then measure (measure_ty (with_indices is b)) at then content Γ is e ss b

-- the type isn't as it should be
pub ill_written : (Γ : Context) (at : Span) (is : List Index) (t : Ty) (e : Expr) (r : TypeRefusal) → Refuses (written_atom Γ t) r → Refuses (atom_premises Γ (Boxed at is e t)) r
ill_written Γ at is t e r h = in_first (written_atom Γ t) (premise 25 (ty_at t) (IsSigmaAtom t) then of_sigma_atom t (counted Γ at is e)) r h

-- it is no sum
pub no_sum : (Γ : Context) (at : Span) (is : List Index) (t : Ty) (e : Expr) (place : Span) → (written_atom Γ t).met → (¬ IsSigmaAtom t) → place ≡ ty_at t → Refuses (atom_premises Γ (Boxed at is e t)) (Refused 25 place)
no_sum Γ at is t e place m other is_place =
    in_later (written_atom Γ t) (premise 25 (ty_at t) (IsSigmaAtom t) then of_sigma_atom t (counted Γ at is e)) (Refused 25 place) m
    (in_first (premise 25 (ty_at t) (IsSigmaAtom t)) (of_sigma_atom t (counted Γ at is e)) (Refused 25 place) (fails 25 (ty_at t) place (IsSigmaAtom t) other is_place))

module _ (Γ : Context) (at : Span) (is : List Index) (place : Span) (ss : List Sort) (b : Ty) (tested : (written_atom Γ (Sigma place ss b)).met) where
  behind : (e : Expr) (r : TypeRefusal) → Refuses (counted Γ at is e ss b) r → Refuses (atom_premises Γ (Boxed at is e (Sigma place ss b))) r
  behind e r h =
      in_later (written_atom Γ (Sigma place ss b)) (premise 25 place (IsSigmaAtom (Sigma place ss b)) then counted Γ at is e ss b) r tested
      (in_later (premise 25 place (IsSigmaAtom (Sigma place ss b))) (counted Γ at is e ss b) r tt h)

  pub miscounted : (e : Expr) → (length is ≡ length ss → ⊥) → Refuses (atom_premises Γ (Boxed at is e (Sigma place ss b))) (Refused 20 at)
  miscounted e other =
      behind e (Refused 20 at)
      (in_first (premise 20 at (length is ≡ length ss)) (written_indices Γ ss is then measure (measure_ty (with_indices is b)) at then content Γ is e ss b) (Refused 20 at) (fails 20 at at (length is ≡ length ss) other refl))

  module _ (len : length is ≡ length ss) where
    pub ill_given : (e : Expr) (r : TypeRefusal) → Refuses (written_indices Γ ss is) r → Refuses (atom_premises Γ (Boxed at is e (Sigma place ss b))) r
    ill_given e r h =
        behind e r
        (in_later (premise 20 at (length is ≡ length ss)) (written_indices Γ ss is then measure (measure_ty (with_indices is b)) at then content Γ is e ss b) r len
        (in_first (written_indices Γ ss is) (measure (measure_ty (with_indices is b)) at then content Γ is e ss b) r h))

    module _ (with : List NormIndex) (told : (written_indices Γ ss is).met × AreNormalIndicesOf Γ ss is with) (atom : IsAtomType Γ (Sigma place ss b)) where
      normal : Same (with_indices is b) (with_indices (each index_tree with) b)
      normal = with_indices_normal Γ ss is with b told.1 atom.1

      pub too_large : (e : Expr) (r : TypeRefusal) → Refuses (measure (measure_ty (with_indices (each index_tree with) b)) at) r → Refuses (atom_premises Γ (Boxed at is e (Sigma place ss b))) r
      too_large e r h =
          behind e r
          (in_later (premise 20 at (length is ≡ length ss)) (written_indices Γ ss is then measure (measure_ty (with_indices is b)) at then content Γ is e ss b) r len
          (in_later (written_indices Γ ss is) (measure (measure_ty (with_indices is b)) at then content Γ is e ss b) r told.0
          (in_first (measure (measure_ty (with_indices is b)) at) (content Γ is e ss b) r
          (subst (λ o. Refuses (measure o at) r) (sym (measure_same (with_indices is b) (with_indices (each index_tree with) b) normal)) h))))

      pub opened : (o : OpenedBox) → ty_of o.ty ≡ norm_ty (Sigma place ss b) → ty_of o.content ≡ norm_ty (with_indices (each index_tree with) b) → measure_ty (with_indices (each index_tree with) b) ≡ None
          → IsOpenedBox Γ is (Sigma place ss b) o
      opened o e f fits = record {
        tested = tested;
        atom = atom;
        place = place;
        sorts = ss;
        body = b;
        form = refl;
        counts = len;
        given = told.0;
        sorted = indices_sorted Γ ss is with told.1;
        fits = measure_same (with_indices is b) (with_indices (each index_tree with) b) normal ∙ fits;
        ty_is = e;
        content_is = f ∙ sym (same_normal (with_indices is b) (with_indices (each index_tree with) b) normal);
      }

  -- ---- the content

  module _ (len : length is ≡ length ss) (given : (written_indices Γ ss is).met) (fits : measure_ty (with_indices is b) ≡ None) where
    inside : (e : Expr) (r : TypeRefusal) → Refuses (content Γ is e ss b) r → Refuses (atom_premises Γ (Boxed at is e (Sigma place ss b))) r
    inside e r h =
        behind e r
        (in_later (premise 20 at (length is ≡ length ss)) (written_indices Γ ss is then measure (measure_ty (with_indices is b)) at then content Γ is e ss b) r len
        (in_later (written_indices Γ ss is) (measure (measure_ty (with_indices is b)) at then content Γ is e ss b) r given
        (in_later (measure (measure_ty (with_indices is b)) at) (content Γ is e ss b) r fits h)))

    other_content : (e : Expr) (t : Ty) (ns : List NodeNote) (here : Span) → Found Γ e t ns → expr_at e ≡ here → (¬ Same t (with_indices is b)) → Refuses (atom_premises Γ (Boxed at is e (Sigma place ss b))) (Refused 26 here)
    other_content e t ns here found at_here other =
        inside e (Refused 26 here)
        (in_later (expr_premises Γ e) (with_any (Has Γ e) (λ u. premise 26 (expr_at e) (Same u (with_indices is b)))) (Refused 26 here) found.met
        (in_any (Has Γ e) (λ u. premise 26 (expr_at e) (Same u (with_indices is b))) t (Refused 26 here) found.has (fails 26 (expr_at e) here (Same t (with_indices is b)) other (sym at_here))))

    found_box : (e : Expr) (t : Ty) (ns : List NodeNote) → Found Γ e t ns → Same t (with_indices is b) → EachTwo (IsSorted Γ.sorts) ss is → IsAtomType Γ (Sigma place ss b) → HoldsArrays (Sigma place ss b)
        → FoundAtom Γ (Boxed at is e (Sigma place ss b)) (norm_ty (Sigma place ss b)) ns
    found_box e t ns found s sorted atom holds = record {
      met = (tested, (tt, (len, (given, (fits, (found.met, (t, found.has, s)))))));
      has = (atom, (sorted, has_same Γ e t (with_indices is b) found.has s (with_indices_formed Γ.types Γ.sorts ss is b sorted atom.1)), (formed, same_sym (norm_ty (Sigma place ss b)) (Sigma place ss b) (norm_same (Sigma place ss b))));
      sound = record { formed = formed; top = refl; inside = arrays_again (Sigma place ss b) holds };
      notes = found.notes;
    }
      where
        formed : IsWellFormed Γ.types Γ.sorts (norm_ty (Sigma place ss b))
        formed = formed_again Γ.types Γ.sorts (Sigma place ss b) atom.1

module _ (Γ : Context) (at : Span) (is : List Index) (t : Ty) (o : OpenedBox) (opened : IsOpenedBox Γ is t o) where
  tested_sum : (written_atom Γ (Sigma opened.place opened.sorts opened.body)).met
  tested_sum = subst (λ t. (written_atom Γ t).met) opened.form opened.tested

  atom_sum : IsAtomType Γ (Sigma opened.place opened.sorts opened.body)
  atom_sum = subst (IsAtomType Γ) opened.form opened.atom

  -- where the content is refused, the box is
  pub content_refused : (e : Expr) (r : TypeRefusal) → Refuses (expr_premises Γ e) r → Refuses (atom_premises Γ (Boxed at is e t)) r
  content_refused e r h =
      subst (λ t. Refuses (atom_premises Γ (Boxed at is e t)) r) (sym opened.form)
      (inside Γ at is opened.place opened.sorts opened.body tested_sum opened.counts opened.given opened.fits e r
      (in_first (expr_premises Γ e) (with_any (Has Γ e) (λ u. premise 26 (expr_at e) (Same u (with_indices is opened.body)))) r h))

  -- the content is of another type
  pub misfits : (e : Expr) (u : Ty) (ns : List NodeNote) (here : Span) → Found Γ e u ns → expr_at e ≡ here → norm_ty u ≡ u → (u ≡ ty_of o.content → ⊥) → Refuses (atom_premises Γ (Boxed at is e t)) (Refused 26 here)
  misfits e u ns here found at_here normal other =
      subst (λ t. Refuses (atom_premises Γ (Boxed at is e t)) (Refused 26 here)) (sym opened.form)
      (other_content Γ at is opened.place opened.sorts opened.body tested_sum opened.counts opened.given opened.fits e u ns here found at_here
      (λ s. other (sym normal ∙ same_normal u (with_indices is opened.body) s ∙ sym opened.content_is)))

  -- it is of the type
  pub closed : (e : Expr) (u : Ty) (ns : List NodeNote) → Found Γ e u ns → u ≡ ty_of o.content → HoldsArrays t → FoundAtom Γ (Boxed at is e t) (ty_of o.ty) ns
  closed e u ns found same holds =
      subst (λ t. FoundAtom Γ (Boxed at is e t) (ty_of o.ty) ns) (sym opened.form)
      (subst (λ n. FoundAtom Γ (Boxed at is e (Sigma opened.place opened.sorts opened.body)) n ns) (ap norm_ty (sym opened.form) ∙ sym opened.ty_is)
      (found_box Γ at is opened.place opened.sorts opened.body tested_sum opened.counts opened.given opened.fits e u ns found
      (subst (λ x. Same x (with_indices is opened.body)) (sym (same ∙ opened.content_is)) (norm_same (with_indices is opened.body)))
      opened.sorted atom_sum (subst HoldsArrays opened.form holds)))

-- ---- the type of the content

module _ (Γ : Context) (at : Span) (is : List Index) (t : Ty) (place : Span) (ss : List Sort) (b : Ty) (form : t ≡ Sigma place ss b) (tested : (written_atom Γ t).met) where
  at_sum : (written_atom Γ (Sigma place ss b)).met
  at_sum = subst (λ t. (written_atom Γ t).met) form tested

  pub sum_miscounted : (e : Expr) → (length is ≡ length ss → ⊥) → Refuses (atom_premises Γ (Boxed at is e t)) (Refused 20 at)
  sum_miscounted e other = subst (λ t. Refuses (atom_premises Γ (Boxed at is e t)) (Refused 20 at)) (sym form) (miscounted Γ at is place ss b at_sum e other)

  pub sum_ill_given : length is ≡ length ss → (e : Expr) (r : TypeRefusal) → Refuses (written_indices Γ ss is) r → Refuses (atom_premises Γ (Boxed at is e t)) r
  sum_ill_given len e r h = subst (λ t. Refuses (atom_premises Γ (Boxed at is e t)) r) (sym form) (ill_given Γ at is place ss b at_sum len e r h)

  pub content_told : length is ≡ length ss → IsAtomType Γ t → (with : List NormIndex) → (written_indices Γ ss is).met × AreNormalIndicesOf Γ ss is with → (r : Result Tree TypeRefusal)
      → Tells (measure (measure_ty (with_indices (each index_tree with) (norm_ty b))) at) (λ n. ty_of n ≡ norm_ty (with_indices (each index_tree with) (norm_ty b))) r → FitsBox Γ at is t r
  content_told len atom with told (Ok n) h = λ ty ty_is.
      subst (λ t. IsOpenedBox Γ is t (record { ty = ty; content = n })) (sym form)
      (opened Γ at is place ss b at_sum len with told (subst (IsAtomType Γ) form atom) (record { ty = ty; content = n }) (ty_is ∙ ap norm_ty form)
      (h.1 ∙ same_normal (with_indices (each index_tree with) (norm_ty b)) (with_indices (each index_tree with) b) (same-put (put_all (each index_tree with)) kept (norm_ty b) b (norm_same b)))
      (sym (measure_same (with_indices (each index_tree with) (norm_ty b)) (with_indices (each index_tree with) b) (same-put (put_all (each index_tree with)) kept (norm_ty b) b (norm_same b))) ∙ h.0))
  content_told len atom with told (Err r) h = λ e.
      subst (λ t. Refuses (atom_premises Γ (Boxed at is e t)) r) (sym form)
      (too_large Γ at is place ss b at_sum len with told (subst (IsAtomType Γ) form atom) e r
      (subst (λ o. Refuses (measure o at) r) (measure_same (with_indices (each index_tree with) (norm_ty b)) (with_indices (each index_tree with) b) (same-put (put_all (each index_tree with)) kept (norm_ty b) b (norm_same b))) h))
