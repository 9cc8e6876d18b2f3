-- A type is well formed exactly where nothing in it is blamed.
use Rattle.std.proofs.Common.{◌≡◌, refl, sym, subst, ℕ, ◌+◌, length, List, None}
use Rattle.core_syntax.specs.declared.index.Sort.{Sort}
use Rattle.core_syntax.specs.declared.index.Sort.TheVariants as sort
use Rattle.core_syntax.specs.Lists.{onto}
use Rattle.core_syntax.specs.Syntax.{Ty, BaseTy, TyVar, Fun, Forall, Pi, Sigma, Arr, Tys, no_tys, more_tys, ty_at, index_at}
use Rattle.core_syntax.specs.Sorts.{own_sort, is_sort, refuse_unless, inner_blame}
use Rattle.core_syntax.specs.Kinds.{IsWellFormed, AreWellFormed, is_atom_kind, kind_blame, kinds_blame}
use Rattle.core_syntax.specs.Made.{TyInScope, TysInScope}
use Rattle.kind_check.proofs.ContextLemmas.{length-onto}
use Rattle.kind_check.proofs.SortLemmas.{is_some, first_none, first_both, unless_none, unless_true, own_is, sorted_from, sorted_to}

mutual
  pub formed_from : (types : ℕ) (sorts : List Sort) (t : Ty) → TyInScope types (length sorts) t → kind_blame sorts t ≡ None → IsWellFormed types sorts t
  formed_from types sorts (BaseTy at b) h e = tt
  formed_from types sorts (TyVar at k) h e = h
  formed_from types sorts (Fun at ts r) h e =
      let both = first_none (kinds_blame sorts ts) (kind_blame sorts r) e in
      (all_formed_from types sorts ts h.0 both.0, formed_from types sorts r h.1 both.1)
  formed_from types sorts (Forall at n t) h e = formed_from (n + types) sorts t h.1 e
  formed_from types sorts (Pi at ss t) h e = formed_from types (onto ss sorts) t (subst (λ n. TyInScope types n t) (sym (length-onto ss sorts)) h.1) e
  formed_from types sorts (Sigma at ss t) h e = formed_from types (onto ss sorts) t (subst (λ n. TyInScope types n t) (sym (length-onto ss sorts)) h.1) e
  formed_from types sorts (Arr at t i) h e =
      let a = first_none (refuse_unless (is_atom_kind t) 15 (ty_at t)) _ e in
      let b = first_none (refuse_unless (is_sort sort.Shape (own_sort sorts i)) 14 (index_at i)) _ a.1 in
      let c = first_none (kind_blame sorts t) (inner_blame sorts i) b.1 in
      (unless_none (is_atom_kind t) 15 (ty_at t) a.0, sorted_from sorts sort.Shape i (is_some sort.Shape (own_sort sorts i) (unless_none _ _ _ b.0)) c.1, formed_from types sorts t h.0 c.0)

  all_formed_from : (types : ℕ) (sorts : List Sort) (ts : Tys) → TysInScope types (length sorts) ts → kinds_blame sorts ts ≡ None → AreWellFormed types sorts ts
  all_formed_from types sorts no_tys h e = tt
  all_formed_from types sorts (more_tys t ts) h e =
      let both = first_none (kind_blame sorts t) (kinds_blame sorts ts) e in
      (formed_from types sorts t h.0 both.0, all_formed_from types sorts ts h.1 both.1)

mutual
  pub formed_to : (types : ℕ) (sorts : List Sort) (t : Ty) → IsWellFormed types sorts t → kind_blame sorts t ≡ None
  formed_to types sorts (BaseTy at b) h = refl
  formed_to types sorts (TyVar at k) h = refl
  formed_to types sorts (Fun at ts r) h = first_both (kinds_blame sorts ts) (kind_blame sorts r) (all_formed_to types sorts ts h.0) (formed_to types sorts r h.1)
  formed_to types sorts (Forall at n t) h = formed_to (n + types) sorts t h
  formed_to types sorts (Pi at ss t) h = formed_to types (onto ss sorts) t h
  formed_to types sorts (Sigma at ss t) h = formed_to types (onto ss sorts) t h
  formed_to types sorts (Arr at t i) h =
      let shape = sorted_to sorts sort.Shape i h.1 in
      first_both (refuse_unless (is_atom_kind t) 15 (ty_at t)) _ (unless_true (is_atom_kind t) 15 (ty_at t) h.0)
      (first_both (refuse_unless (is_sort sort.Shape (own_sort sorts i)) 14 (index_at i)) _ (unless_true (is_sort sort.Shape (own_sort sorts i)) 14 (index_at i) (own_is sort.Shape (own_sort sorts i) shape.0))
      (first_both (kind_blame sorts t) (inner_blame sorts i) (formed_to types sorts t h.2) shape.1))

  all_formed_to : (types : ℕ) (sorts : List Sort) (ts : Tys) → AreWellFormed types sorts ts → kinds_blame sorts ts ≡ None
  all_formed_to types sorts no_tys h = refl
  all_formed_to types sorts (more_tys t ts) h = first_both (kind_blame sorts t) (kinds_blame sorts ts) (formed_to types sorts t h.0) (all_formed_to types sorts ts h.1)
