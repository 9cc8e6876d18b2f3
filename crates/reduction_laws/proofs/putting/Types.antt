-- Renamings and substitutions of indices and types, one after another, in types.
use Rattle.std.proofs.Common.{◌≡◌, refl, sym, ◌∙◌, ap, ℕ, zero, suc, length}
use mathlib.Core.Path.{fun_ext}
use Rattle.core_syntax.specs.declared.span.Span.{Span}
use Rattle.core_syntax.specs.Syntax.{Index, Ty, BaseTy, TyVar, Fun, Forall, Pi, Sigma, Arr, Tys, no_tys, more_tys}
use Rattle.core_syntax.specs.Subst.{Fate, Keep, Put, Fates, moved, under, under_n, in_place, index_renamed, index_under, index_put, indices_under, past, past_n, same, ty_renamed, tys_renamed, ty_put, tys_put, ty_under_type, ty_under_index, fate_under_index, fates_under_index}
use Rattle.reduction_laws.proofs.putting.Indices.{fate_map, fate_then, map_is_moved, index_renamed_twice, index_renamed_same, index_put_renamed, index_renamed_put, index_put_twice, past_n_twice, under_past_n, renamed_under_n, then_under_n}

-- ---- a renaming behind a renaming

mutual
  pub ty_renamed_twice : (ρ τ ρ' τ' : ℕ → ℕ) (t : Ty) → ty_renamed ρ τ (ty_renamed ρ' τ' t) ≡ ty_renamed (λ k. ρ (ρ' k)) (λ k. τ (τ' k)) t
  ty_renamed_twice ρ τ ρ' τ' (BaseTy at b) = refl
  ty_renamed_twice ρ τ ρ' τ' (TyVar at k) = refl
  ty_renamed_twice ρ τ ρ' τ' (Fun at ts r) = λ i. Fun at (tys_renamed_twice ρ τ ρ' τ' ts i) (ty_renamed_twice ρ τ ρ' τ' r i)
  ty_renamed_twice ρ τ ρ' τ' (Forall at n t) = ap (Forall at n) (ty_renamed_twice ρ (past_n n τ) ρ' (past_n n τ') t ∙ ap (λ υ. ty_renamed (λ k. ρ (ρ' k)) υ t) (past_n_twice n τ τ'))
  ty_renamed_twice ρ τ ρ' τ' (Pi at ss t) = ap (Pi at ss) (ty_renamed_twice (past_n (length ss) ρ) τ (past_n (length ss) ρ') τ' t ∙ ap (λ υ. ty_renamed υ (λ k. τ (τ' k)) t) (past_n_twice (length ss) ρ ρ'))
  ty_renamed_twice ρ τ ρ' τ' (Sigma at ss t) = ap (Sigma at ss) (ty_renamed_twice (past_n (length ss) ρ) τ (past_n (length ss) ρ') τ' t ∙ ap (λ υ. ty_renamed υ (λ k. τ (τ' k)) t) (past_n_twice (length ss) ρ ρ'))
  ty_renamed_twice ρ τ ρ' τ' (Arr at t i) = λ j. Arr at (ty_renamed_twice ρ τ ρ' τ' t j) (index_renamed_twice ρ ρ' i j)

  tys_renamed_twice : (ρ τ ρ' τ' : ℕ → ℕ) (ts : Tys) → tys_renamed ρ τ (tys_renamed ρ' τ' ts) ≡ tys_renamed (λ k. ρ (ρ' k)) (λ k. τ (τ' k)) ts
  tys_renamed_twice ρ τ ρ' τ' no_tys = refl
  tys_renamed_twice ρ τ ρ' τ' (more_tys t ts) = λ i. more_tys (ty_renamed_twice ρ τ ρ' τ' t i) (tys_renamed_twice ρ τ ρ' τ' ts i)

-- ---- a renaming that changes nothing

past_same : past same ≡ same
past_same = fun_ext at
  where
    at : (k : ℕ) → past same k ≡ same k
    at zero = refl
    at (suc k) = refl

past_n_same : (n : ℕ) → past_n n same ≡ same
past_n_same zero = refl
past_n_same (suc n) = ap past (past_n_same n) ∙ past_same

mutual
  pub ty_renamed_same : (t : Ty) → ty_renamed same same t ≡ t
  ty_renamed_same (BaseTy at b) = refl
  ty_renamed_same (TyVar at k) = refl
  ty_renamed_same (Fun at ts r) = λ j. Fun at (tys_renamed_same ts j) (ty_renamed_same r j)
  ty_renamed_same (Forall at n t) = ap (Forall at n) (ap (λ υ. ty_renamed same υ t) (past_n_same n) ∙ ty_renamed_same t)
  ty_renamed_same (Pi at ss t) = ap (Pi at ss) (ap (λ υ. ty_renamed υ same t) (past_n_same (length ss)) ∙ ty_renamed_same t)
  ty_renamed_same (Sigma at ss t) = ap (Sigma at ss) (ap (λ υ. ty_renamed υ same t) (past_n_same (length ss)) ∙ ty_renamed_same t)
  ty_renamed_same (Arr at t i) = λ j. Arr at (ty_renamed_same t j) (index_renamed_same i j)

  tys_renamed_same : (ts : Tys) → tys_renamed same same ts ≡ ts
  tys_renamed_same no_tys = refl
  tys_renamed_same (more_tys t ts) = λ j. more_tys (ty_renamed_same t j) (tys_renamed_same ts j)

-- ---- a substitution behind a renaming

types_at : (n : ℕ) (τ : Fates Ty) (ρ : ℕ → ℕ) → (λ (k : ℕ). fates_under_index n τ (ρ k)) ≡ fates_under_index n (λ k. τ (ρ k))
types_at zero τ ρ = refl
types_at (suc n) τ ρ = ap (λ υ k. fate_under_index (υ k)) (types_at n τ ρ)

mutual
  pub ty_put_renamed : (σ : Fates Index) (τ : Fates Ty) (ρ ρ' : ℕ → ℕ) (t : Ty) → ty_put σ τ (ty_renamed ρ ρ' t) ≡ ty_put (λ k. σ (ρ k)) (λ k. τ (ρ' k)) t
  ty_put_renamed σ τ ρ ρ' (BaseTy at b) = refl
  ty_put_renamed σ τ ρ ρ' (TyVar at k) = refl
  ty_put_renamed σ τ ρ ρ' (Fun at ts r) = λ i. Fun at (tys_put_renamed σ τ ρ ρ' ts i) (ty_put_renamed σ τ ρ ρ' r i)
  ty_put_renamed σ τ ρ ρ' (Forall at n t) = ap (Forall at n) (ty_put_renamed σ (under_n n ty_under_type τ) ρ (past_n n ρ') t ∙ ap (λ υ. ty_put (λ k. σ (ρ k)) υ t) (under_past_n n ty_under_type τ ρ'))
  ty_put_renamed σ τ ρ ρ' (Pi at ss t) =
      ap (Pi at ss)
      (ty_put_renamed (indices_under (length ss) σ) (fates_under_index (length ss) τ) (past_n (length ss) ρ) ρ' t
      ∙ λ i. ty_put (under_past_n (length ss) index_under σ ρ i) (types_at (length ss) τ ρ' i) t)
  ty_put_renamed σ τ ρ ρ' (Sigma at ss t) =
      ap (Sigma at ss)
      (ty_put_renamed (indices_under (length ss) σ) (fates_under_index (length ss) τ) (past_n (length ss) ρ) ρ' t
      ∙ λ i. ty_put (under_past_n (length ss) index_under σ ρ i) (types_at (length ss) τ ρ' i) t)
  ty_put_renamed σ τ ρ ρ' (Arr at t i) = λ j. Arr at (ty_put_renamed σ τ ρ ρ' t j) (index_put_renamed σ ρ i j)

  tys_put_renamed : (σ : Fates Index) (τ : Fates Ty) (ρ ρ' : ℕ → ℕ) (ts : Tys) → tys_put σ τ (tys_renamed ρ ρ' ts) ≡ tys_put (λ k. σ (ρ k)) (λ k. τ (ρ' k)) ts
  tys_put_renamed σ τ ρ ρ' no_tys = refl
  tys_put_renamed σ τ ρ ρ' (more_tys t ts) = λ i. more_tys (ty_put_renamed σ τ ρ ρ' t i) (tys_put_renamed σ τ ρ ρ' ts i)

-- ---- a renaming behind a substitution

renamed_ty_fate : (ρ ρ' : ℕ → ℕ) (at : Span) (f : Fate Ty) → ty_renamed ρ ρ' (in_place (TyVar at) f) ≡ in_place (TyVar at) (fate_map ρ' (ty_renamed ρ ρ') f)
renamed_ty_fate ρ ρ' at (Keep k) = refl
renamed_ty_fate ρ ρ' at (Put t) = refl

types_renamed_under : (ρ ρ' : ℕ → ℕ) (τ : Fates Ty) → (λ (k : ℕ). fate_map (past ρ') (ty_renamed ρ (past ρ')) (under ty_under_type τ k)) ≡ under ty_under_type (λ k. fate_map ρ' (ty_renamed ρ ρ') (τ k))
types_renamed_under ρ ρ' τ = fun_ext at
  where
    by : (f : Fate Ty) → fate_map (past ρ') (ty_renamed ρ (past ρ')) (moved ty_under_type f) ≡ moved ty_under_type (fate_map ρ' (ty_renamed ρ ρ') f)
    by (Keep k) = refl
    by (Put t) = ap Put (ty_renamed_twice ρ (past ρ') same suc t ∙ sym (ty_renamed_twice same suc ρ ρ' t))

    at : (k : ℕ) → fate_map (past ρ') (ty_renamed ρ (past ρ')) (under ty_under_type τ k) ≡ under ty_under_type (λ k. fate_map ρ' (ty_renamed ρ ρ') (τ k)) k
    at zero = refl
    at (suc k) = by (τ k)

types_renamed_under_n : (n : ℕ) (ρ ρ' : ℕ → ℕ) (τ : Fates Ty) → (λ (k : ℕ). fate_map (past_n n ρ') (ty_renamed ρ (past_n n ρ')) (under_n n ty_under_type τ k)) ≡ under_n n ty_under_type (λ k. fate_map ρ' (ty_renamed ρ ρ') (τ k))
types_renamed_under_n zero ρ ρ' τ = refl
types_renamed_under_n (suc n) ρ ρ' τ = types_renamed_under ρ (past_n n ρ') (under_n n ty_under_type τ) ∙ ap (under ty_under_type) (types_renamed_under_n n ρ ρ' τ)

fate_renamed_under_index : (ρ ρ' : ℕ → ℕ) (f : Fate Ty) → fate_map ρ' (ty_renamed (past ρ) ρ') (fate_under_index f) ≡ fate_under_index (fate_map ρ' (ty_renamed ρ ρ') f)
fate_renamed_under_index ρ ρ' (Keep k) = refl
fate_renamed_under_index ρ ρ' (Put t) = ap Put (ty_renamed_twice (past ρ) ρ' suc same t ∙ sym (ty_renamed_twice suc same ρ ρ' t))

types_renamed_under_index : (n : ℕ) (ρ ρ' : ℕ → ℕ) (τ : Fates Ty) → (λ (k : ℕ). fate_map ρ' (ty_renamed (past_n n ρ) ρ') (fates_under_index n τ k)) ≡ fates_under_index n (λ k. fate_map ρ' (ty_renamed ρ ρ') (τ k))
types_renamed_under_index zero ρ ρ' τ = refl
types_renamed_under_index (suc n) ρ ρ' τ =
    fun_ext (λ k. fate_renamed_under_index (past_n n ρ) ρ' (fates_under_index n τ k)) ∙ ap (λ υ k. fate_under_index (υ k)) (types_renamed_under_index n ρ ρ' τ)

mutual
  pub ty_renamed_put : (ρ ρ' : ℕ → ℕ) (σ : Fates Index) (τ : Fates Ty) (t : Ty) → ty_renamed ρ ρ' (ty_put σ τ t) ≡ ty_put (λ k. fate_map ρ (index_renamed ρ) (σ k)) (λ k. fate_map ρ' (ty_renamed ρ ρ') (τ k)) t
  ty_renamed_put ρ ρ' σ τ (BaseTy at b) = refl
  ty_renamed_put ρ ρ' σ τ (TyVar at k) = renamed_ty_fate ρ ρ' at (τ k)
  ty_renamed_put ρ ρ' σ τ (Fun at ts r) = λ i. Fun at (tys_renamed_put ρ ρ' σ τ ts i) (ty_renamed_put ρ ρ' σ τ r i)
  ty_renamed_put ρ ρ' σ τ (Forall at n t) =
      ap (Forall at n)
      (ty_renamed_put ρ (past_n n ρ') σ (under_n n ty_under_type τ) t
      ∙ ap (λ υ. ty_put (λ k. fate_map ρ (index_renamed ρ) (σ k)) υ t) (types_renamed_under_n n ρ ρ' τ))
  ty_renamed_put ρ ρ' σ τ (Pi at ss t) =
      ap (Pi at ss)
      (ty_renamed_put (past_n (length ss) ρ) ρ' (indices_under (length ss) σ) (fates_under_index (length ss) τ) t
      ∙ λ i. ty_put (renamed_under_n (length ss) ρ σ i) (types_renamed_under_index (length ss) ρ ρ' τ i) t)
  ty_renamed_put ρ ρ' σ τ (Sigma at ss t) =
      ap (Sigma at ss)
      (ty_renamed_put (past_n (length ss) ρ) ρ' (indices_under (length ss) σ) (fates_under_index (length ss) τ) t
      ∙ λ i. ty_put (renamed_under_n (length ss) ρ σ i) (types_renamed_under_index (length ss) ρ ρ' τ i) t)
  ty_renamed_put ρ ρ' σ τ (Arr at t i) = λ j. Arr at (ty_renamed_put ρ ρ' σ τ t j) (index_renamed_put ρ σ i j)

  tys_renamed_put : (ρ ρ' : ℕ → ℕ) (σ : Fates Index) (τ : Fates Ty) (ts : Tys) → tys_renamed ρ ρ' (tys_put σ τ ts) ≡ tys_put (λ k. fate_map ρ (index_renamed ρ) (σ k)) (λ k. fate_map ρ' (ty_renamed ρ ρ') (τ k)) ts
  tys_renamed_put ρ ρ' σ τ no_tys = refl
  tys_renamed_put ρ ρ' σ τ (more_tys t ts) = λ i. more_tys (ty_renamed_put ρ ρ' σ τ t i) (tys_renamed_put ρ ρ' σ τ ts i)

-- ---- a substitution behind a substitution

same_fate : (f : Fate Index) → fate_map same (index_renamed same) f ≡ f
same_fate (Keep k) = refl
same_fate (Put i) = ap Put (index_renamed_same i)

-- a type under a type binder, substituted there, and one under an index binder
pub ty_under_type_put : (σ : Fates Index) (τ : Fates Ty) (t : Ty) → ty_put σ (under ty_under_type τ) (ty_under_type t) ≡ ty_under_type (ty_put σ τ t)
ty_under_type_put σ τ t =
    ty_put_renamed σ (under ty_under_type τ) same suc t
    ∙ (λ i. ty_put (fun_ext (λ k. sym (same_fate (σ k))) i) (fun_ext (λ k. sym (map_is_moved ty_under_type (τ k))) i) t)
    ∙ sym (ty_renamed_put same suc σ τ t)

map_is_index : (f : Fate Ty) → fate_map same ty_under_index f ≡ fate_under_index f
map_is_index (Keep k) = refl
map_is_index (Put t) = refl

pub ty_under_index_put : (σ : Fates Index) (τ : Fates Ty) (t : Ty) → ty_put (under index_under σ) (λ k. fate_under_index (τ k)) (ty_under_index t) ≡ ty_under_index (ty_put σ τ t)
ty_under_index_put σ τ t =
    ty_put_renamed (under index_under σ) (λ k. fate_under_index (τ k)) suc same t
    ∙ (λ i. ty_put (fun_ext (λ k. sym (map_is_moved index_under (σ k))) i) (fun_ext (λ k. sym (map_is_index (τ k))) i) t)
    ∙ sym (ty_renamed_put suc same σ τ t)

put_ty_fate : (σ : Fates Index) (τ : Fates Ty) (at : Span) (f : Fate Ty) → ty_put σ τ (in_place (TyVar at) f) ≡ in_place (TyVar at) (fate_then τ (ty_put σ τ) f)
put_ty_fate σ τ at (Keep k) = refl
put_ty_fate σ τ at (Put t) = refl

types_then_under : (σ : Fates Index) (τ χ : Fates Ty) → (λ (k : ℕ). fate_then (under ty_under_type τ) (ty_put σ (under ty_under_type τ)) (under ty_under_type χ k)) ≡ under ty_under_type (λ k. fate_then τ (ty_put σ τ) (χ k))
types_then_under σ τ χ = fun_ext at
  where
    by : (f : Fate Ty) → fate_then (under ty_under_type τ) (ty_put σ (under ty_under_type τ)) (moved ty_under_type f) ≡ moved ty_under_type (fate_then τ (ty_put σ τ) f)
    by (Keep k) = refl
    by (Put t) = ap Put (ty_under_type_put σ τ t)

    at : (k : ℕ) → fate_then (under ty_under_type τ) (ty_put σ (under ty_under_type τ)) (under ty_under_type χ k) ≡ under ty_under_type (λ k. fate_then τ (ty_put σ τ) (χ k)) k
    at zero = refl
    at (suc k) = by (χ k)

types_then_under_n : (n : ℕ) (σ : Fates Index) (τ χ : Fates Ty) → (λ (k : ℕ). fate_then (under_n n ty_under_type τ) (ty_put σ (under_n n ty_under_type τ)) (under_n n ty_under_type χ k)) ≡ under_n n ty_under_type (λ k. fate_then τ (ty_put σ τ) (χ k))
types_then_under_n zero σ τ χ = refl
types_then_under_n (suc n) σ τ χ = types_then_under σ (under_n n ty_under_type τ) (under_n n ty_under_type χ) ∙ ap (under ty_under_type) (types_then_under_n n σ τ χ)

fate_then_under_index : (σ : Fates Index) (τ : Fates Ty) (f : Fate Ty) → fate_then (λ k. fate_under_index (τ k)) (ty_put (under index_under σ) (λ k. fate_under_index (τ k))) (fate_under_index f) ≡ fate_under_index (fate_then τ (ty_put σ τ) f)
fate_then_under_index σ τ (Keep k) = refl
fate_then_under_index σ τ (Put t) = ap Put (ty_under_index_put σ τ t)

types_then_under_index : (n : ℕ) (σ : Fates Index) (τ χ : Fates Ty) → (λ (k : ℕ). fate_then (fates_under_index n τ) (ty_put (indices_under n σ) (fates_under_index n τ)) (fates_under_index n χ k)) ≡ fates_under_index n (λ k. fate_then τ (ty_put σ τ) (χ k))
types_then_under_index zero σ τ χ = refl
types_then_under_index (suc n) σ τ χ =
    fun_ext (λ k. fate_then_under_index (indices_under n σ) (fates_under_index n τ) (fates_under_index n χ k)) ∙ ap (λ υ k. fate_under_index (υ k)) (types_then_under_index n σ τ χ)

mutual
  pub ty_put_twice : (σ : Fates Index) (τ : Fates Ty) (φ : Fates Index) (χ : Fates Ty) (t : Ty) → ty_put σ τ (ty_put φ χ t) ≡ ty_put (λ k. fate_then σ (index_put σ) (φ k)) (λ k. fate_then τ (ty_put σ τ) (χ k)) t
  ty_put_twice σ τ φ χ (BaseTy at b) = refl
  ty_put_twice σ τ φ χ (TyVar at k) = put_ty_fate σ τ at (χ k)
  ty_put_twice σ τ φ χ (Fun at ts r) = λ i. Fun at (tys_put_twice σ τ φ χ ts i) (ty_put_twice σ τ φ χ r i)
  ty_put_twice σ τ φ χ (Forall at n t) =
      ap (Forall at n)
      (ty_put_twice σ (under_n n ty_under_type τ) φ (under_n n ty_under_type χ) t
      ∙ ap (λ υ. ty_put (λ k. fate_then σ (index_put σ) (φ k)) υ t) (types_then_under_n n σ τ χ))
  ty_put_twice σ τ φ χ (Pi at ss t) =
      ap (Pi at ss)
      (ty_put_twice (indices_under (length ss) σ) (fates_under_index (length ss) τ) (indices_under (length ss) φ) (fates_under_index (length ss) χ) t
      ∙ λ i. ty_put (then_under_n (length ss) σ φ i) (types_then_under_index (length ss) σ τ χ i) t)
  ty_put_twice σ τ φ χ (Sigma at ss t) =
      ap (Sigma at ss)
      (ty_put_twice (indices_under (length ss) σ) (fates_under_index (length ss) τ) (indices_under (length ss) φ) (fates_under_index (length ss) χ) t
      ∙ λ i. ty_put (then_under_n (length ss) σ φ i) (types_then_under_index (length ss) σ τ χ i) t)
  ty_put_twice σ τ φ χ (Arr at t i) = λ j. Arr at (ty_put_twice σ τ φ χ t j) (index_put_twice σ φ i j)

  tys_put_twice : (σ : Fates Index) (τ : Fates Ty) (φ : Fates Index) (χ : Fates Ty) (ts : Tys) → tys_put σ τ (tys_put φ χ ts) ≡ tys_put (λ k. fate_then σ (index_put σ) (φ k)) (λ k. fate_then τ (ty_put σ τ) (χ k)) ts
  tys_put_twice σ τ φ χ no_tys = refl
  tys_put_twice σ τ φ χ (more_tys t ts) = λ i. more_tys (ty_put_twice σ τ φ χ t i) (tys_put_twice σ τ φ χ ts i)
