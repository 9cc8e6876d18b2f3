-- Renaming keeps types equal.
use Rattle.std.proofs.Common.{subst, sym, ◌∙◌, ap, ℕ, length}
use Rattle.core_syntax.specs.Syntax.{Index, Ty, BaseTy, TyVar, Fun, Forall, Pi, Sigma, Arr, Tys, no_tys, more_tys}
use Rattle.core_syntax.specs.Value.{SameShape}
use Rattle.core_syntax.specs.TypeEqual.{Same, AllSame}
use Rattle.core_syntax.specs.Subst.{index_renamed, ty_renamed, tys_renamed, past_n}
use Rattle.core_syntax.proofs.Valued.{renumbered, shape_val-renamed}

pub same_shape-renamed : (ρ : ℕ → ℕ) (i j : Index) → SameShape i j → SameShape (index_renamed ρ i) (index_renamed ρ j)
same_shape-renamed ρ i j h v = shape_val-renamed v ρ i ∙ h (renumbered v ρ) ∙ sym (shape_val-renamed v ρ j)

mutual
  pub same-renamed : (ρ τ : ℕ → ℕ) (t u : Ty) → Same t u → Same (ty_renamed ρ τ t) (ty_renamed ρ τ u)
  same-renamed ρ τ (BaseTy at b) (BaseTy at' c) h = h
  same-renamed ρ τ (TyVar at k) (TyVar at' l) h = ap τ h
  same-renamed ρ τ (Fun at ts r) (Fun at' us s) h = (all_same-renamed ρ τ ts us h.0, same-renamed ρ τ r s h.1)
  same-renamed ρ τ (Forall at n t) (Forall at' m u) h =
      (h.0, subst (λ m. Same (ty_renamed ρ (past_n n τ) t) (ty_renamed ρ (past_n m τ) u)) h.0 (same-renamed ρ (past_n n τ) t u h.1))
  same-renamed ρ τ (Pi at ss t) (Pi at' rs u) h =
      (h.0, subst (λ rs. Same (ty_renamed (past_n (length ss) ρ) τ t) (ty_renamed (past_n (length rs) ρ) τ u)) h.0 (same-renamed (past_n (length ss) ρ) τ t u h.1))
  same-renamed ρ τ (Sigma at ss t) (Sigma at' rs u) h =
      (h.0, subst (λ rs. Same (ty_renamed (past_n (length ss) ρ) τ t) (ty_renamed (past_n (length rs) ρ) τ u)) h.0 (same-renamed (past_n (length ss) ρ) τ t u h.1))
  same-renamed ρ τ (Arr at t i) (Arr at' u j) h = (same-renamed ρ τ t u h.0, same_shape-renamed ρ i j h.1)
  same-renamed ρ τ _ _ h = absurd h

  pub all_same-renamed : (ρ τ : ℕ → ℕ) (ts us : Tys) → AllSame ts us → AllSame (tys_renamed ρ τ ts) (tys_renamed ρ τ us)
  all_same-renamed ρ τ no_tys no_tys h = tt
  all_same-renamed ρ τ (more_tys t ts) (more_tys u us) h = (same-renamed ρ τ t u h.0, all_same-renamed ρ τ ts us h.1)
  all_same-renamed ρ τ _ _ h = absurd h
