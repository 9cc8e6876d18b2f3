-- Equal types of parts are read alike by the premises of a rule.
use Rattle.std.proofs.Common.{◌≡◌, refl, subst, sym, ◌∙◌, ap, ℕ, suc, List, [], ◌∷◌, length}
use Rattle.std.specs.Prelude.{slice_get, Some}
use Rattle.core_syntax.specs.declared.index.Sort.{Sort}
use Rattle.core_syntax.specs.declared.index.Sort.TheVariants as sort
use Rattle.core_syntax.specs.Syntax.{Index, Ty, Fun, Forall, Pi, Sigma, Arr, Tys, no_tys, more_tys, ty_items}
use Rattle.core_syntax.specs.Lists.{Each, EachTwo}
use Rattle.core_syntax.specs.Sorts.{IsSorted}
use Rattle.core_syntax.specs.Kinds.{IsWellFormed, AreWellFormed}
use Rattle.core_syntax.specs.Value.{SameShape, then_shape, IsPrefix}
use Rattle.core_syntax.specs.TypeEqual.{Same, AllSame}
use Rattle.core_syntax.specs.NormTypes.{measure_ty}
use Rattle.core_syntax.specs.Typing.{Context, IsPrincipal}
use Rattle.core_syntax.specs.Blame.{Premises, IsFunction, IsForall, IsPi, IsSigma, of_function, of_forall, of_pi, of_sigma, FitsInput}
use Rattle.core_syntax.proofs.Equality.{same_sym, same_trans}
use Rattle.core_syntax.proofs.NormTyLemmas.{same_normal, measure_again}
use Rattle.core_syntax.proofs.Unique.{beside, each_at, wholes_agree}
use Rattle.core_syntax.proofs.Agree.{Agree, nothing_agrees}

-- ---- types

-- equal types measure alike
pub measure_same : (t u : Ty) → Same t u → measure_ty t ≡ measure_ty u
measure_same t u e = sym (measure_again t) ∙ ap measure_ty (same_normal t u e) ∙ measure_again u

pub same_count : (ts us : Tys) → AllSame ts us → length (ty_items ts) ≡ length (ty_items us)
same_count no_tys no_tys h = refl
same_count (more_tys t ts) (more_tys u us) h = ap suc (same_count ts us h.1)
same_count _ _ h = absurd h

-- what equals a type equals what that type equals
pub same_both : (t t' u u' : Ty) → Same t t' → Same u u' → Same t u → Same t' u'
same_both t t' u u' h k e = same_trans t' t u' (same_sym t t' h) (same_trans t u u' e k)

-- ---- forms of array types

pub function_same : (t u : Ty) → Same t u → IsFunction t → IsFunction u
function_same (Arr at (Fun at' ts r) s) (Arr at'' (Fun at''' us q) p) e h = tt
function_same (Arr at (Fun at' ts r) s) (Arr at'' _ p) e h = absurd e.0
function_same (Arr at (Fun at' ts r) s) _ e h = absurd e
function_same _ _ e h = absurd h

pub forall_same : (t u : Ty) → Same t u → IsForall t → IsForall u
forall_same (Arr at (Forall at' n b) s) (Arr at'' (Forall at''' m c) p) e h = tt
forall_same (Arr at (Forall at' n b) s) (Arr at'' _ p) e h = absurd e.0
forall_same (Arr at (Forall at' n b) s) _ e h = absurd e
forall_same _ _ e h = absurd h

pub pi_same : (t u : Ty) → Same t u → IsPi t → IsPi u
pi_same (Arr at (Pi at' ss b) s) (Arr at'' (Pi at''' rs c) p) e h = tt
pi_same (Arr at (Pi at' ss b) s) (Arr at'' _ p) e h = absurd e.0
pi_same (Arr at (Pi at' ss b) s) _ e h = absurd e
pi_same _ _ e h = absurd h

pub sigma_same : (t u : Ty) → Same t u → IsSigma t → IsSigma u
sigma_same (Arr at (Sigma at' ss b) s) (Arr at'' (Sigma at''' rs c) p) e h = tt
sigma_same (Arr at (Sigma at' ss b) s) (Arr at'' _ p) e h = absurd e.0
sigma_same (Arr at (Sigma at' ss b) s) _ e h = absurd e
sigma_same _ _ e h = absurd h

-- ---- the parts of array types of these forms

-- the parts of two well-formed array types of functions that are equal
pub record Functions (types : ℕ) (sorts : List Sort) (ts us : Tys) (s p : Index) : Type 0 where
  pub inputs : AllSame ts us
  pub formed : AreWellFormed types sorts ts
  pub formed' : AreWellFormed types sorts us
  pub frames : SameShape s p
  pub sorted : IsSorted sorts sort.Shape s
  pub sorted' : IsSorted sorts sort.Shape p

pub function_agrees : (types : ℕ) (sorts : List Sort) (t u : Ty) → Same t u → IsWellFormed types sorts t → IsWellFormed types sorts u → {f g : Tys → Ty → Index → Premises}
    → ((ts us : Tys) (r q : Ty) (s p : Index) → Functions types sorts ts us s p → Agree (f ts r s) (g us q p)) → Agree (of_function t f) (of_function u g)
function_agrees types sorts (Arr at (Fun at' ts r) s) (Arr at'' (Fun at''' us q) p) e h h' k =
    k ts us r q s p (record { inputs = e.0.0; formed = h.2.0; formed' = h'.2.0; frames = e.1; sorted = h.1; sorted' = h'.1 })
function_agrees types sorts (Arr at (Fun at' ts r) s) (Arr at'' _ p) e h h' k = absurd e.0
function_agrees types sorts (Arr at _ s) (Arr at'' (Fun at''' us q) p) e h h' k = absurd e.0
function_agrees types sorts (Arr at _ s) (Arr at'' _ p) e h h' k = nothing_agrees
function_agrees types sorts (Arr at _ s) _ e h h' k = absurd e
function_agrees types sorts _ (Arr at _ s) e h h' k = absurd e
function_agrees types sorts _ _ e h h' k = nothing_agrees

pub forall_agrees : (t u : Ty) → Same t u → {f : ℕ → Premises} → ((n : ℕ) → Agree (f n) (f n)) → Agree (of_forall t f) (of_forall u f)
forall_agrees (Arr at (Forall at' n b) s) (Arr at'' (Forall at''' m c) p) e {f} k = subst (λ m. Agree (f n) (f m)) e.0.0 (k n)
forall_agrees (Arr at (Forall at' n b) s) (Arr at'' _ p) e k = absurd e.0
forall_agrees (Arr at _ s) (Arr at'' (Forall at''' m c) p) e k = absurd e.0
forall_agrees (Arr at _ s) (Arr at'' _ p) e k = nothing_agrees
forall_agrees (Arr at _ s) _ e k = absurd e
forall_agrees _ (Arr at _ s) e k = absurd e
forall_agrees _ _ e k = nothing_agrees

pub pi_agrees : (t u : Ty) → Same t u → {f : List Sort → Premises} → ((ss : List Sort) → Agree (f ss) (f ss)) → Agree (of_pi t f) (of_pi u f)
pi_agrees (Arr at (Pi at' ss b) s) (Arr at'' (Pi at''' rs c) p) e {f} k = subst (λ rs. Agree (f ss) (f rs)) e.0.0 (k ss)
pi_agrees (Arr at (Pi at' ss b) s) (Arr at'' _ p) e k = absurd e.0
pi_agrees (Arr at _ s) (Arr at'' (Pi at''' rs c) p) e k = absurd e.0
pi_agrees (Arr at _ s) (Arr at'' _ p) e k = nothing_agrees
pi_agrees (Arr at _ s) _ e k = absurd e
pi_agrees _ (Arr at _ s) e k = absurd e
pi_agrees _ _ e k = nothing_agrees

pub sigma_agrees : (t u : Ty) → Same t u → {f : List Sort → Ty → Premises} → ((ss : List Sort) (b c : Ty) → Same b c → Agree (f ss b) (f ss c)) → Agree (of_sigma t f) (of_sigma u f)
sigma_agrees (Arr at (Sigma at' ss b) s) (Arr at'' (Sigma at''' rs c) p) e {f} k = subst (λ rs. Agree (f ss b) (f rs c)) e.0.0 (k ss b c e.0.1)
sigma_agrees (Arr at (Sigma at' ss b) s) (Arr at'' _ p) e k = absurd e.0
sigma_agrees (Arr at _ s) (Arr at'' (Sigma at''' rs c) p) e k = absurd e.0
sigma_agrees (Arr at _ s) (Arr at'' _ p) e k = nothing_agrees
sigma_agrees (Arr at _ s) _ e k = absurd e
sigma_agrees _ (Arr at _ s) e k = absurd e
sigma_agrees _ _ e k = nothing_agrees

-- ---- arguments and frames

-- an argument's type fits an input type where equal types do
pub fits_same : (Γ : Context) (t t' u u' : Ty) → Same t t' → Same u u' → IsWellFormed Γ.types Γ.sorts t' → IsWellFormed Γ.types Γ.sorts u' → FitsInput Γ t u → FitsInput Γ t' u'
fits_same Γ (Arr at t c) (Arr at' t' c') (Arr at'' u s) (Arr at''' u' s') e d formed formed' h =
    (same_both u u' t t' d.0 e.0 h.0, (h.1.0, ((refl, (h.1.1.0.1.0, (formed.1, tt))), formed'.1, shapes)))
  where
    shapes : SameShape (then_shape h.1.0 c') s'
    shapes v = sym (wholes_agree h.1.0 h.1.0 c c' (λ v. refl) e.1 v) ∙ h.1.1.2 v ∙ d.1 v
fits_same Γ (Arr at t c) (Arr at' t' c') (Arr at'' u s) _ e d formed formed' h = absurd d
fits_same Γ (Arr at t c) (Arr at' t' c') _ u' e d formed formed' h = absurd h
fits_same Γ (Arr at t c) _ u u' e d formed formed' h = absurd e
fits_same Γ _ t' u u' e d formed formed' h = absurd h

-- a prefix of a shape, where both are put equal
prefix_same : (sorts : List Sort) (q q' p p' : Index) → SameShape q q' → SameShape p p' → IsSorted sorts sort.Shape q' → IsSorted sorts sort.Shape p' → IsPrefix sorts q p → IsPrefix sorts q' p'
prefix_same sorts q q' p p' e d sorted sorted' h = (h.0, ((refl, (sorted, (h.1.0.1.1.0, tt))), sorted', λ v. sym (wholes_agree q q' h.0 h.0 e (λ v. refl) v) ∙ h.1.2 v ∙ d v))

prefixes_same : (sorts : List Sort) (qs qs' : List Index) (p p' : Index) → EachTwo SameShape qs qs' → SameShape p p' → Each (IsSorted sorts sort.Shape) qs' → IsSorted sorts sort.Shape p'
    → Each (λ q. IsPrefix sorts q p) qs → Each (λ q. IsPrefix sorts q p') qs'
prefixes_same sorts [] [] p p' e d sorted sorted' h = tt
prefixes_same sorts [] (q' ∷ qs') p p' e d sorted sorted' h = absurd e
prefixes_same sorts (q ∷ qs) [] p p' e d sorted sorted' h = absurd e
prefixes_same sorts (q ∷ qs) (q' ∷ qs') p p' e d sorted sorted' h =
    (prefix_same sorts q q' p p' e.0 d sorted.0 sorted' h.0, prefixes_same sorts qs qs' p p' e.1 d sorted.1 sorted' h.1)

-- frames that equal frames with a principal frame have one
pub principal_same : (Γ : Context) (ps qs : List Index) → EachTwo SameShape ps qs → Each (IsSorted Γ.sorts sort.Shape) qs
    → (p : Index) × IsPrincipal Γ ps p → (p : Index) × IsPrincipal Γ qs p
principal_same Γ ps qs e sorted h =
    let q : (q : Index) × (slice_get qs h.1.0 ≡ Some q) × SameShape h.0 q = beside SameShape ps qs h.1.0 h.0 e h.1.1 in
    (q.0, (h.1.0, q.1, prefixes_same Γ.sorts ps qs h.0 q.0 e q.2 sorted (each_at (IsSorted Γ.sorts sort.Shape) qs h.1.0 q.0 q.1 sorted) h.1.2))
