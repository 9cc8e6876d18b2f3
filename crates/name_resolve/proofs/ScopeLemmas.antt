-- Scopes that binders leave.
use Rattle.std.proofs.Common.{◌≡◌, refl, sym, ap, ◌∙◌, ℕ, zero, suc, ◌+◌, List, [], ◌∷◌, drop, length, arith}
use Rattle.core_syntax.specs.Lists.{onto}
use Rattle.name_resolve.specs.declared.words.NameSpace.TheVariants.{Terms, Types, Indices}
use Rattle.name_resolve.specs.Scopes.{Name, Scopes, under}
use Rattle.name_resolve.proofs.BinderLemmas.{drop_onto}

pub drop_again : {A : Type 0} (k : ℕ) (xs : List A) → drop 1 (drop k xs) ≡ drop (k + 1) xs
drop_again zero [] = refl
drop_again zero (x ∷ xs) = refl
drop_again (suc k) [] = let e : suc k + 1 ≡ suc (k + 1) = omega arith in ap (λ n. drop n []) (sym e)
drop_again (suc k) (x ∷ xs) = let e : suc k + 1 ≡ suc (k + 1) = omega arith in drop_again k xs ∙ ap (λ n. drop n (x ∷ xs)) (sym e)

module _ (s before : Scopes) (xs : List Name) (n : ℕ) (l : length xs ≡ n) where
  behind : (ys : List Name) → drop n (onto xs ys) ≡ ys
  behind ys = ap (λ k. drop k (onto xs ys)) (sym l) ∙ drop_onto xs ys

  pub left_terms : (left : List Name) → left ≡ drop n s.terms → s ≡ under Terms xs before → record s { terms = left } ≡ before
  left_terms left p e = ap (λ t. record s { terms = t }) (p ∙ ap (λ (Γ : Scopes). drop n Γ.terms) e ∙ behind before.terms) ∙ ap (λ (Γ : Scopes). record Γ { terms = before.terms }) e

  pub left_types : (left : List Name) → left ≡ drop n s.types → s ≡ under Types xs before → record s { types = left } ≡ before
  left_types left p e = ap (λ t. record s { types = t }) (p ∙ ap (λ (Γ : Scopes). drop n Γ.types) e ∙ behind before.types) ∙ ap (λ (Γ : Scopes). record Γ { types = before.types }) e

  pub left_indices : (left : List Name) → left ≡ drop n s.indices → s ≡ under Indices xs before → record s { indices = left } ≡ before
  left_indices left p e = ap (λ t. record s { indices = t }) (p ∙ ap (λ (Γ : Scopes). drop n Γ.indices) e ∙ behind before.indices) ∙ ap (λ (Γ : Scopes). record Γ { indices = before.indices }) e
