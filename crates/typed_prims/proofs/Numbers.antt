-- The numbers below one, as atoms.
use Rattle.std.proofs.Common.{◌≡◌, refl, sym, ◌∙◌, ap, ℕ, zero, suc, ◌+◌, arith, pos, List, [], ◌∷◌, ◌++◌}
use Rattle.core_syntax.specs.declared.term.TermAtom.{TermAtom, Int}
use Rattle.core_syntax.specs.Lists.{each}
use Rattle.core_syntax.specs.Delta.{counting}
use Rattle.core_syntax.specs.Terms.{TInt}
use Rattle.core_syntax.specs.RefineTerms.{cell_of}
use Rattle.typed_prims.specs.ArrayAnswers.{places}

pub counting_more : (k n : ℕ) → counting k (suc n) ≡ counting k n ++ (k + n) ∷ []
counting_more k zero = ap (λ m. m ∷ []) (let e : k ≡ k + 0 = omega arith in e)
counting_more k (suc n) = ap (λ ms. k ∷ ms) (counting_more (suc k) n ∙ ap (λ m. counting (suc k) n ++ m ∷ []) (let e : suc k + n ≡ k + suc n = omega arith in e))

pub each_push : {A B : Type 0} (f : A → B) (xs : List A) (x : A) → each f (xs ++ x ∷ []) ≡ each f xs ++ f x ∷ []
each_push f [] x = refl
each_push f (y ∷ xs) x = ap (λ zs. f y ∷ zs) (each_push f xs x)

pub places_more : (n : ℕ) → places (n + 1) ≡ places n ++ TInt (pos n) ∷ []
places_more n =
    ap places (let e : n + 1 ≡ suc n = omega arith in e) ∙ ap (each (λ k. TInt (pos k))) (counting_more 0 n)
    ∙ each_push (λ k. TInt (pos k)) (counting 0 n) (0 + n) ∙ ap (λ k. places n ++ TInt (pos k) ∷ []) (let e : 0 + n ≡ n = omega arith in e)

pub numbers_more : (atoms more : List TermAtom) (n : ℕ) → each cell_of atoms ≡ places n → more ≡ atoms ++ Int (pos n) ∷ [] → each cell_of more ≡ places (n + 1)
numbers_more atoms more n h e = ap (each cell_of) e ∙ each_push cell_of atoms (Int (pos n)) ∙ ap (λ zs. zs ++ TInt (pos n) ∷ []) h ∙ sym (places_more n)
