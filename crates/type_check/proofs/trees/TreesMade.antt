-- Trees of shapes, made part by part.
use Rattle.std.proofs.Common.{◌≡◌, ◌∙◌, refl, sym, ap, ℕ, ◌+◌, ◌<◌, List, [], ◌∷◌, ◌++◌, length, take, get_or}
use Rattle.std.proofs.lemmas.List.{take_more}
use Rattle.core_syntax.specs.declared.index.Index.{Index as Tree}
use Rattle.core_syntax.specs.declared.ty.Ty.{Ty as TyTree}
use Rattle.core_syntax.specs.Refine.{index_of, indices_of, ty_of, tys_of}
use Rattle.core_syntax.specs.Syntax.{Index, Indices, end, more, index_list, Ty, Tys, no_tys, more_tys, ty_items}
use Rattle.core_syntax.specs.Lists.{each}
use Rattle.core_syntax.specs.Nodes.{number}
use Rattle.core_syntax.specs.Word.{Word}
use Rattle.core_syntax.specs.Notes.{shape_word}

pub each_append : {A B : Type 0} (f : A → B) (xs ys : List A) → each f (xs ++ ys) ≡ each f xs ++ each f ys
each_append f [] ys = refl
each_append f (x ∷ xs) ys = ap (λ l. f x ∷ l) (each_append f xs ys)

one_more : {A : Type 0} (xs : List A) (k : ℕ) (x : A) → k < length xs → x ≡ get_or xs k x → take (k + 1) xs ≡ take k xs ++ x ∷ []
one_more xs k x lt is = take_more xs k x lt ∙ ap (λ y. take k xs ++ y ∷ []) (sym is)

indices_listed : (xs : List Tree) → indices_of xs ≡ index_list (each index_of xs)
indices_listed [] = refl
indices_listed (x ∷ xs) = ap (more (index_of x)) (indices_listed xs)

-- the parts of the first dims, with one more
pub numbers_made : (dims : List ℕ) (parts new : List Tree) (k n : ℕ) (p : Tree) → k < length dims → n ≡ get_or dims k n → new ≡ parts ++ p ∷ [] → index_of p ≡ number n →
    each index_of parts ≡ each (λ n. number n) (take k dims) → each index_of new ≡ each (λ n. number n) (take (k + 1) dims)
numbers_made dims parts new k n p lt is e one before =
    ap (each index_of) e ∙ each_append index_of parts (p ∷ []) ∙ (λ i. before i ++ one i ∷ []) ∙ sym (each_append (λ n. number n) (take k dims) (n ∷ []))
    ∙ ap (each (λ n. number n)) (sym (one_more dims k n lt is))

pub numbers_done : (xs : List Tree) (dims : List ℕ) → each index_of xs ≡ each (λ n. number n) dims → indices_of xs ≡ index_list (each (λ n. number n) dims)
numbers_done xs dims e = indices_listed xs ∙ ap index_list e

items_append : (xs : List TyTree) (x : TyTree) → ty_items (tys_of (xs ++ x ∷ [])) ≡ ty_items (tys_of xs) ++ ty_of x ∷ []
items_append [] x = refl
items_append (y ∷ xs) x = ap (λ l. ty_of y ∷ l) (items_append xs x)

-- the words of the first types' shapes, with one more
pub words_made : (types : List TyTree) (words new : List Word) (k : ℕ) (t : TyTree) (w : Word) → k < length types → t ≡ get_or types k t → new ≡ words ++ w ∷ [] →
    w ≡ shape_word (ty_of t) → words ≡ each shape_word (ty_items (tys_of (take k types))) → new ≡ each shape_word (ty_items (tys_of (take (k + 1) types)))
words_made types words new k t w lt is e one before =
    e ∙ (λ i. before i ++ one i ∷ []) ∙ sym (each_append shape_word (ty_items (tys_of (take k types))) (ty_of t ∷ []))
    ∙ ap (each shape_word) (sym (items_append (take k types) t) ∙ ap (λ l. ty_items (tys_of l)) (sym (one_more types k t lt is)))
