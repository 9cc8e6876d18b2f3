-- Data as terms: arrays by their atoms, and boxes by what they hold.
use Rattle.std.proofs.Common.{◌≡◌, refl, sym, ap, ◌∙◌, ℕ, zero, suc, ◌+◌, ◌<◌, ◌≤◌, arith, List, [], ◌∷◌, ◌++◌, length, take, slice_get, slice_index_or, Some}
use Rattle.std.proofs.lemmas.List.{take_all}
use Rattle.std.proofs.lemmas.Option.{none-some}
use Rattle.array_values.specs.Data.{index_data, data_list, atom_data, array_data}
use Rattle.array_values.specs.Values.{Array}
use Rattle.array_values.specs.declared.index_value.IndexValue.{IndexValue as HeldIndex}
use Rattle.array_values.specs.declared.value.BoxedValue.{BoxedValue}
use Rattle.array_values.specs.declared.value.Value.{Value}
use Rattle.array_values.specs.declared.value.Value.TheVariants.{Boxed}
use Rattle.core_syntax.specs.declared.index.Sort.{Sort}
use Rattle.core_syntax.specs.declared.index.Index.{Index as IndexTree}
use Rattle.core_syntax.specs.declared.term.TermAtom.{TermAtom}
use Rattle.core_syntax.specs.declared.term.TermExpr.{TermExpr}
use Rattle.core_syntax.specs.declared.ty.Ty.{Ty as Tree}
use Rattle.core_syntax.specs.declared.ty.TyForm.{Sigma, Arr}
use Rattle.core_syntax.specs.Data.{Data, DataArray, DataBox, DataAtoms, no_data, more_data, data_term, data_cell, data_cells, data_terms}
use Rattle.core_syntax.specs.Lists.{each}
use Rattle.core_syntax.specs.Nodes.{vector}
use Rattle.core_syntax.specs.Prims.{array_of}
use Rattle.core_syntax.specs.Refine.{index_of, ty_of}
use Rattle.core_syntax.specs.RefineTerms.{TypedCell, term_of, cell_of, cells_of}
use Rattle.core_syntax.specs.Syntax as syntax
use Rattle.core_syntax.specs.Terms.{IndexValue, TNoAtoms, TArray, TBoxed, cell_list, more_cells}
use Rattle.core_syntax.specs.Typed.{put_in_ty, value_index, content_type, TypedTerm}
use Rattle.core_syntax.proofs.TyRows.{is_sigma, is_arr}
use Rattle.type_substitution.specs.Putting.{puts_at}
use Rattle.type_substitution.proofs.Fates.{put_indices_only}
use Rattle.typed_start.proofs.ValueArrays.{data_boxed}

-- ---- lists

module _ {A B C : Type 0} (g : A → C) (f : B → C) where
  each_join : (xs : List A) (a : A) → each g (xs ++ a ∷ []) ≡ each g xs ++ g a ∷ []
  each_join [] a = refl
  each_join (x ∷ xs) a = ap (λ ys. g x ∷ ys) (each_join xs a)

  one_more : (bs : List B) (k : ℕ) (b : B) → slice_get bs k ≡ Some b → each f (take (k + 1) bs) ≡ each f (take k bs) ++ f b ∷ []
  one_more [] k b e = absurd (none-some b e)
  one_more (c ∷ bs) zero b e = ap (λ (d : B). f d ∷ []) (some_same c b e)
    where
      some_same : (c b : B) → Some c ≡ Some b → c ≡ b
      some_same c b e = cc
  one_more (c ∷ bs) (suc k) b e =
      let more : suc k + 1 ≡ suc (k + 1) = omega arith in
      ap (λ n. each f (take n (c ∷ bs))) more ∙ ap (λ ys. f c ∷ ys) (one_more bs k b e)

  -- items made of the first of a list, and one more
  pub each_more : (bs : List B) (k : ℕ) (b : B) (xs ys : List A) (a : A) → slice_get bs k ≡ Some b → ys ≡ xs ++ a ∷ [] → g a ≡ f b → each g xs ≡ each f (take k bs) → each g ys ≡ each f (take (k + 1) bs)
  each_more bs k b xs ys a is push one before = ap (each g) push ∙ each_join xs a ∙ (λ i. before i ++ one i ∷ []) ∙ sym (one_more bs k b is)

-- ---- boxes

-- a box of data as an atom of a type
pub box_cell : (t : syntax.Ty) (vs : List IndexValue) (a : Data) → data_cell t (DataBox vs a) ≡ TBoxed (each value_index vs) (data_term (content_type t (each value_index vs)) a) t
box_cell (syntax.BaseTy at b) vs a = refl
box_cell (syntax.TyVar at k) vs a = refl
box_cell (syntax.Fun at ts r) vs a = refl
box_cell (syntax.Forall at n t) vs a = refl
box_cell (syntax.Pi at ss t) vs a = refl
box_cell (syntax.Sigma at ss t) vs a = refl
box_cell (syntax.Arr at t i) vs a = refl

-- a box of data made of indices with its values and of its content
pub boxed_term : (t : syntax.Ty) (is js ks : List IndexTree) (now vs : List HeldIndex) (u : Tree) (a : Array) (m : TypedTerm) → js ≡ is → ks ≡ is → now ≡ vs → each index_of is ≡ each value_index (each index_data now)
    → ty_of u ≡ content_type t (each index_of ks) → m ≡ data_term (ty_of u) (array_data a) → TBoxed (each index_of js) m t ≡ data_cell t (DataBox (each index_data vs) (array_data a))
boxed_term t is js ks now vs u a m j k n values content term =
    let same : (ls : List IndexTree) → ls ≡ is → each index_of ls ≡ each value_index (each index_data vs) =
    λ ls h. ap (each index_of) h ∙ values ∙ ap (λ zs. each value_index (each index_data zs)) n in
    (λ i. TBoxed (same js j i) ((term ∙ ap (λ w. data_term w (array_data a)) (content ∙ ap (content_type t) (same ks k))) i) t)
    ∙ sym (box_cell t (each index_data vs) (array_data a))

-- a box, as what it holds
pub box_of_data : (t : syntax.Ty) (v : Value) (b s : BoxedValue) → v ≡ Boxed s → b ≡ s → data_cell t (DataBox (each index_data b.indices) (array_data b.content)) ≡ data_cell t (atom_data v)
box_of_data t v b s is same = ap (data_cell t) (sym (data_boxed b) ∙ ap (λ o. atom_data (Boxed o)) same ∙ sym (ap atom_data is))

-- ---- arrays

module _ (t : syntax.Ty) where
  abbrev pub as_cell : Value → TypedCell
  as_cell v = data_cell t (atom_data v)

  cells_listed : (xs : List TermAtom) → cells_of xs ≡ cell_list (each cell_of xs)
  cells_listed [] = refl
  cells_listed (x ∷ xs) = ap (more_cells (cell_of x)) (cells_listed xs)

  data_listed : (vs : List Value) → data_cells t (data_list (each atom_data vs)) ≡ cell_list (each as_cell vs)
  data_listed [] = refl
  data_listed (v ∷ vs) = ap (more_cells (as_cell v)) (data_listed vs)

  filled : (dims : List ℕ) (vs : List Value) → (length vs ≡ 0 → ⊥) → data_term (array_of t (vector [])) (DataArray dims (data_list (each atom_data vs))) ≡ TArray dims (data_cells t (data_list (each atom_data vs)))
  filled dims [] h = absurd (h refl)
  filled dims (v ∷ vs) h = refl

  pub array_filled : (dims : List ℕ) (vs : List Value) (xs : List TermAtom) → (length vs ≡ 0 → ⊥) → each cell_of xs ≡ each as_cell vs → TArray dims (cells_of xs) ≡ data_term (array_of t (vector [])) (DataArray dims (data_list (each atom_data vs)))
  array_filled dims vs xs h e = ap (TArray dims) (cells_listed xs ∙ ap cell_list e ∙ sym (data_listed vs)) ∙ sym (filled dims vs h)

  pub array_empty : (dims : List ℕ) (vs : List Value) → length vs ≡ 0 → TNoAtoms dims t ≡ data_term (array_of t (vector [])) (DataArray dims (data_list (each atom_data vs)))
  array_empty dims [] h = refl
  array_empty dims (v ∷ vs) h = absurd (omega (arith, h))

-- the place and the shape of an array type don't matter
pub elements_only : (t u u' : Tree) (i : IndexTree) (a : Data) → u' ≡ u → t.form ≡ Arr u i → data_term (array_of (ty_of u') (vector [])) a ≡ data_term (ty_of t) a
elements_only t u u' i (DataArray dims xs) q e = same xs ∙ sym (ap (λ w. data_term w (DataArray dims xs)) (is_arr t u u' i q e))
  where
    same : (xs : DataAtoms) → data_term (array_of (ty_of u') (vector [])) (DataArray dims xs) ≡ data_term (syntax.Arr t.at (ty_of u') (index_of i)) (DataArray dims xs)
    same no_data = refl
    same (more_data x xs) = refl

-- ---- arrays one after the other

-- arrays as terms of their types, and one more
pub terms_more : (ts : List Tree) (xs : List Array) (k : ℕ) (t : Tree) (a : Array) → k < length ts → k < length xs → t ≡ slice_index_or ts k t → a ≡ slice_index_or xs k a
    → data_terms (each ty_of (take (k + 1) ts)) (each array_data (take (k + 1) xs)) ≡ data_terms (each ty_of (take k ts)) (each array_data (take k xs)) ++ data_term (ty_of t) (array_data a) ∷ []
terms_more [] xs k t a lt lt' is is' = absurd (omega (arith, lt))
terms_more (u ∷ ts) [] k t a lt lt' is is' = absurd (omega (arith, lt'))
terms_more (u ∷ ts) (b ∷ xs) zero t a lt lt' is is' = λ i. data_term (ty_of (sym is i)) (array_data (sym is' i)) ∷ []
terms_more (u ∷ ts) (b ∷ xs) (suc k) t a lt lt' is is' =
    let more : suc k + 1 ≡ suc (k + 1) = omega arith in
    ap (λ n. data_terms (each ty_of (take n (u ∷ ts))) (each array_data (take n (b ∷ xs)))) more
    ∙ ap (λ us. data_term (ty_of u) (array_data b) ∷ us) (terms_more ts xs k t a (omega (arith, lt)) (omega (arith, lt')) is is')

-- terms made of the first arrays, and one more
pub terms_pushed : (ts : List Tree) (xs : List Array) (k : ℕ) (t : Tree) (a : Array) (made next : List TermExpr) (u : TermExpr) → length ts ≡ length xs → k < length ts → t ≡ slice_index_or ts k t → a ≡ slice_index_or xs k a
    → next ≡ made ++ u ∷ [] → term_of u ≡ data_term (ty_of t) (array_data a) → each term_of made ≡ data_terms (each ty_of (take k ts)) (each array_data (take k xs))
    → each term_of next ≡ data_terms (each ty_of (take (k + 1) ts)) (each array_data (take (k + 1) xs))
terms_pushed ts xs k t a made next u same lt is is' push one before =
    ap (each term_of) push ∙ each_join term_of term_of made u ∙ (λ i. before i ++ one i ∷ []) ∙ sym (terms_more ts xs k t a lt (omega (arith, lt, same)) is is')

-- of all
pub terms_end : (ts : List Tree) (xs : List Array) (k : ℕ) → length ts ≡ length xs → length ts ≤ k → data_terms (each ty_of (take k ts)) (each array_data (take k xs)) ≡ data_terms (each ty_of ts) (each array_data xs)
terms_end ts xs k same le = λ i. data_terms (each ty_of (take_all k ts le i)) (each array_data (take_all k xs (omega (arith, le, same)) i))
