-- The boxes that primitives give.
use Rattle.std.proofs.Common.{◌≡◌, refl, sym, ◌∙◌, ap, subst, ℕ, zero, suc, ◌-◌, ◌*◌, ◌^◌, ◌+◌, ◌≤◌, ◌<◌, min, arith, length, get_or, take, drop, List, [], ◌∷◌, ◌++◌, Option, Some, None, Bool, true, false, pos}
use Rattle.std.specs.Prelude.{◌%◌, slice_get, slice_index_or}
use Rattle.core_syntax.specs.declared.errors.TrapKind.TheVariants as trap
use Rattle.core_syntax.specs.declared.term.TermAtom.{TermAtom}
use Rattle.core_syntax.specs.declared.term.TermExpr.{TermExpr}
use Rattle.core_syntax.specs.Answer.{Answer, AtomRules, Gives, Traps, Unfit}
use Rattle.core_syntax.specs.Arrays.{array, single, runs}
use Rattle.core_syntax.specs.Delta.{asked, asked_dim, counting, filtered, gives_box, iota, masked, raveled, reshaped}
use Rattle.core_syntax.specs.Fits.{forms}
use Rattle.core_syntax.specs.Lists.{each, joined, product}
use Rattle.core_syntax.specs.RefineTerms.{cell_of, term_of, TypedCell}
use Rattle.core_syntax.specs.Rules.{array_term_of, atom_rules, atoms_of, dims_of, look}
use Rattle.core_syntax.specs.Syntax.{Ty, Index}
use Rattle.core_syntax.specs.Terms.{IndexValue, DimValue, ShapeValue, TBool, TBoxed, TChar, TFn, TIndexFn, TInt, TPrim, TTypeFn}
use Rattle.core_syntax.specs.Typed.{atom_type, content_type, typed_rules, value_index, TypedTerm}
use Rattle.naturality.proofs.Eaches.{each_joined, each_length, each_picked, each_runs, each_take}
use Rattle.naturality.proofs.Counts.{form_of, mapped_count, run_count}
use Rattle.prim_kernels.proofs.ArrayRows.{behind, split_first}
use Rattle.prim_kernels.proofs.Asked.{each_more, formed_some}
use Rattle.prim_kernels.specs.Kernels.{formed_dims}
use Rattle.typed_prims.specs.Answers.{array_of}
use Rattle.typed_prims.specs.ArrayAnswers.{places}
use Rattle.typed_prims.specs.Boxes.{count_marks, cycled, wanted}
use Rattle.typed_prims.proofs.Marks.{masked_count, masked_each}
use Rattle.typed_prims.proofs.Numbers.{counting_more, each_push}

-- ---- a box of an array under an index

pub boxed_is : (b : Ty) (v : IndexValue) (is js : List Index) (t : TypedTerm) (dims : List ℕ) (xs : List TypedCell) → is ≡ value_index v ∷ [] → js ≡ is
    → t ≡ array_term_of typed_rules (atom_type (content_type b js)) dims xs → TBoxed is t b ≡ TBoxed (value_index v ∷ []) (array_term_of typed_rules (atom_type (content_type b (value_index v ∷ []))) dims xs) b
boxed_is b v is js t dims xs e same is_t =
    (λ i. TBoxed (e i) (is_t i) b) ∙ ap (λ ks. TBoxed (value_index v ∷ []) (array_term_of typed_rules (atom_type (content_type b ks)) dims xs) b) (same ∙ e)

-- ---- the dims that atoms ask for

-- one atom more
pub wanted_more : (xs : List TermAtom) (k y : ℕ) → slice_get (each wanted (each cell_of xs)) k ≡ Some y → each wanted (each cell_of (take k xs)) ++ y ∷ [] ≡ each wanted (each cell_of (take (k + 1) xs))
wanted_more xs k y e =
    ap (λ zs. each wanted zs ++ y ∷ []) (sym (each_take cell_of k xs)) ∙ each_more wanted (each cell_of xs) k y e ∙ ap (each wanted) (each_take cell_of (k + 1) xs)

-- no array has more than 64 dims
pub no_rank : (xs : List TermAtom) → 64 < length xs → ◌≡◌ {A = Option (List ℕ)} None (formed_dims (each wanted (each cell_of xs)))
no_rank xs h = by (forms (each wanted (each cell_of xs))) refl
  where
    counted : length (each wanted (each cell_of xs)) ≡ length xs
    counted = mapped_count wanted (each cell_of xs) ∙ mapped_count cell_of xs

    by : (b : Bool) → forms (each wanted (each cell_of xs)) ≡ b → ◌≡◌ {A = Option (List ℕ)} None (elim b [ true ↦ Some (each wanted (each cell_of xs)) | false ↦ None ])
    by true e = absurd (let f = (form_of (each wanted (each cell_of xs)) e).rank in let g : ⊥ = omega (arith, h, f, counted) in g)
    by false e = refl

-- one atom more again
pub cycled_more : {A : Type 0} (xs : List A) (fill : A) (n : ℕ) → cycled xs fill n ++ slice_index_or xs (n % length xs) fill ∷ [] ≡ cycled xs fill (n + 1)
cycled_more xs fill n =
    sym
    (ap (cycled xs fill) (let e : n + 1 ≡ suc n = omega arith in e)
    ∙ ap (each (λ j. slice_index_or xs (j % length xs) fill)) (counting_more 0 n)
    ∙ each_push (λ j. slice_index_or xs (j % length xs) fill) (counting 0 n) (0 + n)
    ∙ ap (λ k. cycled xs fill n ++ slice_index_or xs (k % length xs) fill ∷ []) (let e : 0 + n ≡ n = omega arith in e))

module _ (r : Ty) where
  -- how primitives see and make atoms here
  abbrev R : AtomRules TypedCell
  R = atom_rules typed_rules r

  wanted_one : (a : TypedCell) → wanted a ≡ asked_dim R (look typed_rules a)
  wanted_one (TInt z) = refl
  wanted_one (TBool b) = refl
  wanted_one (TChar c) = refl
  wanted_one (TPrim q us is) = refl
  wanted_one (TFn i t) = refl
  wanted_one (TTypeFn n t) = refl
  wanted_one (TIndexFn ss t) = refl
  wanted_one (TBoxed is t u) = refl

  pub wanted_all : (xs : List TypedCell) → each wanted xs ≡ asked R xs
  wanted_all [] = refl
  wanted_all (a ∷ xs) = λ i. wanted_one a i ∷ wanted_all xs i

  -- where dims are those of an array, and where they aren't
  when_formed : (ds : List ℕ) (a b : Answer TypedCell) → forms ds ≡ true → elim (forms ds) as (λ x. Answer TypedCell) [ true ↦ a | false ↦ b ] ≡ a
  when_formed ds a b h = ap (λ x. elim x as (λ x. Answer TypedCell) [ true ↦ a | false ↦ b ]) h

  when_unformed : (ds : List ℕ) (a b : Answer TypedCell) → formed_dims ds ≡ None → elim (forms ds) as (λ x. Answer TypedCell) [ true ↦ a | false ↦ b ] ≡ b
  when_unformed ds a b h = by (forms ds) h
    where
      by : (t : Bool) → ◌≡◌ {A = Option (List ℕ)} (elim t [ true ↦ Some ds | false ↦ None ]) None → elim t as (λ x. Answer TypedCell) [ true ↦ a | false ↦ b ] ≡ b
      by true e = absurd (let g = e in cc)
      by false e = refl

  pub iota_traps : (q : List ℕ) (o : Option (List ℕ)) → o ≡ formed_dims q → o ≡ None → Traps trap.Size ≡ iota R q
  iota_traps q o e h = sym (when_unformed q (gives_box R (ShapeValue q) (array q (places (product q)))) (Traps trap.Size) (sym e ∙ h))

  pub reshape_traps : (q : List ℕ) (xs : List TypedCell) (c : TypedCell) (o : Option (List ℕ)) → o ≡ formed_dims q → o ≡ None → Traps trap.Size ≡ reshaped R q xs (c ∷ [])
  reshape_traps q xs c o e h = sym (when_unformed q (gives_box R (ShapeValue q) (array q (cycled xs c (product q)))) (Traps trap.Size) (sym e ∙ h))

  -- the count of atoms of such dims
  pub formed_count : (q ds : List ℕ) (o : Option (List ℕ)) (n : ℕ) → o ≡ formed_dims q → o ≡ Some ds → n ≡ min (product ds) (2 ^ 24 + 1) → n ≡ product ds
  formed_count q ds o n e h sized =
      let f = formed_some q ds (sym e ∙ h) in
      let few : product ds ≤ 2 ^ 24 = (form_of ds (subst (λ d. forms d ≡ true) f.1 f.0)).count in
      omega (arith, sized, few)

  module _ (q ds : List ℕ) (o : Option (List ℕ)) (n : ℕ) (e : o ≡ formed_dims q) (h : o ≡ Some ds) (sized : n ≡ product ds) where
    formed : forms q ≡ true
    formed = (formed_some q ds (sym e ∙ h)).0

    are : q ≡ ds
    are = (formed_some q ds (sym e ∙ h)).1

    pub iota_gives : (xs : List TypedCell) → xs ≡ places n → gives_box R (ShapeValue ds) (array ds xs) ≡ iota R q
    iota_gives xs made =
        ap (λ ys. gives_box R (ShapeValue ds) (array ds ys)) (made ∙ ap places sized)
        ∙ ap (λ d. gives_box R (ShapeValue d) (array d (places (product d)))) (sym are)
        ∙ sym (when_formed q (gives_box R (ShapeValue q) (array q (places (product q)))) (Traps trap.Size) formed)

    pub reshape_gives : (atoms all : List TermAtom) (fill : TermAtom) → all ≡ cycled atoms fill n
        → gives_box R (ShapeValue ds) (array ds (each cell_of all)) ≡ reshaped R q (each cell_of atoms) (cell_of fill ∷ [])
    reshape_gives atoms all fill made =
        ap (λ ys. gives_box R (ShapeValue ds) (array ds ys)) (ap (each cell_of) made ∙ picks (counting 0 n) ∙ ap (cycled (each cell_of atoms) (cell_of fill)) sized)
        ∙ ap (λ d. gives_box R (ShapeValue d) (array d (cycled (each cell_of atoms) (cell_of fill) (product d)))) (sym are)
        ∙ sym (when_formed q (gives_box R (ShapeValue q) (array q (cycled (each cell_of atoms) (cell_of fill) (product q)))) (Traps trap.Size) formed)
      where
        picks : (ks : List ℕ) → each cell_of (each (λ j. slice_index_or atoms (j % length atoms) fill) ks) ≡ each (λ j. slice_index_or (each cell_of atoms) (j % length (each cell_of atoms)) (cell_of fill)) ks
        picks [] = refl
        picks (k ∷ ks) = λ i. (sym (ap (λ m. slice_index_or (each cell_of atoms) (k % m) (cell_of fill)) (each_length cell_of atoms) ∙ each_picked cell_of atoms (k % length atoms) fill)) i ∷ picks ks i

  -- ---- `ravel` and `filter`

  pub ravel_gives : (a : TermExpr) (atoms : List TermAtom) (n : ℕ) → each cell_of atoms ≡ atoms_of typed_rules (term_of a) → n ≡ length atoms
      → gives_box R (DimValue n) (array (n ∷ []) (each cell_of atoms)) ≡ raveled R (array_of a)
  ravel_gives a atoms n ha e =
      ap (λ m. gives_box R (DimValue m) (array (m ∷ []) (each cell_of atoms))) (e ∙ sym (mapped_count cell_of atoms))
      ∙ ap (λ xs. gives_box R (DimValue (length xs)) (array (length xs ∷ []) xs)) ha

  pub filter_gives : (mask a : TermExpr) (ds dims : List ℕ) (marks atoms all : List TermAtom) (kept : ℕ) → each cell_of marks ≡ atoms_of typed_rules (term_of mask) → ds ≡ dims_of typed_rules (term_of a)
      → each cell_of atoms ≡ atoms_of typed_rules (term_of a) → 1 ≤ length ds → kept ≡ count_marks (take (get_or ds 0 0) (each cell_of marks)) → dims ≡ kept ∷ behind ds
      → all ≡ joined (masked R (each cell_of marks) (runs (get_or ds 0 0) (product (behind ds)) atoms))
      → gives_box R (DimValue kept) (array dims (each cell_of all)) ≡ filtered R (array_of mask) (array_of a)
  filter_gives mask a ds dims marks atoms all kept hm hd ha least k d made =
      let ms = each cell_of marks in
      let n = get_or ds 0 0 in
      let size = product (behind ds) in
      let cells = masked R ms (runs n size (each cell_of atoms)) in
      let number : kept ≡ length cells = k ∙ sym (masked_count r ms (runs n size (each cell_of atoms)) ∙ ap (λ j. count_marks (take j ms)) (run_count n size (each cell_of atoms))) in
      let same : each cell_of all ≡ joined cells =
      ap (each cell_of) made ∙ sym (each_joined cell_of (masked R ms (runs n size atoms)))
      ∙ ap joined (sym (masked_each r (each cell_of) ms (runs n size atoms)) ∙ ap (masked R ms) (sym (each_runs cell_of n size atoms))) in
      (λ i. gives_box R (DimValue kept) (array (d i) (same i)))
      ∙ ap (λ m. gives_box R (DimValue m) (array (m ∷ behind ds) (joined cells))) number
      ∙ ap (λ s. filtered R (array [] ms) (array s (each cell_of atoms))) (split_first ds least)
      ∙ (λ i. filtered R (array [] (hm i)) (array (hd i) (ha i)))
