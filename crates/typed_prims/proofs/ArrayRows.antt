-- What primitives that cut, join and reorder arrays answer.
use Rattle.std.proofs.Common.{◌≡◌, refl, sym, ◌∙◌, ap, ℕ, zero, suc, ◌+◌, ◌-◌, ◌*◌, ◌<◌, ◌≤◌, arith, length, get_or, ℤ, pos, negsuc, Bool, true, false, List, [], ◌∷◌, ◌++◌, take, drop, replicate, Option, Some, None}
use Rattle.std.specs.Prelude.{⊤, nat_lt, if◌then◌else◌, option_map}
use Rattle.std.proofs.lemmas.List.{take_all}
use Rattle.core_syntax.specs.declared.errors.TrapKind.TheVariants as trap
use Rattle.core_syntax.specs.declared.term.TermAtom.{TermAtom}
use Rattle.core_syntax.specs.declared.term.TermExpr.{TermExpr}
use Rattle.core_syntax.specs.declared.index.Index.{Index}
use Rattle.core_syntax.specs.Fits.{forms}
use Rattle.core_syntax.specs.Lists.{each, joined, onto, product}
use Rattle.core_syntax.specs.Syntax.{Ty}
use Rattle.core_syntax.specs.Terms.{IndexValue, DimValue, ShapeValue}
use Rattle.core_syntax.specs.Arrays.{Arrayed, array, runs, columns}
use Rattle.core_syntax.specs.Answer.{Look, AnInt, ABool, AChar, Other, AtomRules, Answer, Gives, Traps, Unfit}
use Rattle.core_syntax.specs.Delta.{gives_formed, appended, reversed, taken, dropped, transposed, copied, number_at, cell_or, cell_or_at, cell_or_by, index_or}
use Rattle.core_syntax.specs.Rules.{atom_rules, atoms_of, dims_of, values_of}
use Rattle.core_syntax.specs.Typed.{closed_value, typed_rules}
use Rattle.core_syntax.specs.RefineTerms.{cell_of, term_of, TypedCell}
use Rattle.core_syntax.specs.Refine.{index_of}
use Rattle.typed_prims.specs.Answers.{array_of, seen_of}
use Rattle.prim_kernels.specs.Kernels.{formed_dims, place_below}
use Rattle.naturality.proofs.Eaches.{each_take, each_drop, each_joined, each_runs, each_columns}

-- the number at a place of index arguments
number_next : (v : IndexValue) (vs : List IndexValue) (k : ℕ) → number_at (v ∷ vs) (suc k) ≡ number_at vs k
number_next (DimValue n) vs k = refl
number_next (ShapeValue s) vs k = refl

number_here : (v : IndexValue) (vs ws : List IndexValue) → number_at (v ∷ vs) 0 ≡ number_at (v ∷ ws) 0
number_here (DimValue n) vs ws = refl
number_here (ShapeValue s) vs ws = refl

number_past : (is : List Index) (k : ℕ) → length is ≤ k → 0 ≡ number_at (each closed_value (each index_of is)) k
number_past [] k h = refl
number_past (i ∷ is) zero h = absurd (let f : ⊥ = omega (arith, h) in f)
number_past (i ∷ is) (suc k) h = number_past is k (omega arith) ∙ sym (number_next (closed_value (index_of i)) (each closed_value (each index_of is)) k)

number_found : (is : List Index) (k : ℕ) (x : Index) → k < length is → x ≡ get_or is k x → number_at (closed_value (index_of x) ∷ []) 0 ≡ number_at (each closed_value (each index_of is)) k
number_found [] k x h e = absurd (let f : ⊥ = omega (arith, h) in f)
number_found (i ∷ is) zero x h e = ap (λ x. number_at (closed_value (index_of x) ∷ []) 0) e ∙ number_here (closed_value (index_of i)) [] (each closed_value (each index_of is))
number_found (i ∷ is) (suc k) x h e = number_found is k x (omega arith) e ∙ sym (number_next (closed_value (index_of i)) (each closed_value (each index_of is)) k)

pub no_dim : (o : Option (List Index)) (is ys : List Index) (k : ℕ) → o ≡ Some is → ys ≡ is → length ys ≤ k → 0 ≡ number_at (values_of closed_value (option_map (each index_of) o)) k
no_dim o is ys k ho hy h = number_past ys k h ∙ ap (λ is. number_at (each closed_value (each index_of is)) k) hy ∙ ap (λ o. number_at (values_of closed_value (option_map (each index_of) o)) k) (sym ho)

pub some_dim : (o : Option (List Index)) (is ys : List Index) (k : ℕ) (x : Index) → o ≡ Some is → ys ≡ is → k < length ys → x ≡ get_or ys k x
    → number_at (closed_value (index_of x) ∷ []) 0 ≡ number_at (values_of closed_value (option_map (each index_of) o)) k
some_dim o is ys k x ho hy h e = number_found ys k x h e ∙ ap (λ is. number_at (each closed_value (each index_of is)) k) hy ∙ ap (λ o. number_at (values_of closed_value (option_map (each index_of) o)) k) (sym ho)

module _ (r : Ty) where
  -- how primitives see and make atoms here
  abbrev R : AtomRules TypedCell
  R = atom_rules typed_rules r

  formed_by : (b : Bool) (ns dims : List ℕ) (zs : List TypedCell) → elim b [ true ↦ Some ns | false ↦ None ] ≡ Some dims
      → elim b [ true ↦ Gives (array ns zs) | false ↦ Traps trap.Size ] ≡ Gives (array dims zs)
  formed_by true ns dims zs e = ap (λ d. Gives (array d zs)) (let h : ns ≡ dims = cc in h)
  formed_by false ns dims zs e = absurd (let h = e in cc)

  unformed_by : (b : Bool) (ns : List ℕ) (zs : List TypedCell) → ◌≡◌ {A = Option (List ℕ)} (elim b [ true ↦ Some ns | false ↦ None ]) None
      → ◌≡◌ {A = Answer TypedCell} (elim b [ true ↦ Gives (array ns zs) | false ↦ Traps trap.Size ]) (Traps trap.Size)
  unformed_by true ns zs e = absurd (let h = e in cc)
  unformed_by false ns zs e = refl

  -- dims that an array may have, and others
  pub formed_gives : (ns dims : List ℕ) (zs : List TypedCell) → formed_dims ns ≡ Some dims → gives_formed R ns zs ≡ Gives (array dims zs)
  formed_gives ns dims zs e = formed_by (forms ns) ns dims zs e

  pub unformed_traps : (ns : List ℕ) (zs : List TypedCell) → formed_dims ns ≡ None → gives_formed R ns zs ≡ Traps trap.Size
  unformed_traps ns zs e = unformed_by (forms ns) ns zs e

  pub appended_is : (ds es : List ℕ) (xs ys : List TypedCell) (m n : ℕ) (s s' : List ℕ) → m ∷ s ≡ ds → n ∷ s' ≡ es
      → gives_formed R ((m + n) ∷ s) (xs ++ ys) ≡ appended R (array ds xs) (array es ys)
  appended_is ds es xs ys m n s s' h k = rw (← h, ← k) refl

  pub reversed_is : (ds : List ℕ) (atoms all : List TermAtom) (m : ℕ) (s : List ℕ) → m ∷ s ≡ ds → all ≡ joined (onto (runs m (product s) atoms) [])
      → Gives (array (m ∷ s) (each cell_of all)) ≡ reversed R (array ds (each cell_of atoms))
  reversed_is ds atoms all m s h e =
      rw (← h)
      (ap (λ zs. Gives (array (m ∷ s) zs)) (ap (each cell_of) e ∙ sym (each_joined cell_of (onto (runs m (product s) atoms) []))
      ∙ ap joined (sym (each_onto (each cell_of) (runs m (product s) atoms) []) ∙ ap (λ rs. onto rs []) (sym (each_runs cell_of m (product s) atoms)))))
    where
      each_onto : {A B : Type 0} (f : A → B) (xs ys : List A) → onto (each f xs) (each f ys) ≡ each f (onto xs ys)
      each_onto f [] ys = refl
      each_onto f (x ∷ xs) ys = each_onto f xs (x ∷ ys)

  pub taken_is : (ds : List ℕ) (atoms all : List TermAtom) (k m : ℕ) (s : List ℕ) → m ∷ s ≡ ds → all ≡ take (k * product s) atoms
      → Gives (array (k ∷ s) (each cell_of all)) ≡ taken R k (array ds (each cell_of atoms))
  taken_is ds atoms all k m s h e = rw (← h) (ap (λ zs. Gives (array (k ∷ s) zs)) (ap (each cell_of) e ∙ sym (each_take cell_of (k * product s) atoms)))

  pub dropped_is : (ds : List ℕ) (atoms all : List TermAtom) (k n m : ℕ) (s : List ℕ) → m ∷ s ≡ ds → all ≡ drop (k * product s) atoms
      → Gives (array (n ∷ s) (each cell_of all)) ≡ dropped R k n (array ds (each cell_of atoms))
  dropped_is ds atoms all k n m s h e = rw (← h) (ap (λ zs. Gives (array (n ∷ s) zs)) (ap (each cell_of) e ∙ sym (each_drop cell_of (k * product s) atoms)))

  pub transposed_is : (ds : List ℕ) (atoms all : List TermAtom) (m n : ℕ) (s : List ℕ) → m ∷ n ∷ s ≡ ds
      → all ≡ joined (each joined (columns n (each (runs n (product s)) (runs m (n * product s) atoms))))
      → Gives (array (n ∷ m ∷ s) (each cell_of all)) ≡ transposed R (array ds (each cell_of atoms))
  transposed_is ds atoms all m n s h e =
      rw (← h)
      (ap (λ zs. Gives (array (n ∷ m ∷ s) zs))
      (ap (each cell_of) e ∙ sym (each_joined cell_of (each joined (columns n rows))) ∙ ap joined (all_joined (columns n rows))
      ∙ ap (λ cs. joined (each joined cs)) (sym (each_columns (each cell_of) n rows) ∙ ap (columns n) (sym (cut (runs m (n * product s) atoms)) ∙ ap (each (runs n (product s))) (sym (each_runs cell_of m (n * product s) atoms))))))
    where
      rows : List (List (List TermAtom))
      rows = each (runs n (product s)) (runs m (n * product s) atoms)

      all_joined : (xsss : List (List (List TermAtom))) → each (each cell_of) (each joined xsss) ≡ each joined (each (each (each cell_of)) xsss)
      all_joined [] = refl
      all_joined (xss ∷ xsss) = λ i. sym (each_joined cell_of xss) i ∷ all_joined xsss i

      cut : (xss : List (List TermAtom)) → each (runs n (product s)) (each (each cell_of) xss) ≡ each (each (each cell_of)) (each (runs n (product s)) xss)
      cut [] = refl
      cut (xs ∷ xss) = λ i. each_runs cell_of n (product s) xs i ∷ cut xss i

  pub copied_is : (ds : List ℕ) (atoms all : List TermAtom) (k : ℕ) → all ≡ joined (replicate k atoms)
      → gives_formed R (k ∷ ds) (each cell_of all) ≡ copied R k (array ds (each cell_of atoms))
  copied_is ds atoms all k e = ap (gives_formed R (k ∷ ds)) (ap (each cell_of) e ∙ sym (each_joined cell_of (replicate k atoms)) ∙ ap joined (each_same k)) where
    each_same : (k : ℕ) → each (each cell_of) (replicate k atoms) ≡ replicate k (each cell_of atoms)
    each_same zero = refl
    each_same (suc k) = ap (λ zs. each cell_of atoms ∷ zs) (each_same k)

  -- the first dim and the dims behind it, and the first two
  split_first : (ds : List ℕ) → 1 ≤ length ds → get_or ds 0 0 ∷ take (length ds - 1) (drop 1 ds) ≡ ds
  split_first [] h = absurd (let f : ⊥ = omega (arith, h) in f)
  split_first (d ∷ ds) h = ap (λ s. d ∷ s) (take_all (suc (length ds) - 1) ds (omega arith))

  split_two : (ds : List ℕ) → 2 ≤ length ds → get_or ds 0 0 ∷ get_or ds 1 0 ∷ take (length ds - 2) (drop 2 ds) ≡ ds
  split_two [] h = absurd (let f : ⊥ = omega (arith, h) in f)
  split_two (d ∷ []) h = absurd (let f : ⊥ = omega (arith, h) in f)
  split_two (d ∷ e ∷ ds) h = ap (λ s. d ∷ e ∷ s) (take_all (suc (suc (length ds)) - 2) ds (omega arith))

  -- `index-or` by what is seen of the place
  by_seen : (m : ℕ) (s : List ℕ) (xs : List TypedCell) (o : Arrayed TypedCell) (ys : List TypedCell) → cell_or_by R m s xs o ys ≡ cell_or_at R m s xs o (seen_of ys)
  by_seen m s xs o [] = refl
  by_seen m s xs o (y ∷ []) = refl
  by_seen m s xs o (y ∷ y' ∷ ys) = refl

  index_or_seen : (a i o : TermExpr) (ds : List ℕ) (atoms : List TermAtom) (l : Look) → ds ≡ dims_of typed_rules (term_of a) → each cell_of atoms ≡ atoms_of typed_rules (term_of a) → 1 ≤ length ds
      → l ≡ seen_of (atoms_of typed_rules (term_of i)) → cell_or_at R (get_or ds 0 0) (take (length ds - 1) (drop 1 ds)) (each cell_of atoms) (array_of o) l ≡ index_or R (array_of a) (array_of i) (array_of o)
  index_or_seen a i o ds atoms l hd ha least hl =
      ap (cell_or_at R (get_or ds 0 0) (take (length ds - 1) (drop 1 ds)) (each cell_of atoms) (array_of o)) hl
      ∙ sym (by_seen (get_or ds 0 0) (take (length ds - 1) (drop 1 ds)) (each cell_of atoms) (array_of o) (atoms_of typed_rules (term_of i)))
      ∙ ap (λ ds. index_or R (array ds (each cell_of atoms)) (array_of i) (array_of o)) (split_first ds least)
      ∙ (λ k. index_or R (array (hd k) (ha k)) (array_of i) (array_of o))

  pub index_or_int : (a i o : TermExpr) (ds : List ℕ) (atoms : List TermAtom) (l : Look) (z z' : ℤ) → ds ≡ dims_of typed_rules (term_of a) → each cell_of atoms ≡ atoms_of typed_rules (term_of a) → 1 ≤ length ds
      → l ≡ seen_of (atoms_of typed_rules (term_of i)) → l ≡ AnInt z → z' ≡ z → cell_or R (get_or ds 0 0) (take (length ds - 1) (drop 1 ds)) (each cell_of atoms) (array_of o) z' ≡ index_or R (array_of a) (array_of i) (array_of o)
  index_or_int a i o ds atoms l z z' hd ha least hl is same =
      ap (cell_or R (get_or ds 0 0) (take (length ds - 1) (drop 1 ds)) (each cell_of atoms) (array_of o)) same
      ∙ ap (cell_or_at R (get_or ds 0 0) (take (length ds - 1) (drop 1 ds)) (each cell_of atoms) (array_of o)) (sym is) ∙ index_or_seen a i o ds atoms l hd ha least hl

  -- a look that is none at an integer
  abbrev pub NoInt : Look → Type 0
  NoInt (AnInt z) = ⊥
  NoInt _ = ⊤

  unfit_at : (m : ℕ) (s : List ℕ) (xs : List TypedCell) (o : Arrayed TypedCell) (l : Look) → NoInt l → Unfit ≡ cell_or_at R m s xs o l
  unfit_at m s xs o (AnInt z) h = absurd h
  unfit_at m s xs o (ABool b) h = refl
  unfit_at m s xs o (AChar k) h = refl
  unfit_at m s xs o Other h = refl

  pub index_or_other : (a i o : TermExpr) (ds : List ℕ) (atoms : List TermAtom) (l : Look) → ds ≡ dims_of typed_rules (term_of a) → each cell_of atoms ≡ atoms_of typed_rules (term_of a) → 1 ≤ length ds
      → l ≡ seen_of (atoms_of typed_rules (term_of i)) → NoInt l → Unfit ≡ index_or R (array_of a) (array_of i) (array_of o)
  index_or_other a i o ds atoms l hd ha least hl free =
      unfit_at (get_or ds 0 0) (take (length ds - 1) (drop 1 ds)) (each cell_of atoms) (array_of o) l free ∙ index_or_seen a i o ds atoms l hd ha least hl

  cell_some : (b : Bool) (k j : ℕ) (A B : Answer TypedCell) → (if b then Some k else None) ≡ Some j → (if b then A else B) ≡ A
  cell_some true k j A B h = refl
  cell_some false k j A B h = absurd (let e = h in cc)

  cell_same : (b : Bool) (k j : ℕ) → (if b then Some k else None) ≡ Some j → k ≡ j
  cell_same true k j h = cc
  cell_same false k j h = absurd (let e = h in cc)

  cell_none : (b : Bool) (k : ℕ) (A B : Answer TypedCell) → ◌≡◌ {A = Option ℕ} (if b then Some k else None) None → (if b then A else B) ≡ B
  cell_none true k A B h = absurd (let e = h in cc)
  cell_none false k A B h = refl

  -- a place that has a cell, and one that has none
  pub cell_there : (m : ℕ) (s : List ℕ) (xs : List TypedCell) (o : Arrayed TypedCell) (z : ℤ) (k : ℕ) → place_below z m ≡ Some k → Gives (array s (take (product s) (drop (k * product s) xs))) ≡ cell_or R m s xs o z
  cell_there m s xs o (negsuc j) k h = absurd (let e = h in cc)
  cell_there m s xs o (pos j) k h =
      ap (λ k. Gives (array s (take (product s) (drop (k * product s) xs)))) (sym (cell_same (nat_lt j m) j k h))
      ∙ sym (cell_some (nat_lt j m) j k (Gives (array s (take (product s) (drop (j * product s) xs)))) (Gives o) h)

  pub cell_past : (m : ℕ) (s : List ℕ) (xs : List TypedCell) (o : Arrayed TypedCell) (z : ℤ) → place_below z m ≡ None → Gives o ≡ cell_or R m s xs o z
  cell_past m s xs o (negsuc j) h = refl
  cell_past m s xs o (pos j) h = sym (cell_none (nat_lt j m) j (Gives (array s (take (product s) (drop (j * product s) xs)))) (Gives o) h)

  pub cell_taken : (m : ℕ) (s : List ℕ) (atoms part : List TermAtom) (o : Arrayed TypedCell) (z z' : ℤ) (k : ℕ) (found : Option ℕ) → part ≡ take (product s) (drop (k * product s) atoms) → z' ≡ z
      → found ≡ place_below z' m → found ≡ Some k → Gives (array s (each cell_of part)) ≡ cell_or R m s (each cell_of atoms) o z
  cell_taken m s atoms part o z z' k found e same hf hs =
      ap (λ xs. Gives (array s xs))
      (ap (each cell_of) e ∙ sym (each_take cell_of (product s) (drop (k * product s) atoms)) ∙ ap (take (product s)) (sym (each_drop cell_of (k * product s) atoms)))
      ∙ cell_there m s (each cell_of atoms) o z k (ap (λ z. place_below z m) (sym same) ∙ sym hf ∙ hs)

  pub cell_other : (m : ℕ) (s : List ℕ) (atoms others : List TermAtom) (ds : List ℕ) (o : TermExpr) (z z' : ℤ) (found : Option ℕ) → ds ≡ dims_of typed_rules (term_of o) → each cell_of others ≡ atoms_of typed_rules (term_of o)
      → z' ≡ z → found ≡ place_below z' m → found ≡ None → Gives (array ds (each cell_of others)) ≡ cell_or R m s (each cell_of atoms) (array_of o) z
  cell_other m s atoms others ds o z z' found hd ha same hf hs =
      (λ i. Gives (array (hd i) (ha i))) ∙ cell_past m s (each cell_of atoms) (array_of o) z (ap (λ z. place_below z m) (sym same) ∙ sym hf ∙ hs)

  -- the same of the array of a value
  pub reversed_end : (a : TermExpr) (ds dims : List ℕ) (atoms all : List TermAtom) → ds ≡ dims_of typed_rules (term_of a) → each cell_of atoms ≡ atoms_of typed_rules (term_of a) → 1 ≤ length ds
      → dims ≡ get_or ds 0 0 ∷ take (length ds - 1) (drop 1 ds) → all ≡ joined (onto (runs (get_or ds 0 0) (product (take (length ds - 1) (drop 1 ds))) atoms) [])
      → Gives (array dims (each cell_of all)) ≡ reversed R (array_of a)
  reversed_end a ds dims atoms all hd ha least h e =
      ap (λ d. Gives (array d (each cell_of all))) h
      ∙ reversed_is ds atoms all (get_or ds 0 0) (take (length ds - 1) (drop 1 ds)) (split_first ds least) e
      ∙ (λ i. reversed R (array (hd i) (ha i)))

  pub taken_end : (a : TermExpr) (ds dims : List ℕ) (atoms all : List TermAtom) (k : ℕ) → ds ≡ dims_of typed_rules (term_of a) → each cell_of atoms ≡ atoms_of typed_rules (term_of a) → 1 ≤ length ds
      → dims ≡ k ∷ take (length ds - 1) (drop 1 ds) → all ≡ take (k * product (take (length ds - 1) (drop 1 ds))) atoms
      → Gives (array dims (each cell_of all)) ≡ taken R k (array_of a)
  taken_end a ds dims atoms all k hd ha least h e =
      ap (λ d. Gives (array d (each cell_of all))) h
      ∙ taken_is ds atoms all k (get_or ds 0 0) (take (length ds - 1) (drop 1 ds)) (split_first ds least) e
      ∙ (λ i. taken R k (array (hd i) (ha i)))

  pub dropped_end : (a : TermExpr) (ds dims : List ℕ) (atoms all : List TermAtom) (k n : ℕ) → ds ≡ dims_of typed_rules (term_of a) → each cell_of atoms ≡ atoms_of typed_rules (term_of a) → 1 ≤ length ds
      → dims ≡ n ∷ take (length ds - 1) (drop 1 ds) → all ≡ drop (k * product (take (length ds - 1) (drop 1 ds))) atoms
      → Gives (array dims (each cell_of all)) ≡ dropped R k n (array_of a)
  dropped_end a ds dims atoms all k n hd ha least h e =
      ap (λ d. Gives (array d (each cell_of all))) h
      ∙ dropped_is ds atoms all k n (get_or ds 0 0) (take (length ds - 1) (drop 1 ds)) (split_first ds least) e
      ∙ (λ i. dropped R k n (array (hd i) (ha i)))

  pub transposed_end : (a : TermExpr) (ds inner inner' dims : List ℕ) (atoms all : List TermAtom) → ds ≡ dims_of typed_rules (term_of a) → each cell_of atoms ≡ atoms_of typed_rules (term_of a) → 2 ≤ length ds
      → inner ≡ get_or ds 0 0 ∷ take (length ds - 2) (drop 2 ds) → inner' ≡ inner → dims ≡ get_or ds 1 0 ∷ inner'
      → all ≡ joined (each joined (columns (get_or ds 1 0) (each (runs (get_or ds 1 0) (product (take (length ds - 2) (drop 2 ds)))) (runs (get_or ds 0 0) (get_or ds 1 0 * product (take (length ds - 2) (drop 2 ds))) atoms))))
      → Gives (array dims (each cell_of all)) ≡ transposed R (array_of a)
  transposed_end a ds inner inner' dims atoms all hd ha least hi hs h e =
      ap (λ d. Gives (array d (each cell_of all))) (h ∙ ap (λ d. get_or ds 1 0 ∷ d) (hs ∙ hi))
      ∙ transposed_is ds atoms all (get_or ds 0 0) (get_or ds 1 0) (take (length ds - 2) (drop 2 ds)) (split_two ds least) e
      ∙ (λ i. transposed R (array (hd i) (ha i)))

  pub replicated_end : (a : TermExpr) (ds dims : List ℕ) (atoms all : List TermAtom) (k lead : ℕ) (o : Option (List ℕ)) → ds ≡ dims_of typed_rules (term_of a) → each cell_of atoms ≡ atoms_of typed_rules (term_of a)
      → lead ≡ k → o ≡ formed_dims (lead ∷ ds) → o ≡ Some dims → all ≡ joined (replicate k atoms) → Gives (array dims (each cell_of all)) ≡ copied R k (array_of a)
  replicated_end a ds dims atoms all k lead o hd ha hl hf hs e =
      sym (formed_gives (k ∷ ds) dims (each cell_of all) (ap (λ k. formed_dims (k ∷ ds)) (sym hl) ∙ sym hf ∙ hs)) ∙ copied_is ds atoms all k e ∙ (λ i. copied R k (array (hd i) (ha i)))

-- lists of so many items
pub one_item : {A : Type 0} (ts : List A) (x : A) → 1 ≤ length ts → length ts < 2 → x ≡ get_or ts 0 x → x ∷ [] ≡ ts
one_item [] x least below h = absurd (let f : ⊥ = omega (arith, least) in f)
one_item (t ∷ t' ∷ ts) x least below h = absurd (let f : ⊥ = omega (arith, below) in f)
one_item (t ∷ []) x least below h = ap (λ x. x ∷ []) h

pub three_items : {A : Type 0} (ts : List A) (x y z : A) → 3 ≤ length ts → length ts < 4 → x ≡ get_or ts 0 x → y ≡ get_or ts 1 y → z ≡ get_or ts 2 z → x ∷ y ∷ z ∷ [] ≡ ts
three_items [] x y z least below h k l = absurd (let f : ⊥ = omega (arith, least) in f)
three_items (t ∷ []) x y z least below h k l = absurd (let f : ⊥ = omega (arith, least) in f)
three_items (t ∷ t' ∷ []) x y z least below h k l = absurd (let f : ⊥ = omega (arith, least) in f)
three_items (t ∷ t' ∷ t'' ∷ u ∷ ts) x y z least below h k l = absurd (let f : ⊥ = omega (arith, below) in f)
three_items (t ∷ t' ∷ t'' ∷ []) x y z least below h k l = λ i. h i ∷ k i ∷ l i ∷ []
