-- Moves that keep a type, and the rules that frames, empty frames and forms over an array have in common.
use Rattle.std.proofs.Common.{◌≡◌, refl, sym, ◌∙◌, ap, ℕ, suc, ◌*◌, arith, List, [], ◌∷◌, ◌++◌, length, Bool, true, false}
use Rattle.std.specs.Prelude.{◌==◌, ⊤}
use Rattle.std.proofs.lemmas.Bool.Decides.{nat_tests}
use Rattle.core_syntax.specs.declared.index.Sort.TheVariants as sort
use Rattle.core_syntax.specs.declared.errors.TrapKind.TheVariants as trap
use Rattle.core_syntax.specs.Syntax.{Index, Ty, Arr}
use Rattle.core_syntax.specs.Lists.{each, Each, joined, product}
use Rattle.core_syntax.specs.Fits.{forms}
use Rattle.core_syntax.specs.Value.{Valuation, shape_val, then_shape}
use Rattle.core_syntax.specs.Sorts.{IsSorted}
use Rattle.core_syntax.specs.TypeEqual.{Same}
use Rattle.core_syntax.specs.Prims.{array_of}
use Rattle.core_syntax.specs.Typing.{numbers, OnArr, Takes, IsAtomType, defs_only}
use Rattle.core_syntax.specs.Kinds.{IsWellFormed}
use Rattle.core_syntax.specs.Terms.{TNoAtoms, TFrame, Terms, no_terms, more_terms, Cell, term_items, term_list, scalar_of}
use Rattle.core_syntax.specs.Move.{Move, Rests, Trapped, Goes, Lost, first_move}
use Rattle.core_syntax.specs.Rules.{dims_of, atoms_of, goes_empty, collapse, over_value, over_atoms}
use Rattle.core_syntax.specs.Typed.{typed, typed_rules, TypedTerm, Whole, closed, atom_type, shape_of}
use Rattle.core_syntax.specs.TermTyping.{Notes, HasTerm, TermsHave, HasCell, term_count}
use Rattle.core_syntax.proofs.Equality.{same_refl, same_sym, same_trans}
use Rattle.core_syntax.proofs.Unique.{then_val}
use Rattle.reduction_laws.proofs.putting.TermSubst.{term_same}
use Rattle.reduction_laws.proofs.steps.Counts.{product-append, zero_times, each_with, each_joined, joined_count}
use Rattle.reduction_laws.proofs.steps.Parts.{IsArr, Parts, parts_of, fits, array_has, type_formed, closed_shape, numbers_val, numbers_sorted}

-- a move is not lost: where it goes P holds, and where it rests V does
abbrev pub Fine : {A : Type 0} → (A → Type 0) → Type 0 → Move A → Type 0
Fine P V Rests = V
Fine P V (Trapped k) = ⊤
Fine P V (Goes a) = P a
Fine P V Lost = ⊥

pub first_fine : {A B : Type 0} (P : A → Type 0) (V : Type 0) (Q : B → Type 0) (W : Type 0) (m : Move A) (f : A → B) (later : Move B)
    → Fine P V m → ((a : A) → P a → Q (f a)) → (V → Fine Q W later) → Fine Q W (first_move m f later)
first_fine P V Q W Rests f later h g k = k h
first_fine P V Q W (Trapped q) f later h g k = tt
first_fine P V Q W (Goes a) f later h g k = g a h
first_fine P V Q W Lost f later h g k = absurd h

pub fine_to : {A : Type 0} (P Q : A → Type 0) (V : Type 0) (m : Move A) → ((a : A) → P a → Q a) → Fine P V m → Fine Q V m
fine_to P Q V Rests f h = h
fine_to P Q V (Trapped k) f h = tt
fine_to P Q V (Goes a) f h = f a h
fine_to P Q V Lost f h = absurd h

-- a test on which a move hangs
pub fine_either : {A : Type 0} (P : A → Type 0) (V : Type 0) (b : Bool) (x y : Move A) → (b ≡ true → Fine P V x) → (b ≡ false → Fine P V y)
    → Fine P V (elim b as (λ b. Move A) [ true ↦ x | false ↦ y ])
fine_either P V true x y f g = f refl
fine_either P V false x y f g = g refl

pub is_zero : (n : ℕ) → (n == 0) ≡ true → n ≡ 0
is_zero n e = grind (arith, nat_tests)

pub not_zero : (n : ℕ) → (n == 0) ≡ false → n ≡ 0 → ⊥
not_zero n e h = grind (arith, nat_tests)

terms_counted : (ts : List TypedTerm) → term_count (term_list ts) ≡ length ts
terms_counted [] = refl
terms_counted (t ∷ ts) = ap suc (terms_counted ts)

items_counted : (ts : Terms typed) → length (term_items ts) ≡ term_count ts
items_counted no_terms = refl
items_counted (more_terms t ts) = ap suc (items_counted ts)

pub length_of_each : {A B : Type 0} (f : A → B) (xs : List A) → length (each f xs) ≡ length xs
length_of_each f [] = refl
length_of_each f (x ∷ xs) = ap suc (length_of_each f xs)

module _ (D : List Ty) where
  abbrev Has : Ty → TypedTerm → Type 0
  Has T t = HasTerm (defs_only D) t T

  -- `empty`
  pub empty_fine : (W : Type 0) (dims : List ℕ) (n b : Ty) (i : Index) (T : Ty) → product dims ≡ 0 → IsAtomType (defs_only D) n → Same n b → dims ≡ shape_val closed i
      → Takes (defs_only D) (array_of b i) T → Fine (Has T) W (goes_empty typed_rules dims n)
  empty_fine W dims n b i T z ok e d k =
      fine_either (Has T) W (forms dims) (Goes (TNoAtoms dims n)) (Trapped trap.Size)
      (λ f. fits D (TNoAtoms dims n) n (numbers dims) b i T (ok, ((ok.0, numbers_sorted [] dims, ok.1), same_refl (array_of n (numbers dims))), z) e (numbers_val closed dims ∙ d) k)
      (λ f. tt)

  -- the value of a frame before a cell
  framed_val : (ns : List ℕ) (s : Index) → ns ++ shape_val closed s ≡ shape_val closed (then_shape (numbers ns) s)
  framed_val ns s = sym (then_val closed (numbers ns) s ∙ ap (λ z. z ++ shape_val closed s) (numbers_val closed ns))

  pub none_fine : (W : Type 0) (w : Whole) (T : Ty) → IsWellFormed 0 [] w.cell → OnArr w.cell (λ a s. Takes (defs_only D) (array_of a (then_shape (numbers w.dims) s)) T) → product w.dims ≡ 0
      → Fine (Has T) W (goes_empty typed_rules (w.dims ++ shape_val closed (shape_of w.cell)) (atom_type w.cell))
  none_fine W w T f h z = by w.cell f h
    where
      by : (c : Ty) → IsWellFormed 0 [] c → OnArr c (λ a s. Takes (defs_only D) (array_of a (then_shape (numbers w.dims) s)) T)
          → Fine (Has T) W (goes_empty typed_rules (w.dims ++ shape_val closed (shape_of c)) (atom_type c))
      by (Arr at a s) f k =
          empty_fine W (w.dims ++ shape_val closed s) a a (then_shape (numbers w.dims) s) T (product-append w.dims (shape_val closed s) ∙ zero_times (product w.dims) (product (shape_val closed s)) z) (f.0, f.2) (same_refl a) (framed_val w.dims s) k
      by _ f k = absurd k

  -- a frame of terms of one type
  terms_have : (ts : List TypedTerm) (t : Ty) → Each (Has t) ts → TermsHave (defs_only D) (term_list ts) t
  terms_have [] t h = tt
  terms_have (x ∷ xs) t h = (h.0, terms_have xs t h.1)

  pub frame_has : (ds : List ℕ) (ts : List TypedTerm) (b : Ty) (s : Index) (note T : Ty) → (product ds ≡ 0 → ⊥) → length ts ≡ product ds → Each (Has (array_of b s)) ts
      → Notes (defs_only D) (array_of b s) note → Takes (defs_only D) (array_of b (then_shape (numbers ds) s)) T → Has T (TFrame ds (term_list ts) note)
  frame_has ds [] b s note T z c h n k = absurd (z (sym c))
  frame_has ds (t ∷ ts) b s note T z c h n k = (b, s, h.0, terms_have ts (array_of b s) h.1, n, k, ap suc (terms_counted ts) ∙ c)

  -- what is concluded over a frame, of a frame of dims, whose cells stand behind the frame ()
  pub framed_takes : (s : Index) (ds : List ℕ) (b : Ty) (c : Index) (T : Ty) → IsSorted [] sort.Shape s → ds ≡ shape_val closed s → Takes (defs_only D) (array_of b (then_shape s c)) T
      → Takes (defs_only D) (array_of b (then_shape (numbers ds) (then_shape (numbers []) c))) T
  framed_takes s ds b c T ok e k = (k.0, same_trans (array_of b (then_shape (numbers ds) (then_shape (numbers []) c))) (array_of b (then_shape s c)) T (same_refl b, same) k.1)
    where
      same : (v : Valuation) → shape_val v (then_shape (numbers ds) (then_shape (numbers []) c)) ≡ shape_val v (then_shape s c)
      same v =
          then_val v (numbers ds) (then_shape (numbers []) c)
          ∙ (λ i. numbers_val v ds i ++ then_val v (numbers []) c i)
          ∙ ap (λ z. z ++ shape_val v c) (e ∙ closed_shape s ok closed v)
          ∙ sym (then_val v s c)

  -- the note of a result is one of its cells, which stand behind the frame ()
  pub cell_noted : (b : Ty) (c : Index) (note : Ty) → Notes (defs_only D) (array_of b c) note → Notes (defs_only D) (array_of b (then_shape (numbers []) c)) note
  cell_noted b c note n =
      let behind : Same (array_of b (then_shape (numbers []) c)) (array_of b c) = (same_refl b, λ v. then_val v (numbers []) c) in
      ((n.0.0, (refl, (numbers_sorted [] [], (n.0.1, tt))), n.0.2), n.1, same_trans (array_of b (then_shape (numbers []) c)) (array_of b c) note behind n.2)

  -- ---- `collapse`

  atoms_joined : (a : Ty) (s : Index) (ts : Terms typed) → Each IsArr (term_items ts) → TermsHave (defs_only D) ts (array_of a s)
      → Each (λ xs. (length xs ≡ product (shape_val closed s)) × Each (λ x. HasCell (defs_only D) x a) xs) (each (atoms_of typed_rules) (term_items ts))
  atoms_joined a s no_terms v h = tt
  atoms_joined a s (more_terms t ts) v h = let p = parts_of D t a s v.0 h.0 in ((p.count ∙ ap product p.dims, p.atoms), atoms_joined a s ts v.1 h.1)

  pub collapse_has : (F : List ℕ) (t : TypedTerm) (ts : Terms typed) (a : Ty) (s : Index) (note T : Ty) → IsArr t → Each IsArr (term_items ts) → HasTerm (defs_only D) t (array_of a s) → TermsHave (defs_only D) ts (array_of a s)
      → Notes (defs_only D) (array_of a s) note → Takes (defs_only D) (array_of a (then_shape (numbers F) s)) T → suc (term_count ts) ≡ product F → Has T (collapse typed_rules F t (term_items ts) note)
  collapse_has F t ts a s (Arr at b c) T v vs h hs n k e =
      fits D (collapse typed_rules F t (term_items ts) (Arr at b c)) a (numbers (F ++ dims_of typed_rules t)) a (then_shape (numbers F) s) T
      (array_has D b a (F ++ dims_of typed_rules t) all (n.1.0, n.1.2) (n.0.0, n.0.2) (same_sym a b n.2.0) good count)
      (same_refl a)
      (numbers_val closed (F ++ dims_of typed_rules t) ∙ ap (λ z. F ++ z) p.dims ∙ framed_val F s) k
    where
      p : Parts D t a s
      p = parts_of D t a s v h

      lists : List (List (Cell typed))
      lists = each (atoms_of typed_rules) (t ∷ term_items ts)

      all : List (Cell typed)
      all = joined lists

      Good : List (Cell typed) → Type 0
      Good xs = (length xs ≡ product (shape_val closed s)) × Each (λ x. HasCell (defs_only D) x a) xs

      goods : Each Good lists
      goods = ((p.count ∙ ap product p.dims, p.atoms), atoms_joined a s ts vs hs)

      good : Each (λ x. HasCell (defs_only D) x a) all
      good = each_joined (λ x. HasCell (defs_only D) x a) lists (each_with Good (Each (λ x. HasCell (defs_only D) x a)) lists (λ xs g. g.1) goods)

      count : length all ≡ product (F ++ dims_of typed_rules t)
      count =
          joined_count (product (shape_val closed s)) lists (each_with Good (λ xs. length xs ≡ product (shape_val closed s)) lists (λ xs g. g.0) goods)
          ∙ (λ i. (ap suc (length_of_each (atoms_of typed_rules) (term_items ts) ∙ items_counted ts) ∙ e) i * product (sym p.dims i))
          ∙ sym (product-append F (dims_of typed_rules t))
  collapse_has F t ts a s _ T v vs h hs n k e = absurd n.2

  -- ---- the rules of a `t-app`, an `i-app` and an `unbox`

  pub over_fine : (W : Type 0) (t : TypedTerm) (a : Ty) (s : Index) (found note T : Ty) (form : TypedTerm → TypedTerm) (act : List (Cell typed) → Move TypedTerm) → IsArr t → HasTerm (defs_only D) t (array_of a s)
      → Notes (defs_only D) found note → OnArr found (λ b c. Takes (defs_only D) (array_of b (then_shape s c)) T)
      → ((x : Cell typed) → HasCell (defs_only D) x a → OnArr found (λ b c. Has (array_of b (then_shape (numbers []) c)) (form (scalar_of x))))
      → ((x : Cell typed) → HasCell (defs_only D) x a → Fine (Has found) W (act (x ∷ [])))
      → Fine (Has T) W (over_value typed_rules t form act note)
  over_fine W t a s (Arr at b c) (Arr at' b' c') T form act v h n k formed acted =
      fine_either (Has T) W (product (dims_of typed_rules t) == 0) (goes_empty typed_rules (dims_of typed_rules t ++ shape_val closed c') b') (over_atoms typed_rules (dims_of typed_rules t) (atoms_of typed_rules t) form act (Arr at' b' c'))
      (λ z.
      empty_fine W (dims_of typed_rules t ++ shape_val closed c') b' b (then_shape s c) T
      (product-append (dims_of typed_rules t) (shape_val closed c') ∙ zero_times (product (dims_of typed_rules t)) (product (shape_val closed c')) (is_zero (product (dims_of typed_rules t)) z))
      (n.1.0, n.1.2) (same_sym b b' n.2.0) ((λ i. p.dims i ++ sym (n.2.1 closed) i) ∙ sym (then_val closed s c)) k)
      (λ z. over (dims_of typed_rules t) (atoms_of typed_rules t) p.dims p.count p.atoms (not_zero (product (dims_of typed_rules t)) z))
    where
      p : Parts D t a s
      p = parts_of D t a s v h

      over : (ds : List ℕ) (xs : List (Cell typed)) → ds ≡ shape_val closed s → length xs ≡ product ds → Each (λ x. HasCell (defs_only D) x a) xs → (product ds ≡ 0 → ⊥)
          → Fine (Has T) W (over_atoms typed_rules ds xs form act (Arr at' b' c'))
      over [] [] e l g z = absurd (omega arith)
      over [] (x ∷ y ∷ xs) e l g z = absurd (omega arith)
      over [] (x ∷ []) e l g z =
          fine_to (Has (Arr at b c)) (Has T) W (act (x ∷ []))
          (λ u j. fits D u b c b (then_shape s c) T (term_same (defs_only D) u (Arr at b c) (array_of b c) j (same_refl b, λ v. refl) n.0) (same_refl b) (ap (λ z. z ++ shape_val closed c) e ∙ sym (then_val closed s c)) k)
          (acted x g.0)
      over (m ∷ F) xs e l g z =
          frame_has (m ∷ F) (each (λ x. form (scalar_of x)) xs) b (then_shape (numbers []) c) (Arr at' b' c') T z (length_of_each (λ x. form (scalar_of x)) xs ∙ l) (forms_have xs g)
          (cell_noted b c (Arr at' b' c') n) (framed_takes s (m ∷ F) b c T (type_formed (defs_only D) t (array_of a s) h).1 e k)
        where
          forms_have : (xs : List (Cell typed)) → Each (λ x. HasCell (defs_only D) x a) xs → Each (Has (array_of b (then_shape (numbers []) c))) (each (λ x. form (scalar_of x)) xs)
          forms_have [] g = tt
          forms_have (x ∷ xs) g = (formed x g.0, forms_have xs g.1)
  over_fine W t a s (Arr at b c) _ T form act v h n k formed acted = absurd n.2
  over_fine W t a s _ note T form act v h n k formed acted = absurd k
