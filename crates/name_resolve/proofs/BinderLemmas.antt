-- Binders that are read and tested one by one.
use Rattle.std.proofs.Common.{◌≡◌, refl, sym, ap, ◌∙◌, ℕ, zero, suc, ◌+◌, ◌<◌, ◌≤◌, arith, List, [], ◌∷◌, ◌++◌, map, length, take, drop, get_or, slice_index_or, Option, Some, None, Ok, Err, true, false, is_some}
use Rattle.core_syntax.specs.declared.span.Span.{Span}
use Rattle.core_syntax.specs.Lists.{onto}
use Rattle.sexp_reader.specs.declared.sexp.Sexp.{Sexp}
use Rattle.sexp_reader.specs.Forms.{Forms, no_forms, more_forms, form_of, forms_of, forms_count}
use Rattle.name_resolve.specs.declared.binders.Binder.{Binder}
use Rattle.name_resolve.specs.declared.binders.Listing.{Listing}
use Rattle.name_resolve.specs.declared.words.NameSpace.{NameSpace}
use Rattle.name_resolve.specs.declared.errors.NameRefusal.{NameRefusal}
use Rattle.name_resolve.specs.declared.errors.NameRefusal.TheVariants.{Refused, Memory}
use Rattle.name_resolve.specs.Answers.{Refuses}
use Rattle.name_resolve.specs.Binders.{one_more, binders, distinct_behind, bound_names}
use Rattle.name_resolve.specs.Binders as spec
use Rattle.name_resolve.specs.Held.{held, held_all, held_names, listed_binder, listed_binders, read_binders}
use Rattle.name_resolve.specs.Reading.{Read, mapped, asked}
use Rattle.name_resolve.specs.Scopes.{Name, number_of}
use Rattle.name_resolve.proofs.Loops.{forms_behind, forms_end}

-- a list behind a place, by its first item, and a list up to one more
pub drop_item : {A : Type 0} (k : ℕ) (xs : List A) (d : A) → k < length xs → drop k xs ≡ slice_index_or xs k d ∷ drop (k + 1) xs
drop_item k [] d h = absurd (omega arith)
drop_item zero (x ∷ xs) d h = refl
drop_item (suc k) (x ∷ xs) d h = let at : suc k + 1 ≡ suc (k + 1) = omega arith in drop_item k xs d (omega arith) ∙ ap (λ n. slice_index_or xs k d ∷ drop n (x ∷ xs)) (sym at)

pub take_item : {A : Type 0} (k : ℕ) (xs : List A) (d : A) → k < length xs → take (k + 1) xs ≡ take k xs ++ slice_index_or xs k d ∷ []
take_item k [] d h = absurd (omega arith)
take_item zero (x ∷ xs) d h = refl
take_item (suc k) (x ∷ xs) d h = let at : suc k + 1 ≡ suc (k + 1) = omega arith in ap (λ n. take n (x ∷ xs)) at ∙ ap (λ ys. x ∷ ys) (take_item k xs d (omega arith))

pub drop_all : {A : Type 0} (k : ℕ) (xs : List A) → length xs ≤ k → drop k xs ≡ []
drop_all zero [] h = refl
drop_all (suc k) [] h = refl
drop_all zero (x ∷ xs) h = absurd (omega arith)
drop_all (suc k) (x ∷ xs) h = drop_all k xs (omega arith)

pub take_all : {A : Type 0} (k : ℕ) (xs : List A) → length xs ≤ k → take k xs ≡ xs
take_all zero [] h = refl
take_all (suc k) [] h = refl
take_all zero (x ∷ xs) h = absurd (omega arith)
take_all (suc k) (x ∷ xs) h = ap (λ ys. x ∷ ys) (take_all k xs (omega arith))

pub map_append : {A B : Type 0} (f : A → B) (xs ys : List A) → map f (xs ++ ys) ≡ map f xs ++ map f ys
map_append f [] ys = refl
map_append f (x ∷ xs) ys = ap (λ zs. f x ∷ zs) (map_append f xs ys)

join_assoc : {A : Type 0} (xs ys zs : List A) → (xs ++ ys) ++ zs ≡ xs ++ (ys ++ zs)
join_assoc [] ys zs = refl
join_assoc (x ∷ xs) ys zs = ap (λ ws. x ∷ ws) (join_assoc xs ys zs)

drop_more : {A : Type 0} (n : ℕ) (xs ys : List A) (x : A) → drop n xs ≡ x ∷ ys → drop (suc n) xs ≡ ys
drop_more zero [] ys x e = absurd (cc)
drop_more (suc n) [] ys x e = absurd (cc)
drop_more zero (z ∷ zs) ys x e = cc
drop_more (suc n) (z ∷ zs) ys x e = drop_more n zs ys x e

-- binders behind others
abbrev pub prefixed : List spec.Binder → Option (List spec.Binder) → Option (List spec.Binder)
prefixed xs o = elim o [ Some ys ↦ Some (xs ++ ys) | None ↦ None ]

pub prefixed-none : (bs : List Binder) (o : Option (List spec.Binder)) → bs ≡ [] → o ≡ prefixed (held_all bs) o
prefixed-none [] None e = refl
prefixed-none [] (Some ys) e = refl
prefixed-none (b ∷ bs) o e = absurd (cc)

prefixed-more : (xs : List spec.Binder) (x : spec.Binder) (o : Option (List spec.Binder)) → prefixed xs (one_more (Some x) o) ≡ prefixed (xs ++ x ∷ []) o
prefixed-more xs x None = refl
prefixed-more xs x (Some ys) = ap Some (sym (join_assoc xs (x ∷ []) ys))

module _ (listing : Listing) (space : NameSpace) (forms : List Sexp) (k : ℕ) (done : List Binder)
    (so_far : listed_binders listing space (forms_of forms) ≡ prefixed (held_all done) (listed_binders listing space (forms_of (drop k forms)))) where
  module _ (x d : Sexp) (within : k < length forms) (item : x ≡ get_or forms k d) where
    next : listed_binders listing space (forms_of forms) ≡ prefixed (held_all done) (one_more (listed_binder listing space (form_of x)) (listed_binders listing space (forms_of (drop (k + 1) forms))))
    next = so_far ∙ ap (λ fs. prefixed (held_all done) (listed_binders listing space fs)) (forms_behind k forms x d within item)

    pub binder_read : (b : Binder) (new : List Binder) → new ≡ done ++ b ∷ [] → listed_binder listing space (form_of x) ≡ Some (held b) →
        listed_binders listing space (forms_of forms) ≡ prefixed (held_all new) (listed_binders listing space (forms_of (drop (k + 1) forms)))
    binder_read b new e h =
        next ∙ ap (λ o. prefixed (held_all done) (one_more o (listed_binders listing space (forms_of (drop (k + 1) forms))))) h
        ∙ prefixed-more (held_all done) (held b) _ ∙ ap (λ bs. prefixed bs (listed_binders listing space (forms_of (drop (k + 1) forms)))) (sym (map_append held done (b ∷ [])) ∙ ap held_all (sym e))

    pub no_binder : (at : Span) → listed_binder listing space (form_of x) ≡ None → read_binders at listing space (forms_of forms) ≡ Err (7, at)
    no_binder at h = ap (λ o. asked at o (λ bs. Ok bs)) (next ∙ ap (λ o. prefixed (held_all done) (one_more o (listed_binders listing space (forms_of (drop (k + 1) forms))))) h)

  pub binders_read : (at : Span) → length forms ≤ k → read_binders at listing space (forms_of forms) ≡ Ok (held_all done)
  binders_read at h =
      ap (λ o. asked at o (λ bs. Ok bs)) (so_far ∙ ap (λ fs. prefixed (held_all done) (listed_binders listing space fs)) (forms_end k forms h))
      ∙ ap Ok (append_none (held_all done))
    where
      append_none : (xs : List spec.Binder) → xs ++ [] ≡ xs
      append_none [] = refl
      append_none (x ∷ xs) = ap (λ ys. x ∷ ys) (append_none xs)

-- names that are tested for repeats, the last first in `before`
module _ (bs : List Binder) where
  pub record TestedTo (before : List Name) (k : ℕ) : Type 0 where
    pub names : distinct_behind [] (held_all bs) ≡ mapped (λ xs. held_names (take k bs) ++ xs) (distinct_behind before (held_all (drop k bs)))
    pub count : length before ≡ k

pub not_some : (o : Option ℕ) → is_some o ≡ false → o ≡ None
not_some None h = refl
not_some (Some n) h = absurd (cc)

-- names behind names
mapped-before : (xs : List Name) (x : Name) (r : Read (List Name)) → mapped (λ ys. xs ++ ys) (mapped (λ ys. x ∷ ys) r) ≡ mapped (λ ys. (xs ++ x ∷ []) ++ ys) r
mapped-before xs x (Ok ys) = ap Ok (sym (join_assoc xs (x ∷ []) ys))
mapped-before xs x (Err e) = refl

pub tested_none : (bs : List Binder) → TestedTo bs [] 0
tested_none bs = record { names = go (distinct_behind [] (held_all bs)); count = refl }
  where
    go : (r : Read (List Name)) → r ≡ mapped (λ xs. xs) r
    go (Ok xs) = refl
    go (Err e) = refl

module _ (bs : List Binder) (before : List Name) (k : ℕ) (d : Binder) (within : k < length bs) (tested : TestedTo bs before k) where
  abbrev pub b : Binder
  b = slice_index_or bs k d

  abbrev behind : Option ℕ → Read (List Name)
  behind o = elim o [ Some n ↦ Err (9, b.at) | None ↦ mapped (λ xs. b.name.now ∷ xs) (distinct_behind (b.name.now ∷ before) (held_all (drop (k + 1) bs))) ]

  tested_next : distinct_behind [] (held_all bs) ≡ mapped (λ xs. held_names (take k bs) ++ xs) (behind (number_of b.name.now before))
  tested_next = tested.names ∙ ap (λ xs. mapped (λ ys. held_names (take k bs) ++ ys) (distinct_behind before (held_all xs))) (drop_item k bs d within)

  pub tested_one : number_of b.name.now before ≡ None → TestedTo bs (b.name.now ∷ before) (k + 1)
  tested_one h = record {
    names = tested_next ∙ ap (λ o. mapped (λ xs. held_names (take k bs) ++ xs) (behind o)) h ∙ mapped-before (held_names (take k bs)) b.name.now _
        ∙ ap (λ ns. mapped (λ xs. ns ++ xs) (distinct_behind (b.name.now ∷ before) (held_all (drop (k + 1) bs)))) (sym (map_append (λ b. b.name.now) (take k bs) (b ∷ [])) ∙ ap held_names (sym (take_item k bs d within)));
    count = omega (arith, tested.count);
  }

  pub tested_repeat : is_some (number_of b.name.now before) ≡ true → distinct_behind [] (held_all bs) ≡ Err (9, b.at)
  tested_repeat h = tested_next ∙ ap (mapped (λ xs. held_names (take k bs) ++ xs)) (go (number_of b.name.now before) h)
    where
      go : (o : Option ℕ) → is_some o ≡ true → behind o ≡ Err (9, b.at)
      go (Some n) h = refl
      go None h = absurd (cc)

pub tested_all : (bs : List Binder) (before : List Name) (k : ℕ) → length bs ≤ k → TestedTo bs before k → distinct_behind [] (held_all bs) ≡ Ok (held_names bs)
tested_all bs before k h tested =
    tested.names ∙ ap (λ xs. mapped (λ ys. held_names (take k bs) ++ ys) (distinct_behind before (held_all xs))) (drop_all k bs h)
    ∙ ap Ok (append_none (held_names (take k bs)) ∙ ap held_names (take_all k bs h))
  where
    append_none : (xs : List Name) → xs ++ [] ≡ xs
    append_none [] = refl
    append_none (x ∷ xs) = ap (λ ys. x ∷ ys) (append_none xs)

-- the names of binders that were read
module _ (at : Span) (listing : Listing) (space : NameSpace) (fs : Forms) where
  abbrev all : Option (List spec.Binder)
  all = listed_binders listing space fs

  pub binders_refused : (e : NameRefusal) → Refuses e (read_binders at listing space fs) → Refuses e (bound_names at all)
  binders_refused Memory h = tt
  binders_refused (Refused n p) h = go all h
    where
      go : (o : Option (List spec.Binder)) → asked at o (λ bs. Ok bs) ≡ Err (n, p) → asked at o (distinct_behind []) ≡ Err (n, p)
      go (Some bs) h = absurd (cc)
      go None h = let e : (7, at) ≡ (n, p) = cc in ap Err e

  some_read : (bs : List spec.Binder) → read_binders at listing space fs ≡ Ok bs → all ≡ Some bs
  some_read bs h = go all h
    where
      go : (o : Option (List spec.Binder)) → asked at o (λ bs. Ok bs) ≡ Ok bs → o ≡ Some bs
      go (Some cs) h = cc
      go None h = absurd (cc)

  pub bound_distinct : (bs : List spec.Binder) → read_binders at listing space fs ≡ Ok bs → bound_names at all ≡ distinct_behind [] bs
  bound_distinct bs h = ap (λ o. asked at o (distinct_behind [])) (some_read bs h)

  counted : (gs : Forms) (bs : List spec.Binder) → listed_binders listing space gs ≡ Some bs → length bs ≡ forms_count gs
  counted no_forms bs h = let e : [] ≡ bs = cc in ap length (sym e)
  counted (more_forms g gs) bs h = go (listed_binder listing space g) (listed_binders listing space gs) h (counted gs)
    where
      go : (b : Option spec.Binder) (o : Option (List spec.Binder)) → one_more b o ≡ Some bs → ((cs : List spec.Binder) → o ≡ Some cs → length cs ≡ forms_count gs) → length bs ≡ 1 + forms_count gs
      go (Some b) (Some cs) h ih = let e : b ∷ cs ≡ bs = cc in omega (arith, ap length e, ih cs refl)
      go (Some b) None h ih = absurd (cc)
      go None o h ih = absurd (cc)

  length_held : (bs : List Binder) → length (held_all bs) ≡ length bs
  length_held [] = refl
  length_held (b ∷ bs) = omega (arith, length_held bs)

  pub count_read : (bs : List Binder) → read_binders at listing space fs ≡ Ok (held_all bs) → length bs ≡ forms_count fs
  count_read bs h = omega (arith, length_held bs, counted fs (held_all bs) (some_read (held_all bs) h))

-- names that are entered one by one
pub length_names : (bs : List Binder) → length (held_names bs) ≡ length bs
length_names [] = refl
length_names (b ∷ bs) = omega (arith, length_names bs)

pub length_onto : (xs ys : List Name) → length (onto xs ys) ≡ length xs + length ys
length_onto [] ys = omega arith
length_onto (x ∷ xs) ys = omega (arith, length_onto xs (x ∷ ys))

pub onto_one : (xs : List Name) (x : Name) (ys : List Name) → onto (xs ++ x ∷ []) ys ≡ x ∷ onto xs ys
onto_one [] x ys = refl
onto_one (z ∷ xs) x ys = onto_one xs x (z ∷ ys)

pub drop_onto : (xs ys : List Name) → drop (length xs) (onto xs ys) ≡ ys
drop_onto xs ys = go xs ys (length xs) refl
  where
    go : (xs ys : List Name) (n : ℕ) → n ≡ length xs → drop n (onto xs ys) ≡ ys
    go [] ys zero e = refl
    go [] ys (suc n) e = absurd (omega arith)
    go (x ∷ xs) ys zero e = absurd (omega arith)
    go (x ∷ xs) ys (suc n) e = drop_more n (onto xs (x ∷ ys)) ys x (go xs (x ∷ ys) n (omega arith))
