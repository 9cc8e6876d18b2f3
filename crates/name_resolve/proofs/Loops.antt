-- Lists that are read form by form.
use Rattle.std.proofs.Common.{◌≡◌, refl, sym, ap, ◌∙◌, ℕ, zero, suc, ◌+◌, ◌<◌, ◌≤◌, arith, List, [], ◌∷◌, ◌++◌, length, drop, get_or, Ok, Err}
use Rattle.sexp_reader.specs.declared.sexp.Sexp.{Sexp}
use Rattle.sexp_reader.specs.Forms.{Form, Forms, no_forms, more_forms, form_of, forms_of}
use Rattle.name_resolve.specs.declared.errors.NameRefusal.{NameRefusal}
use Rattle.name_resolve.specs.Reading.{Read, mapped, both}
use Rattle.name_resolve.specs.Answers.{Refuses}
use Rattle.name_resolve.proofs.Refusals.{refuses-mapped, refuses-both, same_refusal}

-- the list behind a place, by its first item
pub forms_behind : (k : ℕ) (xs : List Sexp) (x d : Sexp) → k < length xs → x ≡ get_or xs k d → forms_of (drop k xs) ≡ more_forms (form_of x) (forms_of (drop (k + 1) xs))
forms_behind k [] x d h e = absurd (omega arith)
forms_behind zero (y ∷ ys) x d h e = ap (λ z. more_forms (form_of z) (forms_of ys)) (sym e)
forms_behind (suc k) (y ∷ ys) x d h e =
    let at : suc k + 1 ≡ suc (k + 1) = omega arith in
    forms_behind k ys x d (omega arith) e ∙ ap (λ n. more_forms (form_of x) (forms_of (drop n (y ∷ ys)))) (sym at)

-- behind the last
pub forms_end : (k : ℕ) (xs : List Sexp) → length xs ≤ k → forms_of (drop k xs) ≡ no_forms
forms_end zero [] h = refl
forms_end (suc k) [] h = refl
forms_end zero (x ∷ xs) h = absurd (omega arith)
forms_end (suc k) (x ∷ xs) h = forms_end k xs (omega arith)

-- what was read, before a list
abbrev pub before : {V A L : Type 0} → (V → A) → (A → L → L) → List V → L → L
before view cons [] l = l
before view cons (v ∷ vs) l = cons (view v) (before view cons vs l)

pub before-one : {V A L : Type 0} (view : V → A) (cons : A → L → L) (vs : List V) (v : V) (l : L) → before view cons (vs ++ v ∷ []) l ≡ before view cons vs (cons (view v) l)
before-one view cons [] v l = refl
before-one view cons (w ∷ ws) v l = ap (cons (view w)) (before-one view cons ws v l)

-- before the first
pub loop_init : {V A L : Type 0} (view : V → A) (cons : A → L → L) (all : Forms → Read L) (forms : List Sexp) (done : List V) → done ≡ [] →
    all (forms_of forms) ≡ mapped (before view cons done) (all (forms_of (drop 0 forms)))
loop_init view cons all forms [] e = go (all (forms_of forms))
  where
    go : (r : Read _) → r ≡ mapped (before view cons []) r
    go (Ok a) = refl
    go (Err e) = refl
loop_init view cons all forms (v ∷ vs) e = absurd (cc)

pub mapped-mapped : {A B C : Type 0} (f : B → C) (g : A → B) (r : Read A) → mapped f (mapped g r) ≡ mapped (λ a. f (g a)) r
mapped-mapped f g (Ok a) = refl
mapped-mapped f g (Err e) = refl

-- a reading of a list by the reading of each form
module _ {V A L : Type 0} (view : V → A) (one : Form → Read A) (all : Forms → Read L) (empty : L) (cons : A → L → L)
    (none : all no_forms ≡ Ok empty) (more : (f : Form) (fs : Forms) → all (more_forms f fs) ≡ both cons (one f) (all fs))
    (whole : Read L) (forms : List Sexp) (k : ℕ) (done : List V) (so_far : whole ≡ mapped (before view cons done) (all (forms_of (drop k forms)))) where
  module _ (x d : Sexp) (within : k < length forms) (item : x ≡ get_or forms k d) where
    next : whole ≡ mapped (before view cons done) (both cons (one (form_of x)) (all (forms_of (drop (k + 1) forms))))
    next = so_far ∙ ap (λ fs. mapped (before view cons done) (all fs)) (forms_behind k forms x d within item) ∙ ap (mapped (before view cons done)) (more (form_of x) (forms_of (drop (k + 1) forms)))

    -- one more is read
    pub loop_step : (v : V) (new : List V) → new ≡ done ++ v ∷ [] → one (form_of x) ≡ Ok (view v) → whole ≡ mapped (before view cons new) (all (forms_of (drop (k + 1) forms)))
    loop_step v new e read =
        next ∙ ap (λ r. mapped (before view cons done) (both cons r (all (forms_of (drop (k + 1) forms))))) read ∙ go (all (forms_of (drop (k + 1) forms)))
        ∙ ap (λ vs. mapped (before view cons vs) (all (forms_of (drop (k + 1) forms)))) (sym e)
      where
        go : (r : Read L) → mapped (before view cons done) (mapped (cons (view v)) r) ≡ mapped (before view cons (done ++ v ∷ [])) r
        go (Ok l) = ap Ok (sym (before-one view cons done v l))
        go (Err e) = refl

    -- the next is refused
    pub loop_refused : (e : NameRefusal) → Refuses e (one (form_of x)) → Refuses e whole
    loop_refused e h =
        same_refusal e whole _ next (refuses-mapped e (before view cons done) _ (refuses-both e cons (one (form_of x)) (all (forms_of (drop (k + 1) forms))) h))

  -- all are read
  pub loop_end : length forms ≤ k → whole ≡ Ok (before view cons done empty)
  loop_end h = so_far ∙ ap (λ fs. mapped (before view cons done) (all fs)) (forms_end k forms h) ∙ ap (mapped (before view cons done)) none
