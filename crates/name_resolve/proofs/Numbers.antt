-- The numbers of refusals of indices and of types.
use Rattle.std.proofs.Common.{◌≡◌, subst, ℕ, ◌≤◌, arith, pos, negsuc, List, [], ◌∷◌, Bool, true, false, Option, Some, None, Ok, Err}
use Rattle.std.specs.Bool.{⊤}
use Rattle.core_syntax.specs.declared.span.Span.{Span}
use Rattle.core_syntax.specs.Syntax.{Tys, Ty, BaseTy, TyVar, Index}
use Rattle.core_syntax.specs.declared.ty.Base.{Base}
use Rattle.core_syntax.specs.declared.index.Sort.{Sort}
use Rattle.sexp_reader.specs.declared.pieces.Leaf.TheVariants as leaf
use Rattle.sexp_reader.specs.Forms.{Form, Atom as Token, Group, Forms, no_forms, more_forms}
use Rattle.name_resolve.specs.declared.words.NameSpace.TheVariants.{Types, Indices}
use Rattle.name_resolve.specs.declared.words.IndexWord.{IndexWord}
use Rattle.name_resolve.specs.declared.words.TypeWord.{TypeWord}
use Rattle.name_resolve.specs.declared.words.TypeWord.TheVariants as type_word
use Rattle.name_resolve.specs.declared.words.Quantifier.{Quantifier}
use Rattle.name_resolve.specs.declared.words.Quantifier.TheVariants as quantifier
use Rattle.name_resolve.specs.Binders.{Binder, binder, pair_binder, binders, distinct_behind, bound_names}
use Rattle.name_resolve.specs.IndexForms.{index_head, index_made, index, indices}
use Rattle.name_resolve.specs.Lists.{Two, form_place, pair, some_listed}
use Rattle.name_resolve.specs.Means.{body}
use Rattle.name_resolve.specs.Reading.{Read, Refusal, mapped, with, both, three, asked, tested}
use Rattle.name_resolve.specs.Scopes.{Name, Scopes, under, number_of, looked_up}
use Rattle.name_resolve.specs.TypeForms.{sort_of, pair_sort, pair_sorts, type_head, named_ty, arrow, forall, quantified, list_ty, ty, arrays_in, arrays, array_ty, types, pair_array, pair_arrays}
use Rattle.name_resolve.specs.Words.{base_word, sort_named}

-- what is read has no refusal of another number
abbrev pub Numbered : {A : Type 0} → Read A → Type 0
Numbered (Ok a) = ⊤
Numbered (Err r) = (7 ≤ r.0) × (r.0 ≤ 12)

pub numbered : {A : Type 0} (r : Read A) (e : Refusal) → Numbered r → r ≡ Err e → (7 ≤ e.0) × (e.0 ≤ 12)
numbered r e h p = subst Numbered p h

module _ {A B : Type 0} where
  pub mapped_n : (f : A → B) (r : Read A) → Numbered r → Numbered (mapped f r)
  mapped_n f (Ok a) h = tt
  mapped_n f (Err e) h = h

  pub with_n : (r : Read A) (f : A → Read B) → Numbered r → ((a : A) → Numbered (f a)) → Numbered (with r f)
  with_n (Ok a) f h k = k a
  with_n (Err e) f h k = h

  pub asked_n : (at : Span) (o : Option A) (f : A → Read B) → ((a : A) → Numbered (f a)) → Numbered (asked at o f)
  asked_n at (Some a) f k = k a
  asked_n at None f k = (omega arith, omega arith)

pub both_n : {A B C : Type 0} (f : A → B → C) (r : Read A) (s : Read B) → Numbered r → Numbered s → Numbered (both f r s)
both_n f (Ok a) s h k = mapped_n (f a) s k
both_n f (Err e) s h k = h

pub three_n : {A B C D : Type 0} (f : A → B → C → D) (r : Read A) (s : Read B) (t : Read C) → Numbered r → Numbered s → Numbered t → Numbered (three f r s t)
three_n f (Ok a) s t h k l = both_n (f a) s t k l
three_n f (Err e) s t h k l = h

pub tested_n : {A : Type 0} (at : Span) (b : Bool) (r : Read A) → Numbered r → Numbered (tested at b r)
tested_n at true r h = h
tested_n at false r h = (omega arith, omega arith)

pub seven : (7 ≤ 7) × (7 ≤ 12)
seven = (omega arith, omega arith)

looked_n : {A : Type 0} (at : Span) (f : ℕ → A) (x : Name) (ys : List Name) → Numbered (looked_up at f x ys)
looked_n {A} at f x ys = go (number_of x ys)
  where
    go : (o : Option ℕ) → Numbered {A = A} (elim o as (λ _. Read A) [ Some k ↦ Ok (f k) | None ↦ Err (8, at) ])
    go (Some k) = tt
    go None = (omega arith, omega arith)

-- binders
distinct_n : (before : List Name) (bs : List Binder) → Numbered (distinct_behind before bs)
distinct_n before [] = tt
distinct_n before (b ∷ bs) = go (number_of b.name before) (distinct_n (b.name ∷ before) bs)
  where
    go : (o : Option ℕ) → Numbered (distinct_behind (b.name ∷ before) bs) → Numbered {A = List Name} (elim o as (λ _. Read (List Name)) [ Some k ↦ Err (9, b.at) | None ↦ mapped (λ xs. b.name ∷ xs) (distinct_behind (b.name ∷ before) bs) ])
    go (Some k) h = (omega arith, omega arith)
    go None h = mapped_n (λ xs. b.name ∷ xs) (distinct_behind (b.name ∷ before) bs) h

pub bound_n : (at : Span) (o : Option (List Binder)) → Numbered (bound_names at o)
bound_n at o = asked_n at o (distinct_behind []) (distinct_n [])

-- indices
mutual
  pub index_n : (xs : List Name) (f : Form) → Numbered (index xs f)
  index_n xs (Token at (leaf.Int (pos n))) = tt
  index_n xs (Token at (leaf.Int (negsuc n))) = seven
  index_n xs (Token at (leaf.Bool b)) = seven
  index_n xs (Token at (leaf.Char c)) = seven
  index_n xs (Token at (leaf.Text t)) = seven
  index_n xs (Token at (leaf.Symbol x)) = looked_n at _ x xs
  index_n xs (Group at no_forms) = seven
  index_n xs (Group at (more_forms f fs)) = go (index_head f) (indices_n xs fs)
    where
      go : (o : Option IndexWord) → Numbered (indices xs fs) → Numbered (elim o as (λ _. Read Index) [ Some w ↦ mapped (index_made w at) (indices xs fs) | None ↦ Err (7, at) ])
      go (Some w) h = mapped_n (index_made w at) (indices xs fs) h
      go None h = seven

  pub indices_n : (xs : List Name) (fs : Forms) → Numbered (indices xs fs)
  indices_n xs no_forms = tt
  indices_n xs (more_forms f fs) = both_n _ (index xs f) (indices xs fs) (index_n xs f) (indices_n xs fs)

-- sorts
sort_n : (f : Form) → Numbered (sort_of f)
sort_n (Token at (leaf.Int z)) = seven
sort_n (Token at (leaf.Bool b)) = seven
sort_n (Token at (leaf.Char c)) = seven
sort_n (Token at (leaf.Text t)) = seven
sort_n (Token at (leaf.Symbol x)) = asked_n at (sort_named x) (λ s. Ok s) (λ s. tt)
sort_n (Group at fs) = seven

pair_sort_n : (f : Form) → Numbered (pair_sort f)
pair_sort_n f = go (pair f)
  where
    go : (o : Option Two) → Numbered {A = Sort} (elim o as (λ _. Read Sort) [ Some p ↦ sort_of p.right | None ↦ Err (7, form_place f) ])
    go (Some p) = sort_n p.right
    go None = seven

pub pair_sorts_n : (fs : Forms) → Numbered (pair_sorts fs)
pair_sorts_n no_forms = tt
pair_sorts_n (more_forms f fs) = both_n _ (pair_sort f) (pair_sorts fs) (pair_sort_n f) (pair_sorts_n fs)

-- types
named_n : (Γ : Scopes) (at : Span) (x : Name) → Numbered (named_ty Γ at x)
named_n Γ at x = go (base_word x)
  where
    go : (o : Option Base) → Numbered {A = Ty} (elim o as (λ _. Read Ty) [ Some b ↦ Ok (BaseTy at b) | None ↦ looked_up at (TyVar at) x Γ.types ])
    go (Some b) = tt
    go None = looked_n at _ x Γ.types

arrow_n : (at : Span) (p : Form) (inputs : Read Tys) (answer : Read Ty) → Numbered inputs → Numbered answer → Numbered (arrow at p inputs answer)
arrow_n at p inputs answer h k = asked_n at (some_listed p) _ (λ fs. both_n _ inputs _ h (mapped_n _ answer k))

forall_n : (Γ : Scopes) (at : Span) (p : Form) (body : Scopes → Read Ty) → ((Δ : Scopes) → Numbered (body Δ)) → Numbered (forall Γ at p body)
forall_n Γ at p body h =
    asked_n at (some_listed p) _ (λ fs. with_n (bound_names at (binders (binder Types) fs)) _ (bound_n at (binders (binder Types) fs)) (λ xs. mapped_n _ _ (mapped_n _ (body (under Types xs Γ)) (h (under Types xs Γ)))))

quantified_n : (q : Quantifier) (Γ : Scopes) (at : Span) (p : Form) (body : Scopes → Read Ty) → ((Δ : Scopes) → Numbered (body Δ)) → Numbered (quantified q Γ at p body)
quantified_n q Γ at p body h =
    asked_n at (some_listed p) _ (λ fs. with_n (bound_names at (binders (pair_binder Indices) fs)) _ (bound_n at (binders (pair_binder Indices) fs))
    (λ xs. both_n _ (pair_sorts fs) _ (pair_sorts_n fs) (mapped_n _ (body (under Indices xs Γ)) (h (under Indices xs Γ)))))

list_ty_n : (Γ : Scopes) (at : Span) (o : Option TypeWord) (p q : Form) (inputs : Read Tys) (first second : Scopes → Read Ty) → Numbered inputs → ((Δ : Scopes) → Numbered (first Δ)) → ((Δ : Scopes) → Numbered (second Δ)) →
    Numbered (list_ty Γ at o p q inputs first second)
list_ty_n Γ at (Some type_word.Arr) p q inputs first second h k l = both_n _ (first Γ) (index Γ.indices q) (k Γ) (index_n Γ.indices q)
list_ty_n Γ at (Some type_word.Arrow) p q inputs first second h k l = arrow_n at p inputs (second Γ) h (l Γ)
list_ty_n Γ at (Some type_word.Forall) p q inputs first second h k l = forall_n Γ at p second l
list_ty_n Γ at (Some type_word.Pi) p q inputs first second h k l = quantified_n quantifier.Pi Γ at p second l
list_ty_n Γ at (Some type_word.Sigma) p q inputs first second h k l = quantified_n quantifier.Sigma Γ at p second l
list_ty_n Γ at None p q inputs first second h k l = seven

mutual
  pub ty_n : (Γ : Scopes) (f : Form) → Numbered (ty Γ f)
  ty_n Γ (Token at (leaf.Int z)) = seven
  ty_n Γ (Token at (leaf.Bool b)) = seven
  ty_n Γ (Token at (leaf.Char c)) = seven
  ty_n Γ (Token at (leaf.Text t)) = seven
  ty_n Γ (Token at (leaf.Symbol x)) = named_n Γ at x
  ty_n Γ (Group at no_forms) = seven
  ty_n Γ (Group at (more_forms f no_forms)) = seven
  ty_n Γ (Group at (more_forms f (more_forms p no_forms))) = seven
  ty_n Γ (Group at (more_forms f (more_forms p (more_forms q (more_forms g gs))))) = seven
  ty_n Γ (Group at (more_forms f (more_forms p (more_forms q no_forms)))) =
      list_ty_n Γ at (type_head f) p q (arrays_in Γ p) (λ Δ. ty Δ p) (λ Δ. ty Δ q) (arrays_in_n Γ p) (λ Δ. ty_n Δ p) (λ Δ. ty_n Δ q)

  arrays_in_n : (Γ : Scopes) (f : Form) → Numbered (arrays_in Γ f)
  arrays_in_n Γ (Group at fs) = arrays_n Γ fs
  arrays_in_n Γ (Token at l) = tt

  arrays_n : (Γ : Scopes) (fs : Forms) → Numbered (arrays Γ fs)
  arrays_n Γ no_forms = tt
  arrays_n Γ (more_forms f fs) = both_n _ _ (arrays Γ fs) (mapped_n _ (ty Γ f) (ty_n Γ f)) (arrays_n Γ fs)

pub array_ty_n : (Γ : Scopes) (f : Form) → Numbered (array_ty Γ f)
array_ty_n Γ f = mapped_n _ (ty Γ f) (ty_n Γ f)

pub types_n : (Γ : Scopes) (fs : Forms) → Numbered (types Γ fs)
types_n Γ no_forms = tt
types_n Γ (more_forms f fs) = both_n _ (ty Γ f) (types Γ fs) (ty_n Γ f) (types_n Γ fs)

pair_array_n : (Γ : Scopes) (f : Form) → Numbered (pair_array Γ f)
pair_array_n Γ f = go (pair f)
  where
    go : (o : Option Two) → Numbered {A = Ty} (elim o as (λ _. Read Ty) [ Some p ↦ array_ty Γ p.right | None ↦ Err (7, form_place f) ])
    go (Some p) = array_ty_n Γ p.right
    go None = seven

pub pair_arrays_n : (Γ : Scopes) (fs : Forms) → Numbered (pair_arrays Γ fs)
pair_arrays_n Γ no_forms = tt
pair_arrays_n Γ (more_forms f fs) = both_n _ (pair_array Γ f) (pair_arrays Γ fs) (pair_array_n Γ f) (pair_arrays_n Γ fs)
