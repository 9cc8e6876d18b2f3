-- Indices and types that are read are well made.
use Rattle.std.proofs.Common.{◌≡◌, refl, sym, ap, subst, ◌∙◌, ℕ, suc, ◌+◌, ◌<◌, arith, pos, negsuc, List, [], ◌∷◌, length, Option, Some, None, Ok, Err}
use Rattle.core_syntax.specs.declared.span.Span.{Span}
use Rattle.core_syntax.specs.declared.index.Sort.{Sort}
use Rattle.core_syntax.specs.declared.ty.Base.{Base}
use Rattle.core_syntax.specs.Lists.{Each}
use Rattle.core_syntax.specs.Made.{Scope, types_more, indices_more, terms_more, IsSmall, IndexMade, IndicesMade, TyMade, ArraysMade, ArrayMade}
use Rattle.core_syntax.specs.Syntax.{Index, Num, Var, Indices, end, more, index_items, Ty, BaseTy, TyVar, Fun, Forall, Pi, Sigma, Arr, Tys, no_tys, more_tys, ty_items}
use Rattle.sexp_reader.specs.declared.pieces.Leaf.TheVariants as leaf
use Rattle.sexp_reader.specs.Forms.{Form, Atom, Group, Forms, no_forms, more_forms, form_size, forms_size, forms_count}
use Rattle.sexp_reader.proofs.Short.{some_size, count_within}
use Rattle.name_resolve.specs.declared.words.IndexWord.{IndexWord}
use Rattle.name_resolve.specs.declared.words.IndexWord.TheVariants as index_word
use Rattle.name_resolve.specs.declared.words.TypeWord.{TypeWord}
use Rattle.name_resolve.specs.declared.words.TypeWord.TheVariants as type_word
use Rattle.name_resolve.specs.declared.words.NameSpace.TheVariants.{Terms, Types, Indices as IndexNames}
use Rattle.name_resolve.specs.declared.words.Quantifier.{Quantifier}
use Rattle.name_resolve.specs.declared.words.Quantifier.TheVariants as quantifier
use Rattle.name_resolve.specs.Binders.{Binder, binder, pair_binder, one_more, binders, distinct_behind, bound_names}
use Rattle.name_resolve.specs.IndexForms.{index_head, index_made, index, indices}
use Rattle.name_resolve.specs.Lists.{form_place, some_listed, pair, Two}
use Rattle.name_resolve.specs.Reading.{Read, mapped, both}
use Rattle.name_resolve.specs.Scopes.{Name, Scopes, under, number_of, HasRoom}
use Rattle.name_resolve.specs.TypeForms.{pair_sort, pair_sorts, as_array, type_head, named_ty, arrow, forall, quantified_ty, quantified, list_ty, ty, arrays_in, arrays, array_ty, types, pair_array, pair_arrays}
use Rattle.name_resolve.specs.Words.{base_word}
use Rattle.name_resolve.proofs.BinderLemmas.{length_onto}
use Rattle.name_resolve.proofs.ReadOk.{mapped_ok, with_ok, asked_ok, both_ok, looked_ok}
use Rattle.name_resolve.proofs.RoomLemmas.{room_less, room_under, listed_size, pair_size}

-- how many names are in scope
abbrev pub sizes : Scopes → Scope
sizes Γ = record { defs = length Γ.defs; types = length Γ.types; indices = length Γ.indices; terms = length Γ.terms }

pub sizes_types : (xs : List Name) (Γ : Scopes) → sizes (under Types xs Γ) ≡ types_more (length xs) (sizes Γ)
sizes_types xs Γ = ap (λ n. record (sizes Γ) { types = n }) (length_onto xs Γ.types)

pub sizes_indices : (xs : List Name) (Γ : Scopes) → sizes (under IndexNames xs Γ) ≡ indices_more (length xs) (sizes Γ)
sizes_indices xs Γ = ap (λ n. record (sizes Γ) { indices = n }) (length_onto xs Γ.indices)

pub sizes_terms : (xs : List Name) (Γ : Scopes) → sizes (under Terms xs Γ) ≡ terms_more (length xs) (sizes Γ)
sizes_terms xs Γ = ap (λ n. record (sizes Γ) { terms = n }) (length_onto xs Γ.terms)

-- as many names are bound as there are forms
binders_count : (bound : Form → Option Binder) (fs : Forms) (bs : List Binder) → binders bound fs ≡ Some bs → length bs ≡ forms_count fs
binders_count bound no_forms bs h = let e : [] ≡ bs = cc in ap length (sym e)
binders_count bound (more_forms f fs) bs h = go (bound f) (binders bound fs) h (binders_count bound fs)
  where
    go : (b : Option Binder) (o : Option (List Binder)) → one_more b o ≡ Some bs → ((cs : List Binder) → o ≡ Some cs → length cs ≡ forms_count fs) → length bs ≡ 1 + forms_count fs
    go (Some b) (Some cs) h ih = let e : b ∷ cs ≡ bs = cc in omega (arith, ap length e, ih cs refl)
    go (Some b) None h ih = absurd (cc)
    go None o h ih = absurd (cc)

distinct_count : (before : List Name) (bs : List Binder) (xs : List Name) → distinct_behind before bs ≡ Ok xs → length xs ≡ length bs
distinct_count before [] xs h = let e : [] ≡ xs = cc in ap length (sym e)
distinct_count before (b ∷ bs) xs h = go (number_of b.name before) h (distinct_count (b.name ∷ before) bs)
  where
    go : (o : Option ℕ) → ◌≡◌ {A = Read (List Name)} (elim o [ Some k ↦ Err (9, b.at) | None ↦ mapped (λ ys. b.name ∷ ys) (distinct_behind (b.name ∷ before) bs) ]) (Ok xs) →
        ((ys : List Name) → distinct_behind (b.name ∷ before) bs ≡ Ok ys → length ys ≡ length bs) → length xs ≡ suc (length bs)
    go (Some k) h ih = absurd (cc)
    go None h ih = let r = mapped_ok (λ ys. b.name ∷ ys) (distinct_behind (b.name ∷ before) bs) xs h in omega (arith, ap length r.made, ih r.part r.read)

pub names_count : (at : Span) (bound : Form → Option Binder) (fs : Forms) (xs : List Name) → bound_names at (binders bound fs) ≡ Ok xs → length xs ≡ forms_count fs
names_count at bound fs xs h =
    let r = asked_ok at (binders bound fs) (distinct_behind []) xs h in
    distinct_count [] r.part xs r.rest ∙ binders_count bound fs r.part r.is

-- the names of a list with items, as many as these, in room
pub some_count : (p : Form) (fs : Forms) → some_listed p ≡ Some fs → 0 < forms_count fs
some_count (Atom at l) fs h = absurd (cc)
some_count (Group at no_forms) fs h = absurd (cc)
some_count (Group at (more_forms g gs)) fs h = let e : more_forms g gs ≡ fs = cc in omega (arith, ap forms_count e)

-- Indices

word_made : (n : ℕ) (w : IndexWord) (at : Span) (is : Indices) → IndicesMade n is → IndexMade n (index_made w at is)
word_made n index_word.Plus at is h = h
word_made n index_word.Shape at is h = h
word_made n index_word.Join at is h = h

mutual
  pub made_index : (xs : List Name) (f : Form) (i : Index) → index xs f ≡ Ok i → IndexMade (length xs) i
  made_index xs (Atom at (leaf.Int (pos n))) i h = let e : Num at n ≡ i = cc in subst (IndexMade (length xs)) e tt
  made_index xs (Atom at (leaf.Int (negsuc n))) i h = absurd (cc)
  made_index xs (Atom at (leaf.Bool b)) i h = absurd (cc)
  made_index xs (Atom at (leaf.Char c)) i h = absurd (cc)
  made_index xs (Atom at (leaf.Text t)) i h = absurd (cc)
  made_index xs (Atom at (leaf.Symbol x)) i h = let r = looked_ok at (Var at) x xs i h in subst (IndexMade (length xs)) (sym r.made) r.within
  made_index xs (Group at no_forms) i h = absurd (cc)
  made_index xs (Group at (more_forms f fs)) i h = go (index_head f) h (made_indices xs fs)
    where
      go : (o : Option IndexWord) → ◌≡◌ {A = Read Index} (elim o [ Some w ↦ mapped (index_made w at) (indices xs fs) | None ↦ Err (7, at) ]) (Ok i) →
          ((is : Indices) → indices xs fs ≡ Ok is → IndicesMade (length xs) is) → IndexMade (length xs) i
      go (Some w) h ih = let r = mapped_ok (index_made w at) (indices xs fs) i h in subst (IndexMade (length xs)) (sym r.made) (word_made (length xs) w at r.part (ih r.part r.read))
      go None h ih = absurd (cc)

  pub made_indices : (xs : List Name) (fs : Forms) (is : Indices) → indices xs fs ≡ Ok is → IndicesMade (length xs) is
  made_indices xs no_forms is h = let e : end ≡ is = cc in subst (IndicesMade (length xs)) e tt
  made_indices xs (more_forms f fs) is h =
      let r = both_ok more (index xs f) (indices xs fs) is h in
      subst (IndicesMade (length xs)) (sym r.made) (made_index xs f r.left r.read, made_indices xs fs r.right r.later)

pub indices_count : (xs : List Name) (fs : Forms) (is : Indices) → indices xs fs ≡ Ok is → length (index_items is) ≡ forms_count fs
indices_count xs no_forms is h = let e : end ≡ is = cc in ap (λ js. length (index_items js)) (sym e)
indices_count xs (more_forms f fs) is h =
    let r = both_ok more (index xs f) (indices xs fs) is h in
    ap (λ js. length (index_items js)) r.made ∙ omega (arith, indices_count xs fs r.right r.later)

pub each_index : (n : ℕ) (is : Indices) → IndicesMade n is → Each (IndexMade n) (index_items is)
each_index n end h = tt
each_index n (more i is) h = (h.0, each_index n is h.1)

-- Types

pub array_made : (S : Scope) (t : Ty) → TyMade S t → ArrayMade S (as_array t)
array_made S (BaseTy at b) h = (refl, (h, tt))
array_made S (TyVar at k) h = (refl, (h, tt))
array_made S (Fun at ts r) h = (refl, (h, tt))
array_made S (Forall at n t) h = (refl, (h, tt))
array_made S (Pi at ss t) h = (refl, (h, tt))
array_made S (Sigma at ss t) h = (refl, (h, tt))
array_made S (Arr at t i) h = (refl, h)

pub array_read : (S : Scope) (r : Read Ty) (t : Ty) → ((u : Ty) → r ≡ Ok u → TyMade S u) → mapped as_array r ≡ Ok t → ArrayMade S t
array_read S r t all h = let m = mapped_ok as_array r t h in subst (ArrayMade S) (sym m.made) (array_made S m.part (all m.part m.read))

pub sorts_count : (fs : Forms) (ss : List Sort) → pair_sorts fs ≡ Ok ss → length ss ≡ forms_count fs
sorts_count no_forms ss h = let e : [] ≡ ss = cc in ap length (sym e)
sorts_count (more_forms f fs) ss h =
    let r = both_ok (λ s rs. s ∷ rs) (pair_sort f) (pair_sorts fs) ss h in
    omega (arith, ap length r.made, sorts_count fs r.right r.later)

-- what is read under names is well made where they are in scope
abbrev pub ReadsWell : ℕ → (Scopes → Read Ty) → Type 0
ReadsWell n body = (Δ : Scopes) → HasRoom Δ n → (u : Ty) → body Δ ≡ Ok u → TyMade (sizes Δ) u

made_named : (Γ : Scopes) (at : Span) (x : Name) (t : Ty) → named_ty Γ at x ≡ Ok t → TyMade (sizes Γ) t
made_named Γ at x t h = go (base_word x) h
  where
    go : (o : Option Base) → ◌≡◌ {A = Read Ty} (elim o [ Some b ↦ Ok (BaseTy at b) | None ↦ elim (number_of x Γ.types) [ Some k ↦ Ok (TyVar at k) | None ↦ Err (8, at) ] ]) (Ok t) → TyMade (sizes Γ) t
    go (Some b) h = let e : BaseTy at b ≡ t = cc in subst (TyMade (sizes Γ)) e tt
    go None h = let r = looked_ok at (TyVar at) x Γ.types t h in subst (TyMade (sizes Γ)) (sym r.made) r.within

made_arrow : (Γ : Scopes) (at : Span) (p : Form) (inputs : Read Tys) (answer : Read Ty) (t : Ty) → arrow at p inputs answer ≡ Ok t →
    ((fs : Forms) → some_listed p ≡ Some fs → (ts : Tys) → inputs ≡ Ok ts → (0 < length (ty_items ts)) × ArraysMade (sizes Γ) ts) → ((u : Ty) → answer ≡ Ok u → TyMade (sizes Γ) u) → TyMade (sizes Γ) t
made_arrow Γ at p inputs answer t h ins ans =
    let a = asked_ok at (some_listed p) (λ fs. both (Fun at) inputs (mapped as_array answer)) t h in
    let b = both_ok (Fun at) inputs (mapped as_array answer) t a.rest in
    let i = ins a.part a.is b.left b.read in
    let r = array_read (sizes Γ) answer b.right ans b.later in
    subst (TyMade (sizes Γ)) (sym b.made) (i.0, i.1, r.0, r.1)

made_forall : (Γ : Scopes) (at : Span) (p : Form) (n : ℕ) (body : Scopes → Read Ty) (t : Ty) → HasRoom Γ (form_size p + n) → forall Γ at p body ≡ Ok t → ReadsWell n body → TyMade (sizes Γ) t
made_forall Γ at p n body t room h well =
    let a = asked_ok at (some_listed p) _ t h in
    let w = with_ok (bound_names at (binders (binder Types) a.part)) _ t a.rest in
    let m = mapped_ok (Forall at (length w.part)) (mapped as_array (body (under Types w.part Γ))) t w.rest in
    let count = names_count at (binder Types) a.part w.part w.read in
    let s = listed_size p a.part a.is in
    let c = count_within a.part in
    let r = array_read (sizes (under Types w.part Γ)) (body (under Types w.part Γ)) m.part (well (under Types w.part Γ) (room_under Types w.part Γ (length w.part) _ n room refl (omega (arith, s, c, count)))) m.read in
    let q = subst (λ S. ArrayMade S m.part) (sizes_types w.part Γ) r in
    subst (TyMade (sizes Γ)) (sym m.made)
    (omega (arith, count, some_count p a.part a.is), (omega (arith, room.types, s, c, count), omega (arith, room.indices), omega (arith, room.terms)), q.0, q.1)

made_quantified : (q : Quantifier) (Γ : Scopes) (at : Span) (p : Form) (n : ℕ) (body : Scopes → Read Ty) (t : Ty) → HasRoom Γ (form_size p + n) → quantified q Γ at p body ≡ Ok t → ReadsWell n body → TyMade (sizes Γ) t
made_quantified q Γ at p n body t room h well =
    let a = asked_ok at (some_listed p) _ t h in
    let w = with_ok (bound_names at (binders (pair_binder IndexNames) a.part)) _ t a.rest in
    let b = both_ok (quantified_ty q at) (pair_sorts a.part) (mapped as_array (body (under IndexNames w.part Γ))) t w.rest in
    let count = names_count at (pair_binder IndexNames) a.part w.part w.read in
    let sorts = sorts_count a.part b.left b.read in
    let s = listed_size p a.part a.is in
    let c = count_within a.part in
    let r = array_read (sizes (under IndexNames w.part Γ)) (body (under IndexNames w.part Γ)) b.right (well (under IndexNames w.part Γ) (room_under IndexNames w.part Γ (length w.part) _ n room refl (omega (arith, s, c, count)))) b.later in
    let e : length w.part ≡ length b.left = omega (arith, count, sorts) in
    let u = subst (λ S. ArrayMade S b.right) (sizes_indices w.part Γ ∙ ap (λ k. indices_more k (sizes Γ)) e) r in
    subst (TyMade (sizes Γ)) (sym b.made)
    (go b.left b.right q (omega (arith, sorts, some_count p a.part a.is)) (omega (arith, room.types), omega (arith, room.indices, s, c, sorts), omega (arith, room.terms)) u)
  where
    go : (ss : List Sort) (v : Ty) (q : Quantifier) → 0 < length ss → IsSmall (indices_more (length ss) (sizes Γ)) → ArrayMade (indices_more (length ss) (sizes Γ)) v → TyMade (sizes Γ) (quantified_ty q at ss v)
    go ss v quantifier.Pi l s m = (l, s, m.0, m.1)
    go ss v quantifier.Sigma l s m = (l, s, m.0, m.1)

pub arrays_count : (Γ : Scopes) (fs : Forms) (ts : Tys) → arrays Γ fs ≡ Ok ts → length (ty_items ts) ≡ forms_count fs
arrays_count Γ no_forms ts h = let e : no_tys ≡ ts = cc in ap (λ us. length (ty_items us)) (sym e)
arrays_count Γ (more_forms f fs) ts h =
    let r = both_ok more_tys (array_ty Γ f) (arrays Γ fs) ts h in
    ap (λ us. length (ty_items us)) r.made ∙ omega (arith, arrays_count Γ fs r.right r.later)

mutual
  pub made_ty : (Γ : Scopes) (f : Form) → HasRoom Γ (form_size f) → (t : Ty) → ty Γ f ≡ Ok t → TyMade (sizes Γ) t
  made_ty Γ (Atom at (leaf.Int z)) room t h = absurd (cc)
  made_ty Γ (Atom at (leaf.Bool b)) room t h = absurd (cc)
  made_ty Γ (Atom at (leaf.Char c)) room t h = absurd (cc)
  made_ty Γ (Atom at (leaf.Text s)) room t h = absurd (cc)
  made_ty Γ (Atom at (leaf.Symbol x)) room t h = made_named Γ at x t h
  made_ty Γ (Group at no_forms) room t h = absurd (cc)
  made_ty Γ (Group at (more_forms f no_forms)) room t h = absurd (cc)
  made_ty Γ (Group at (more_forms f (more_forms p no_forms))) room t h = absurd (cc)
  made_ty Γ (Group at (more_forms f (more_forms p (more_forms q no_forms)))) room t h =
      go (type_head f) h (made_ty Γ p (room_less Γ _ _ room (omega arith))) (λ Δ r u e. made_ty Δ q r u e) (made_inputs Γ p (room_less Γ _ _ room (omega arith)))
    where
      both_room : HasRoom Γ (form_size p + form_size q)
      both_room = room_less Γ _ _ room (omega (arith, some_size f))

      go : (o : Option TypeWord) → list_ty Γ at o p q (arrays_in Γ p) (λ Δ. ty Δ p) (λ Δ. ty Δ q) ≡ Ok t → ((u : Ty) → ty Γ p ≡ Ok u → TyMade (sizes Γ) u) → ReadsWell (form_size q) (λ Δ. ty Δ q) →
          ((fs : Forms) → some_listed p ≡ Some fs → (ts : Tys) → arrays_in Γ p ≡ Ok ts → (0 < length (ty_items ts)) × ArraysMade (sizes Γ) ts) → TyMade (sizes Γ) t
      go (Some type_word.Arr) h first second inputs =
          let b = both_ok (Arr at) (ty Γ p) (index Γ.indices q) t h in
          subst (TyMade (sizes Γ)) (sym b.made) (first b.left b.read, made_index Γ.indices q b.right b.later)
      go (Some type_word.Arrow) h first second inputs = made_arrow Γ at p (arrays_in Γ p) (ty Γ q) t h inputs (second Γ (room_less Γ _ _ both_room (omega arith)))
      go (Some type_word.Forall) h first second inputs = made_forall Γ at p (form_size q) (λ Δ. ty Δ q) t both_room h second
      go (Some type_word.Pi) h first second inputs = made_quantified quantifier.Pi Γ at p (form_size q) (λ Δ. ty Δ q) t both_room h second
      go (Some type_word.Sigma) h first second inputs = made_quantified quantifier.Sigma Γ at p (form_size q) (λ Δ. ty Δ q) t both_room h second
      go None h first second inputs = absurd (cc)
  made_ty Γ (Group at (more_forms f (more_forms p (more_forms q (more_forms r rs))))) room t h = absurd (cc)

  made_inputs : (Γ : Scopes) (p : Form) → HasRoom Γ (form_size p) → (fs : Forms) → some_listed p ≡ Some fs → (ts : Tys) → arrays_in Γ p ≡ Ok ts → (0 < length (ty_items ts)) × ArraysMade (sizes Γ) ts
  made_inputs Γ (Atom at l) room fs s ts h = absurd (cc)
  made_inputs Γ (Group at gs) room fs s ts h =
      (omega (arith, arrays_count Γ gs ts h, count_some gs fs s), made_arrays Γ gs (room_less Γ _ _ room (omega arith)) ts h)
    where
      count_some : (gs fs : Forms) → some_listed (Group at gs) ≡ Some fs → 0 < forms_count gs
      count_some no_forms fs s = absurd (cc)
      count_some (more_forms g gs) fs s = omega arith

  pub made_arrays : (Γ : Scopes) (fs : Forms) → HasRoom Γ (forms_size fs) → (ts : Tys) → arrays Γ fs ≡ Ok ts → ArraysMade (sizes Γ) ts
  made_arrays Γ no_forms room ts h = let e : no_tys ≡ ts = cc in subst (ArraysMade (sizes Γ)) e tt
  made_arrays Γ (more_forms f fs) room ts h =
      let r = both_ok more_tys (array_ty Γ f) (arrays Γ fs) ts h in
      let a = array_read (sizes Γ) (ty Γ f) r.left (made_ty Γ f (room_less Γ _ _ room (omega arith))) r.read in
      subst (ArraysMade (sizes Γ)) (sym r.made) (a.0, a.1, made_arrays Γ fs (room_less Γ _ _ room (omega arith)) r.right r.later)

pub made_array_ty : (Γ : Scopes) (f : Form) → HasRoom Γ (form_size f) → (t : Ty) → array_ty Γ f ≡ Ok t → ArrayMade (sizes Γ) t
made_array_ty Γ f room t h = array_read (sizes Γ) (ty Γ f) t (made_ty Γ f room) h

pub made_types : (Γ : Scopes) (fs : Forms) → HasRoom Γ (forms_size fs) → (ts : List Ty) → types Γ fs ≡ Ok ts → (length ts ≡ forms_count fs) × Each (TyMade (sizes Γ)) ts
made_types Γ no_forms room ts h = let e : [] ≡ ts = cc in (ap length (sym e), subst (Each (TyMade (sizes Γ))) e tt)
made_types Γ (more_forms f fs) room ts h =
    let r = both_ok (λ t us. t ∷ us) (ty Γ f) (types Γ fs) ts h in
    let i = made_types Γ fs (room_less Γ _ _ room (omega arith)) r.right r.later in
    (omega (arith, ap length r.made, i.0), subst (Each (TyMade (sizes Γ))) (sym r.made) (made_ty Γ f (room_less Γ _ _ room (omega arith)) r.left r.read, i.1))

made_pair : (Γ : Scopes) (f : Form) → HasRoom Γ (form_size f) → (t : Ty) → pair_array Γ f ≡ Ok t → ArrayMade (sizes Γ) t
made_pair Γ f room t h = go (pair f) refl h
  where
    go : (o : Option Two) → o ≡ pair f → ◌≡◌ {A = Read Ty} (elim o [ Some p ↦ array_ty Γ p.right | None ↦ Err (7, form_place f) ]) (Ok t) → ArrayMade (sizes Γ) t
    go (Some p) e h = made_array_ty Γ p.right (room_less Γ _ _ room (pair_size f p (sym e))) t h
    go None e h = absurd (cc)

pub made_pairs : (Γ : Scopes) (fs : Forms) → HasRoom Γ (forms_size fs) → (ts : Tys) → pair_arrays Γ fs ≡ Ok ts → (length (ty_items ts) ≡ forms_count fs) × ArraysMade (sizes Γ) ts
made_pairs Γ no_forms room ts h = let e : no_tys ≡ ts = cc in (ap (λ us. length (ty_items us)) (sym e), subst (ArraysMade (sizes Γ)) e tt)
made_pairs Γ (more_forms f fs) room ts h =
    let r = both_ok more_tys (pair_array Γ f) (pair_arrays Γ fs) ts h in
    let i = made_pairs Γ fs (room_less Γ _ _ room (omega arith)) r.right r.later in
    let a = made_pair Γ f (room_less Γ _ _ room (omega arith)) r.left r.read in
    (ap (λ us. length (ty_items us)) r.made ∙ omega (arith, i.0), subst (ArraysMade (sizes Γ)) (sym r.made) (a.0, a.1, i.1))
