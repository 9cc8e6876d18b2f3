-- The parts of the first list of `unbox`, and the characters of a string.
use Rattle.std.proofs.Common.{◌≡◌, refl, sym, ap, ◌∙◌, ℕ, zero, suc, ◌+◌, ◌-◌, ◌<◌, ◌≤◌, arith, List, [], ◌∷◌, ◌++◌, length, take, drop, slice_index_or, Option, Some, None}
use Rattle.core_syntax.specs.declared.span.Span.{Span}
use Rattle.core_syntax.specs.declared.expr.Atom.{Atom}
use Rattle.core_syntax.specs.Refine.{atom_of, atoms_of}
use Rattle.core_syntax.specs.Syntax as syntax
use Rattle.sexp_reader.specs.declared.sexp.Sexp.{Sexp}
use Rattle.sexp_reader.specs.Forms.{Form, Atom as Token, Group, no_forms, more_forms, form_of, forms_of, form_size, forms_size}
use Rattle.name_resolve.specs.Lists.{listed, Hidden, hidden, hidden_among}
use Rattle.name_resolve.specs.Scopes.{Scopes}
use Rattle.name_resolve.specs.TermForms.{expr, last_in, last, chars}
use Rattle.name_resolve.proofs.BinderLemmas.{drop_item, drop_all}
use Rattle.name_resolve.proofs.Loops.{before}

-- a list with at least one item more than two
too_short : (xs : List Sexp) → length xs < 3 → hidden_among (forms_of xs) ≡ None
too_short [] h = refl
too_short (x ∷ []) h = refl
too_short (x ∷ y ∷ []) h = refl
too_short (x ∷ y ∷ z ∷ zs) h = absurd (omega arith)

parts_among : (xs : List Sexp) (k : ℕ) (t b : Sexp) → length xs ≡ suc k + 2 → t ≡ slice_index_or xs (suc k) t → hidden_among (forms_of xs) ≡ Some (record { indices = forms_of (take (suc k) xs); term = form_of t })
parts_among [] k t b l e = absurd (omega arith)
parts_among (x ∷ []) k t b l e = absurd (omega arith)
parts_among (x ∷ y ∷ []) k t b l e = absurd (omega arith)
parts_among (x ∷ y ∷ z ∷ []) zero t b l e = ap (λ (u : Sexp). Some (record { indices = more_forms (form_of x) no_forms; term = form_of u })) (sym e)
parts_among (x ∷ y ∷ z ∷ []) (suc k) t b l e = absurd (omega arith)
parts_among (x ∷ y ∷ z ∷ w ∷ ws) zero t b l e = absurd (omega arith)
parts_among (x ∷ y ∷ z ∷ w ∷ ws) (suc k) t b l e =
    ap (λ (o : Option Hidden). elim o as (λ _. Option Hidden) [ Some h ↦ Some (record h { indices = more_forms (form_of x) h.indices }) | None ↦ None ]) (parts_among (y ∷ z ∷ w ∷ ws) k t b (omega arith) e)

last_among : (Γ : Scopes) (xs : List Sexp) (k : ℕ) (b : Sexp) → length xs ≡ suc k → b ≡ slice_index_or xs k b → last Γ (forms_of xs) ≡ expr Γ (form_of b)
last_among Γ [] k b l e = absurd (omega arith)
last_among Γ (x ∷ []) zero b l e = ap (λ u. expr Γ (form_of u)) (sym e)
last_among Γ (x ∷ []) (suc k) b l e = absurd (omega arith)
last_among Γ (x ∷ y ∷ ys) zero b l e = absurd (omega arith)
last_among Γ (x ∷ y ∷ ys) (suc k) b l e = last_among Γ (y ∷ ys) k b (omega arith) e

sizes_among : (xs : List Sexp) (k : ℕ) (t b : Sexp) → length xs ≡ k + 2 → t ≡ slice_index_or xs k t → b ≡ slice_index_or xs (k + 1) b →
    forms_size (forms_of xs) ≡ forms_size (forms_of (take k xs)) + (form_size (form_of t) + form_size (form_of b))
sizes_among [] k t b l e f = absurd (omega arith)
sizes_among (x ∷ []) k t b l e f = absurd (omega arith)
sizes_among (x ∷ y ∷ []) zero t b l e f = omega (arith, ap (λ u. form_size (form_of u)) e, ap (λ u. form_size (form_of u)) f)
sizes_among (x ∷ y ∷ []) (suc k) t b l e f = absurd (omega arith)
sizes_among (x ∷ y ∷ z ∷ zs) zero t b l e f = absurd (omega arith)
sizes_among (x ∷ y ∷ z ∷ zs) (suc k) t b l e f =
    let n : suc k + 1 ≡ suc (k + 1) = omega arith in
    omega (arith, sizes_among (y ∷ z ∷ zs) k t b (omega arith) e (f ∙ ap (λ m. slice_index_or (x ∷ y ∷ z ∷ zs) m b) n))

module _ (f : Form) (xs : List Sexp) (h : listed f ≡ Some (forms_of xs)) where
  pub hidden_none : length xs < 3 → hidden f ≡ None
  hidden_none s = go f h
    where
      go : (f : Form) → listed f ≡ Some (forms_of xs) → hidden f ≡ None
      go (Token at l) h = refl
      go (Group at fs) h = let e : fs ≡ forms_of xs = cc in ap hidden_among e ∙ too_short xs s

  module _ (t b : Sexp) (long : 3 ≤ length xs) (e : t ≡ slice_index_or xs (length xs - 2) t) (i : b ≡ slice_index_or xs (length xs - 1) b) where
    pub hidden_parts : hidden f ≡ Some (record { indices = forms_of (take (length xs - 2) xs); term = form_of t })
    hidden_parts = go f h
      where
        less : length xs - 2 ≡ suc (length xs - 3)
        less = omega (arith, long)

        go : (f : Form) → listed f ≡ Some (forms_of xs) → hidden f ≡ Some (record { indices = forms_of (take (length xs - 2) xs); term = form_of t })
        go (Token at l) h = absurd (cc)
        go (Group at fs) h =
            let s : fs ≡ forms_of xs = cc in
            ap hidden_among s ∙ parts_among xs (length xs - 3) t b (omega (arith, long)) (e ∙ ap (λ n. slice_index_or xs n t) less)
            ∙ ap (λ n. Some (record { indices = forms_of (take n xs); term = form_of t })) (sym less)

    pub last_part : (Γ : Scopes) → last_in Γ f ≡ expr Γ (form_of b)
    last_part Γ = go f h
      where
        go : (f : Form) → listed f ≡ Some (forms_of xs) → last_in Γ f ≡ expr Γ (form_of b)
        go (Token at l) h = absurd (cc)
        go (Group at fs) h = let s : fs ≡ forms_of xs = cc in ap (last Γ) s ∙ last_among Γ xs (length xs - 1) b (omega (arith, long)) i

    pub parts_size : form_size f ≡ 1 + (forms_size (forms_of (take (length xs - 2) xs)) + (form_size (form_of t) + form_size (form_of b)))
    parts_size = go f h
      where
        more_one : length xs - 1 ≡ length xs - 2 + 1
        more_one = omega (arith, long)

        go : (f : Form) → listed f ≡ Some (forms_of xs) → form_size f ≡ 1 + (forms_size (forms_of (take (length xs - 2) xs)) + (form_size (form_of t) + form_size (form_of b)))
        go (Token at l) h = absurd (cc)
        go (Group at fs) h =
            let s : fs ≡ forms_of xs = cc in
            ap (λ gs. 1 + forms_size gs) s ∙ ap (λ n. 1 + n) (sizes_among xs (length xs - 2) t b (omega (arith, long)) e (i ∙ ap (λ n. slice_index_or xs n b) more_one))

-- the characters of a string one by one
pub atoms_before-one : (xs : List Atom) (x : Atom) (l : syntax.Atoms) → before atom_of syntax.more_atoms (xs ++ x ∷ []) l ≡ before atom_of syntax.more_atoms xs (syntax.more_atoms (atom_of x) l)
atoms_before-one [] x l = refl
atoms_before-one (y ∷ ys) x l = ap (syntax.more_atoms (atom_of y)) (atoms_before-one ys x l)

pub atoms_before-none : (xs : List Atom) → before atom_of syntax.more_atoms xs syntax.no_atoms ≡ atoms_of xs
atoms_before-none [] = refl
atoms_before-none (x ∷ xs) = ap (syntax.more_atoms (atom_of x)) (atoms_before-none xs)

module _ (at : Span) (bytes : List ℕ) (k : ℕ) (done : List Atom) (so_far : chars at bytes ≡ before atom_of syntax.more_atoms done (chars at (drop k bytes))) where
  pub char_step : (d : ℕ) (x : Atom) (new : List Atom) → k < length bytes → atom_of x ≡ syntax.CharAtom at (slice_index_or bytes k d) → new ≡ done ++ x ∷ [] →
      chars at bytes ≡ before atom_of syntax.more_atoms new (chars at (drop (k + 1) bytes))
  char_step d x new h c e =
      so_far ∙ ap (λ cs. before atom_of syntax.more_atoms done (chars at cs)) (drop_item k bytes d h)
      ∙ ap (λ a. before atom_of syntax.more_atoms done (syntax.more_atoms a (chars at (drop (k + 1) bytes)))) (sym c)
      ∙ sym (atoms_before-one done x (chars at (drop (k + 1) bytes))) ∙ ap (λ xs. before atom_of syntax.more_atoms xs (chars at (drop (k + 1) bytes))) (sym e)

  pub char_end : length bytes ≤ k → chars at bytes ≡ atoms_of done
  char_end h = so_far ∙ ap (λ cs. before atom_of syntax.more_atoms done (chars at cs)) (drop_all k bytes h) ∙ atoms_before-none done
