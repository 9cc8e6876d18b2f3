-- Top forms, and definitions one behind the other.
use Rattle.std.proofs.Common.{◌≡◌, refl, sym, ap, ◌∙◌, ℕ, suc, ◌+◌, ◌<◌, ◌≤◌, arith, List, [], ◌∷◌, ◌++◌, length, drop, get_or, Option, Some, None, Ok, Err}
use Rattle.core_syntax.specs.declared.def.Def.{Def as Tree}
use Rattle.core_syntax.specs.declared.ty.Ty.{Ty as TyTree}
use Rattle.core_syntax.specs.Lists.{each}
use Rattle.core_syntax.specs.Programs.{def_of}
use Rattle.core_syntax.specs.Refine.{ty_of, tys_of}
use Rattle.core_syntax.specs.Syntax.{Ty, Tys, ty_items, Expr, Def, Program}
use Rattle.sexp_reader.specs.declared.sexp.Sexp.{Sexp}
use Rattle.sexp_reader.specs.Forms.{Form, Atom as Token, Group, Forms, no_forms, more_forms, form_of, forms_of, form_size, forms_size}
use Rattle.sexp_reader.proofs.Short.{some_size}
use Rattle.name_resolve.specs.declared.errors.NameRefusal.{NameRefusal}
use Rattle.name_resolve.specs.declared.words.NameSpace.TheVariants.{Terms}
use Rattle.name_resolve.specs.declared.words.TopWord.{TopWord}
use Rattle.name_resolve.specs.declared.words.TopWord.TheVariants as word
use Rattle.name_resolve.specs.Answers.{Refuses}
use Rattle.name_resolve.specs.Binders.{Binder, binder, pair_binder, binders, bound_names}
use Rattle.name_resolve.specs.Lists.{form_place, listed}
use Rattle.name_resolve.specs.Means.{top_head, Definition, definition, Main, main, just_main, body}
use Rattle.name_resolve.specs.Reading.{Read, mapped, with, both, asked}
use Rattle.name_resolve.specs.Scopes.{Name, Scopes, under, behind, number_of, HasRoom}
use Rattle.name_resolve.specs.TermForms.{expr}
use Rattle.name_resolve.specs.Tops.{meant, definition_read, known_behind, definitions_read, all_known}
use Rattle.name_resolve.specs.TypeForms.{array_ty, pair_arrays}
use Rattle.name_resolve.proofs.ListLemmas.{place_of}
use Rattle.name_resolve.proofs.Loops.{before, before-one, forms_behind, forms_end}
use Rattle.name_resolve.proofs.Refusals.{refuses-mapped, refuses-with, refuses-both, same_refusal}

-- a list of four that is a definition
abbrev defined_by : Form → Form → Form → Option TopWord → Option Definition
defined_by x t e o = elim o as (λ _. Option Definition) [ Some word.Define ↦ elim (binder Terms x) [ Some b ↦ Some (record { name = b; ty = t; value = e }) | None ↦ None ] | _ ↦ None ]

pub is_definition : (f : Form) (fs : Forms) → listed f ≡ Some fs → (h x t e : Form) → fs ≡ more_forms h (more_forms x (more_forms t (more_forms e no_forms))) →
    (b : Binder) → top_head h ≡ Some word.Define → binder Terms x ≡ Some b → definition f ≡ Some (record { name = b; ty = t; value = e })
is_definition (Token at l) fs k h x t e q b w n = absurd (cc)
is_definition (Group at gs) fs k h x t e q b w n =
    let r : gs ≡ fs = cc in
    ap (λ hs. definition (Group at hs)) (r ∙ q) ∙ ap (defined_by x t e) w
    ∙ ap (λ (o : Option Binder). elim o as (λ _. Option Definition) [ Some b ↦ Some (record { name = b; ty = t; value = e }) | None ↦ None ]) n

-- the parts of main are smaller
pub main_size : (f : Form) (fs : Forms) → listed f ≡ Some fs → (h p e : Form) → fs ≡ more_forms h (more_forms p (more_forms e no_forms)) → (is : Forms) → listed p ≡ Some is →
    forms_size is + form_size e < form_size f
main_size (Token at l) fs k h p e q is i = absurd (cc)
main_size (Group at gs) fs k h (Token at' l) e q is i = absurd (cc)
main_size (Group at gs) fs k h (Group at' js) e q is i =
    let r : gs ≡ fs = cc in let s : js ≡ is = cc in omega (arith, ap forms_size (r ∙ q), ap forms_size s)

-- what a definition means, and what main means
pub meant_is : (xs : List Name) (x : Sexp) (d : Definition) (t : Ty) (e : Expr) → array_ty (behind xs) d.ty ≡ Ok t → expr (behind xs) d.value ≡ Ok e → meant xs (form_of x) d ≡ Ok (record { at = x.at; ty = t; value = e })
meant_is xs x d t e h k = ap (λ r. both made r (expr (behind xs) d.value)) h ∙ ap (mapped (made t)) k ∙ ap (λ at. let d : Def = record { at = at; ty = t; value = e } in Ok d) (place_of x)
  where
    made : Ty → Expr → Def
    made t e = record { at = form_place (form_of x); ty = t; value = e }

pub no_definition : (xs : List Name) (x : Sexp) → definition (form_of x) ≡ None → definition_read xs (form_of x) ≡ Err (7, x.at)
no_definition xs x h =
    ap (λ o. asked (form_place (form_of x)) o (λ (d : Definition). elim (number_of d.name.name xs) as (λ _. Read Def) [ Some k ↦ Err (9, d.name.at) | None ↦ meant xs (form_of x) d ])) h ∙ ap (λ at. Err (7, at)) (place_of x)

abbrev inside : List Name → Main → List Name → Read Program
inside xs m ys = both just_main (pair_arrays (behind xs) m.inputs) (expr (under Terms ys (behind xs)) m.body)

pub no_body : (xs : List Name) (x : Sexp) → main (form_of x) ≡ None → body xs (form_of x) ≡ Err (7, x.at)
no_body xs x h =
    ap (λ o. asked (form_place (form_of x)) o (λ (m : Main). with (bound_names (form_place (form_of x)) (binders (pair_binder Terms) m.inputs)) (inside xs m))) h ∙ ap (λ at. Err (7, at)) (place_of x)

module _ (xs : List Name) (x : Sexp) (m : Main) (h : main (form_of x) ≡ Some m) where
  body_bound : body xs (form_of x) ≡ with (bound_names x.at (binders (pair_binder Terms) m.inputs)) (inside xs m)
  body_bound =
      ap (λ o. asked (form_place (form_of x)) o (λ (m : Main). with (bound_names (form_place (form_of x)) (binders (pair_binder Terms) m.inputs)) (inside xs m))) h
      ∙ ap (λ at. with (bound_names at (binders (pair_binder Terms) m.inputs)) (inside xs m)) (place_of x)

  pub bound_refused : (e : NameRefusal) → Refuses e (bound_names x.at (binders (pair_binder Terms) m.inputs)) → Refuses e (body xs (form_of x))
  bound_refused e r = same_refusal e _ _ body_bound (refuses-with e (bound_names x.at (binders (pair_binder Terms) m.inputs)) (inside xs m) r)

  pub body_is : (ys : List Name) → bound_names x.at (binders (pair_binder Terms) m.inputs) ≡ Ok ys → (ts : Tys) → pair_arrays (behind xs) m.inputs ≡ Ok ts →
      (e : Expr) → expr (under Terms ys (behind xs)) m.body ≡ Ok e → body xs (form_of x) ≡ Ok (just_main ts e)
  body_is ys n ts i e b =
      body_bound ∙ ap (λ r. with r (inside xs m)) n ∙ ap (λ r. both just_main r (expr (under Terms ys (behind xs)) m.body)) i ∙ ap (mapped (just_main ts)) b

pub ty_items-of : (ts : List TyTree) → ty_items (tys_of ts) ≡ each ty_of ts
ty_items-of [] = refl
ty_items-of (t ∷ ts) = ap (λ us. ty_of t ∷ us) (ty_items-of ts)

-- how many names are known
pub length_more : (xs : List Name) (x : Name) → length (xs ++ x ∷ []) ≡ suc (length xs)
length_more [] x = refl
length_more (y ∷ ys) x = ap suc (length_more ys x)

pub known_length : (xs : List Name) (f : Form) → length (known_behind xs f) ≤ length xs + 1
known_length xs f = go (definition f)
  where
    go : (o : Option Definition) → length (elim o as (λ _. List Name) [ Some d ↦ xs ++ d.name.name ∷ [] | None ↦ xs ]) ≤ length xs + 1
    go (Some d) = omega (arith, length_more xs d.name.name)
    go None = omega arith

-- definitions read one by one
module _ (forms : List Sexp) (k : ℕ) where
  module _ (x d : Sexp) (within : k < length forms) (item : x ≡ get_or forms k d) where
    behind_size : forms_size (forms_of (drop k forms)) ≡ form_size (form_of x) + forms_size (forms_of (drop (k + 1) forms))
    behind_size = ap forms_size (forms_behind k forms x d within item)

    pub defs_room : (Γ Δ : Scopes) → Γ ≡ behind Γ.defs → HasRoom Δ (forms_size (forms_of forms)) →
        length Γ.defs + forms_size (forms_of (drop k forms)) ≤ length Δ.defs + forms_size (forms_of forms) → HasRoom Γ (form_size (form_of x))
    defs_room Γ Δ e room fit = record {
      defs = omega (arith, room.defs, fit, behind_size);
      terms = omega (arith, room.defs, fit, behind_size, ap (λ (Γ : Scopes). length Γ.terms) e);
      types = omega (arith, room.defs, fit, behind_size, ap (λ (Γ : Scopes). length Γ.types) e);
      indices = omega (arith, room.defs, fit, behind_size, ap (λ (Γ : Scopes). length Γ.indices) e);
    }

    module _ (xs ys : List Name) where
      pub next_known : all_known ys (forms_of (drop k forms)) ≡ all_known xs (forms_of forms) → (zs : List Name) → zs ≡ known_behind ys (form_of x) → all_known zs (forms_of (drop (k + 1) forms)) ≡ all_known xs (forms_of forms)
      next_known h zs e = ap (λ us. all_known us (forms_of (drop (k + 1) forms))) e ∙ sym (ap (all_known ys) (forms_behind k forms x d within item)) ∙ h

      pub defs_fit : length ys + forms_size (forms_of (drop k forms)) ≤ length xs + forms_size (forms_of forms) → (zs : List Name) → zs ≡ known_behind ys (form_of x) →
          length zs + forms_size (forms_of (drop (k + 1) forms)) ≤ length xs + forms_size (forms_of forms)
      defs_fit h zs e = omega (arith, h, ap length e, known_length ys (form_of x), some_size (form_of x), behind_size)

      module _ (done : List Tree) (so_far : definitions_read xs (forms_of forms) ≡ mapped (before def_of (λ d ds. d ∷ ds) done) (definitions_read ys (forms_of (drop k forms)))) where
        next : definitions_read xs (forms_of forms) ≡ mapped (before def_of (λ d ds. d ∷ ds) done) (both (λ d ds. d ∷ ds) (definition_read ys (form_of x)) (definitions_read (known_behind ys (form_of x)) (forms_of (drop (k + 1) forms))))
        next = so_far ∙ ap (λ fs. mapped (before def_of (λ d ds. d ∷ ds) done) (definitions_read ys fs)) (forms_behind k forms x d within item)

        pub defs_refused : (e : NameRefusal) → Refuses e (definition_read ys (form_of x)) → Refuses e (definitions_read xs (forms_of forms))
        defs_refused e h =
            same_refusal e _ _ next (refuses-mapped e (before def_of (λ d ds. d ∷ ds) done) _
            (refuses-both e (λ d ds. d ∷ ds) (definition_read ys (form_of x)) (definitions_read (known_behind ys (form_of x)) (forms_of (drop (k + 1) forms))) h))

        pub defs_step : (v : Tree) (new : List Tree) → new ≡ done ++ v ∷ [] → definition_read ys (form_of x) ≡ Ok (def_of v) → (zs : List Name) → zs ≡ known_behind ys (form_of x) →
            definitions_read xs (forms_of forms) ≡ mapped (before def_of (λ d ds. d ∷ ds) new) (definitions_read zs (forms_of (drop (k + 1) forms)))
        defs_step v new e read zs z =
            next ∙ ap (λ us. mapped (before def_of (λ d ds. d ∷ ds) done) (both (λ d ds. d ∷ ds) (definition_read ys (form_of x)) (definitions_read us (forms_of (drop (k + 1) forms))))) (sym z)
            ∙ ap (λ r. mapped (before def_of (λ d ds. d ∷ ds) done) (both (λ d ds. d ∷ ds) r (definitions_read zs (forms_of (drop (k + 1) forms))))) read
            ∙ go (definitions_read zs (forms_of (drop (k + 1) forms)))
            ∙ ap (λ vs. mapped (before def_of (λ d ds. d ∷ ds) vs) (definitions_read zs (forms_of (drop (k + 1) forms)))) (sym e)
          where
            go : (r : Read (List Def)) → mapped (before def_of (λ d ds. d ∷ ds) done) (mapped (λ ds. def_of v ∷ ds) r) ≡ mapped (before def_of (λ d ds. d ∷ ds) (done ++ v ∷ [])) r
            go (Ok l) = ap Ok (sym (before-one def_of (λ d ds. d ∷ ds) done v l))
            go (Err e) = refl

  module _ (over : length forms ≤ k) (xs ys : List Name) where
    pub known_end : all_known ys (forms_of (drop k forms)) ≡ all_known xs (forms_of forms) → ys ≡ all_known xs (forms_of forms)
    known_end h = sym (ap (all_known ys) (forms_end k forms over)) ∙ h

    pub defs_end : (done : List Tree) → definitions_read xs (forms_of forms) ≡ mapped (before def_of (λ d ds. d ∷ ds) done) (definitions_read ys (forms_of (drop k forms))) → definitions_read xs (forms_of forms) ≡ Ok (each def_of done)
    defs_end done h = h ∙ ap (λ fs. mapped (before def_of (λ d ds. d ∷ ds) done) (definitions_read ys fs)) (forms_end k forms over) ∙ ap Ok (each-before done)
      where
        each-before : (ds : List Tree) → before def_of (λ d ds. d ∷ ds) ds [] ≡ each def_of ds
        each-before [] = refl
        each-before (d ∷ ds) = ap (λ es. def_of d ∷ es) (each-before ds)
