-- Programs by their definitions and their last form.
use Rattle.std.proofs.Common.{◌≡◌, refl, sym, ap, subst, ◌∙◌, ℕ, suc, ◌+◌, ◌-◌, ◌≤◌, ◌<◌, ◌^◌, arith, List, [], ◌∷◌, ◌++◌, length, take, slice_index_or, Option, Some, None, Ok, Err}
use Rattle.core_syntax.specs.Syntax.{Ty, Expr, Def, Program, no_span}
use Rattle.sexp_reader.specs.declared.sexp.Sexp.{Sexp}
use Rattle.sexp_reader.specs.Forms.{Form, Forms, no_forms, more_forms, form_of, forms_of, form_size, forms_size, IsShort, AreShort}
use Rattle.sexp_reader.proofs.Short.{some_size}
use Rattle.name_resolve.specs.declared.errors.NameRefusal.{NameRefusal}
use Rattle.name_resolve.specs.Answers.{Refuses}
use Rattle.name_resolve.specs.Lists.{form_place}
use Rattle.name_resolve.specs.Means.{Definition, definition, with_definition, body, defined, program_behind, program}
use Rattle.name_resolve.specs.Reading.{Read, mapped, both, three, asked}
use Rattle.name_resolve.specs.Scopes.{Name, behind, number_of, HasRoom}
use Rattle.name_resolve.specs.TermForms.{expr}
use Rattle.name_resolve.specs.Tops.{meant, definition_read, known_behind, definitions_read, all_known}
use Rattle.name_resolve.specs.TypeForms.{array_ty}
use Rattle.name_resolve.proofs.Refusals.{same_refusal, refuses-mapped, refuses-both}
use Rattle.name_resolve.proofs.TopLemmas.{known_length}

-- a definition, and definitions, in front of a program
abbrev pub in_front : Def → Program → Program
in_front d P = record P { defs = d ∷ P.defs }

abbrev pub all_in_front : List Def → Program → Program
all_in_front [] P = P
all_in_front (d ∷ ds) P = in_front d (all_in_front ds P)

-- the program of forms behind these definitions
abbrev program_from : List Name → Forms → Read Program
program_from xs no_forms = Err (7, no_span)
program_from xs (more_forms f fs) = program_behind xs f fs

-- a definition, and what is read behind it with its name
defined_read : (xs : List Name) (f : Form) (q : List Name → Read Program) → defined xs f (λ x. q (xs ++ x ∷ [])) ≡ both in_front (definition_read xs f) (q (known_behind xs f))
defined_read xs f q = go (definition f)
  where
    known : Option Definition → List Name
    known o = elim o as (λ _. List Name) [ Some d ↦ xs ++ d.name.name ∷ [] | None ↦ xs ]

    parts : (d : Definition) (t : Read Ty) (e : Read Expr) (r : Read Program) →
        three (with_definition (form_place f)) t e r ≡ both in_front (both (λ t e. record { at = form_place f; ty = t; value = e }) t e) r
    parts d (Ok t) (Ok e) r = refl
    parts d (Ok t) (Err e) r = refl
    parts d (Err t) e r = refl

    named : (d : Definition) (o : Option ℕ) → ◌≡◌ {A = Read Program}
        (elim o [ Some k ↦ Err (9, d.name.at) | None ↦ three (with_definition (form_place f)) (array_ty (behind xs) d.ty) (expr (behind xs) d.value) (q (xs ++ d.name.name ∷ [])) ])
        (both in_front (elim o as (λ _. Read Def) [ Some k ↦ Err (9, d.name.at) | None ↦ meant xs f d ]) (q (xs ++ d.name.name ∷ [])))
    named d (Some k) = refl
    named d None = parts d (array_ty (behind xs) d.ty) (expr (behind xs) d.value) (q (xs ++ d.name.name ∷ []))

    go : (o : Option Definition) → ◌≡◌ {A = Read Program}
        (asked (form_place f) o (λ d. elim (number_of d.name.name xs) as (λ _. Read Program) [ Some k ↦ Err (9, d.name.at) | None ↦ three (with_definition (form_place f)) (array_ty (behind xs) d.ty) (expr (behind xs) d.value) (q (xs ++ d.name.name ∷ [])) ]))
        (both in_front (asked (form_place f) o (λ d. elim (number_of d.name.name xs) as (λ _. Read Def) [ Some k ↦ Err (9, d.name.at) | None ↦ meant xs f d ])) (q (known o)))
    go (Some d) = named d (number_of d.name.name xs)
    go None = refl

-- in front of what is in front
both_front : (d : Read Def) (ds : Read (List Def)) (r : Read Program) → both in_front d (both all_in_front ds r) ≡ both all_in_front (both (λ d ds. d ∷ ds) d ds) r
both_front (Ok d) (Ok ds) (Ok P) = refl
both_front (Ok d) (Ok ds) (Err e) = refl
both_front (Ok d) (Err e) r = refl
both_front (Err e) ds r = refl

mapped_same : (r : Read Program) → r ≡ mapped (λ P. P) r
mapped_same (Ok P) = refl
mapped_same (Err e) = refl

from_parts : (xs : List Name) (ds : List Sexp) (l : Sexp) →
    program_from xs (forms_of (ds ++ l ∷ [])) ≡ both all_in_front (definitions_read xs (forms_of ds)) (body (all_known xs (forms_of ds)) (form_of l))
from_parts xs [] l = mapped_same (body xs (form_of l))
from_parts xs (d ∷ []) l =
    defined_read xs (form_of d) (λ ys. program_behind ys (form_of l) no_forms)
    ∙ ap (both in_front (definition_read xs (form_of d))) (from_parts (known_behind xs (form_of d)) [] l)
    ∙ both_front (definition_read xs (form_of d)) (Ok []) (body (known_behind xs (form_of d)) (form_of l))
from_parts xs (d ∷ e ∷ es) l =
    defined_read xs (form_of d) (λ ys. program_behind ys (form_of e) (forms_of (es ++ l ∷ [])))
    ∙ ap (both in_front (definition_read xs (form_of d))) (from_parts (known_behind xs (form_of d)) (e ∷ es) l)
    ∙ both_front (definition_read xs (form_of d)) (definitions_read (known_behind xs (form_of d)) (forms_of (e ∷ es))) (body (all_known (known_behind xs (form_of d)) (forms_of (e ∷ es))) (form_of l))

-- a program by its parts
pub program_parts : (fs ds : List Sexp) (l : Sexp) → fs ≡ ds ++ l ∷ [] →
    program (forms_of fs) ≡ both all_in_front (definitions_read [] (forms_of ds)) (body (all_known [] (forms_of ds)) (form_of l))
program_parts fs ds l h = ap (λ xs. program (forms_of xs)) h ∙ start (forms_of (ds ++ l ∷ [])) ∙ from_parts [] ds l
  where
    start : (fs : Forms) → program fs ≡ program_from [] fs
    start no_forms = refl
    start (more_forms f fs) = refl

-- the definitions of a program without one
pub front_defs : (ds : List Def) (P : Program) → P.defs ≡ [] → all_in_front ds P ≡ record P { defs = ds }
front_defs [] P h = ap (λ (ds : List Def). record P { defs = ds }) h
front_defs (d ∷ ds) P h = ap (in_front d) (front_defs ds P h)

-- a list by its last item
pub parted : {A : Type 0} (xs : List A) (l d : A) → 1 ≤ length xs → l ≡ slice_index_or xs (length xs - 1) d → xs ≡ take (length xs - 1) xs ++ l ∷ []
parted [] l d h e = absurd (omega arith)
parted (x ∷ []) l d h e = ap (λ y. y ∷ []) (sym e)
parted (x ∷ y ∷ ys) l d h e =
    let n : suc (suc (length ys)) - 1 ≡ suc (suc (length ys) - 1) = omega arith in
    ap (λ zs. x ∷ zs) (parted (y ∷ ys) l d (omega arith) (e ∙ ap (λ k. slice_index_or (x ∷ y ∷ ys) k d) n)) ∙ ap (λ k. take k (x ∷ y ∷ ys) ++ l ∷ []) (sym n)

size_parts : (ds : List Sexp) (l : Sexp) → forms_size (forms_of (ds ++ l ∷ [])) ≡ forms_size (forms_of ds) + form_size (form_of l)
size_parts [] l = omega arith
size_parts (d ∷ ds) l = omega (arith, size_parts ds l)

short_parts : (ds : List Sexp) (l : Sexp) → AreShort (forms_of (ds ++ l ∷ [])) → AreShort (forms_of ds) × IsShort (form_of l)
short_parts [] l h = (tt, h.0)
short_parts (d ∷ ds) l h = let i = short_parts ds l h.1 in ((h.0, i.0), i.1)

-- no more names are known than the forms have parts
all_length : (xs : List Name) (fs : Forms) → length (all_known xs fs) ≤ length xs + forms_size fs
all_length xs no_forms = omega arith
all_length xs (more_forms f fs) = omega (arith, all_length (known_behind xs f) fs, known_length xs f, some_size f)

module _ (fs ds : List Sexp) (l : Sexp) (p : fs ≡ ds ++ l ∷ []) where
  pub sizes_parts : forms_size (forms_of fs) ≡ forms_size (forms_of ds) + form_size (form_of l)
  sizes_parts = ap (λ xs. forms_size (forms_of xs)) p ∙ size_parts ds l

  pub shorts_parts : AreShort (forms_of fs) → AreShort (forms_of ds) × IsShort (form_of l)
  shorts_parts h = short_parts ds l (subst (λ xs. AreShort (forms_of xs)) p h)

  module _ (small : forms_size (forms_of fs) < 2 ^ 26) where
    pub first_room : HasRoom (behind []) (forms_size (forms_of ds))
    first_room = let s = sizes_parts in record { defs = omega (arith, small, s); terms = omega (arith, small, s); types = omega (arith, small, s); indices = omega (arith, small, s) }

    pub last_room : HasRoom (behind (all_known [] (forms_of ds))) (form_size (form_of l))
    last_room =
        let s = sizes_parts in let a = all_length [] (forms_of ds) in
        record { defs = omega (arith, small, s, a); terms = omega (arith, small, s); types = omega (arith, small, s); indices = omega (arith, small, s) }

  pub first_refused : (e : NameRefusal) → Refuses e (definitions_read [] (forms_of ds)) → Refuses e (program (forms_of fs))
  first_refused e h =
      same_refusal e _ _ (program_parts fs ds l p) (refuses-both e all_in_front (definitions_read [] (forms_of ds)) (body (all_known [] (forms_of ds)) (form_of l)) h)

  module _ (ts : List Def) (read : definitions_read [] (forms_of ds) ≡ Ok ts) where
    behind_defs : program (forms_of fs) ≡ mapped (all_in_front ts) (body (all_known [] (forms_of ds)) (form_of l))
    behind_defs = program_parts fs ds l p ∙ ap (λ r. both all_in_front r (body (all_known [] (forms_of ds)) (form_of l))) read

    pub last_refused : (e : NameRefusal) → Refuses e (body (all_known [] (forms_of ds)) (form_of l)) → Refuses e (program (forms_of fs))
    last_refused e h = same_refusal e _ _ behind_defs (refuses-mapped e (all_in_front ts) (body (all_known [] (forms_of ds)) (form_of l)) h)

    pub program_is : (P : Program) → P.defs ≡ [] → body (all_known [] (forms_of ds)) (form_of l) ≡ Ok P → program (forms_of fs) ≡ Ok (record P { defs = ts })
    program_is P n h = behind_defs ∙ ap (mapped (all_in_front ts)) h ∙ ap Ok (front_defs ts P n)
