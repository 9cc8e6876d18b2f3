-- Programs that are read are well made.
use Rattle.std.proofs.Common.{◌≡◌, refl, sym, ap, subst, ◌∙◌, ℕ, suc, ◌+◌, ◌*◌, ◌<◌, ◌≤◌, ◌^◌, arith, List, [], ◌∷◌, ◌++◌, length, Option, Some, None, Ok, Err}
use Rattle.core_syntax.specs.Lists.{Each}
use Rattle.core_syntax.specs.Made.{Scope, types_more, indices_more, terms_more, TyMade, ArraysMade, ArrayMade, ExprMade, expr_nodes, defs_nodes, behind_defs, DefsMade, IsWellMade}
use Rattle.core_syntax.specs.Syntax.{Ty, BaseTy, TyVar, Fun, Forall, Pi, Sigma, Arr, Tys, no_tys, more_tys, ty_items, Def, Program}
use Rattle.sexp_reader.specs.Forms.{Form, Atom as Token, Group, Forms, no_forms, more_forms, form_size, forms_size, IsShort, AreShort}
use Rattle.sexp_reader.proofs.Short.{some_size, count_within}
use Rattle.name_resolve.specs.declared.words.NameSpace.TheVariants.{Terms}
use Rattle.name_resolve.specs.Binders.{pair_binder, binders, bound_names, binder}
use Rattle.name_resolve.specs.declared.words.TopWord.{TopWord}
use Rattle.name_resolve.specs.declared.words.TopWord.TheVariants as word
use Rattle.name_resolve.specs.Lists.{form_place}
use Rattle.name_resolve.specs.Means.{top_head, Definition, definition, Main, main, just_main, body}
use Rattle.name_resolve.specs.Reading.{Read, both, with}
use Rattle.name_resolve.specs.Scopes.{Name, under, behind, number_of, HasRoom}
use Rattle.name_resolve.specs.TermForms.{expr}
use Rattle.name_resolve.specs.Tops.{meant, definition_read, known_behind, definitions_read, all_known}
use Rattle.name_resolve.specs.TypeForms.{array_ty, pair_arrays}
use Rattle.name_resolve.proofs.MadeExprs.{made_expr}
use Rattle.name_resolve.proofs.MadeForms.{MadeExpr}
use Rattle.name_resolve.proofs.MadeTypes.{sizes_terms, names_count, made_array_ty, made_pairs}
use Rattle.name_resolve.proofs.ReadOk.{AskedOk, with_ok, asked_ok, both_ok}
use Rattle.name_resolve.proofs.RoomLemmas.{room_less, room_under}
use Rattle.name_resolve.proofs.TopLemmas.{length_more}

-- no type speaks of definitions
mutual
  without_defs : (n : ℕ) (Γ : Scope) (t : Ty) → TyMade Γ t → TyMade (record Γ { defs = n }) t
  without_defs n Γ (BaseTy at b) h = tt
  without_defs n Γ (TyVar at k) h = h
  without_defs n Γ (Fun at ts r) h = (h.0, all_without_defs n Γ ts h.1, h.2, without_defs n Γ r h.3)
  without_defs n Γ (Forall at k t) h = (h.0, h.1, h.2, without_defs n (types_more k Γ) t h.3)
  without_defs n Γ (Pi at ss t) h = (h.0, h.1, h.2, without_defs n (indices_more (length ss) Γ) t h.3)
  without_defs n Γ (Sigma at ss t) h = (h.0, h.1, h.2, without_defs n (indices_more (length ss) Γ) t h.3)
  without_defs n Γ (Arr at t i) h = (without_defs n Γ t h.0, h.1)

  all_without_defs : (n : ℕ) (Γ : Scope) (ts : Tys) → ArraysMade Γ ts → ArraysMade (record Γ { defs = n }) ts
  all_without_defs n Γ no_tys h = tt
  all_without_defs n Γ (more_tys t ts) h = (h.0, without_defs n Γ t h.1, all_without_defs n Γ ts h.2)

each_array : (Γ : Scope) (ts : Tys) → ArraysMade Γ ts → Each (ArrayMade Γ) (ty_items ts)
each_array Γ no_tys h = tt
each_array Γ (more_tys t ts) h = ((h.0, h.1), each_array Γ ts h.2)

-- the parts of a definition and of main are smaller than its form, and as short
record Parts (f t e : Form) : Type 0 where
  pub ty_size : form_size t + form_size e < form_size f
  pub short : IsShort f → IsShort t × IsShort e

parts : (f : Form) (d : Definition) → definition f ≡ Some d → Parts f d.ty d.value
parts (Token at l) d h = absurd (cc)
parts (Group at no_forms) d h = absurd (cc)
parts (Group at (more_forms a no_forms)) d h = absurd (cc)
parts (Group at (more_forms a (more_forms x no_forms))) d h = absurd (cc)
parts (Group at (more_forms a (more_forms x (more_forms t no_forms)))) d h = absurd (cc)
parts (Group at (more_forms a (more_forms x (more_forms t (more_forms e (more_forms g gs)))))) d h = absurd (cc)
parts (Group at (more_forms a (more_forms x (more_forms t (more_forms e no_forms))))) d h = go (top_head a) (binder Terms x) h
  where
    given : Parts (Group at (more_forms a (more_forms x (more_forms t (more_forms e no_forms))))) t e
    given = record { ty_size = omega arith; short = λ s. (s.1.1.1.0, s.1.1.1.1.0) }

    go : (o : Option TopWord) (b : Option _) → ◌≡◌ {A = Option Definition} (elim o [ Some word.Define ↦ elim b [ Some b ↦ Some (record { name = b; ty = t; value = e }) | None ↦ None ] | _ ↦ None ]) (Some d) →
        Parts (Group at (more_forms a (more_forms x (more_forms t (more_forms e no_forms))))) d.ty d.value
    go (Some word.Define) (Some b) h =
        let same : record { name = b; ty = t; value = e } ≡ d = cc in
        subst (λ (d : Definition). Parts (Group at (more_forms a (more_forms x (more_forms t (more_forms e no_forms))))) d.ty d.value) same given
    go (Some word.Define) None h = absurd (cc)
    go (Some word.Main) b h = absurd (cc)
    go None b h = absurd (cc)

record MadeDefinition (xs : List Name) (f : Form) (d : Def) : Type 0 where
  pub ty : ArrayMade (behind_defs (length xs)) d.ty
  pub value : MadeExpr (behind_defs (length xs)) (form_size f) d.value
  pub known : length (known_behind xs f) ≡ suc (length xs)

made_definition : (xs : List Name) (f : Form) (d : Def) → HasRoom (behind xs) (form_size f) → IsShort f → definition_read xs f ≡ Ok d → MadeDefinition xs f d
made_definition xs f d room short h = go (number_of a.part.name.name xs) a.rest
  where
    rest : Definition → Read Def
    rest e = elim (number_of e.name.name xs) as (λ _. Read Def) [ Some k ↦ Err (9, e.name.at) | None ↦ meant xs f e ]

    a : AskedOk (definition f) rest d
    a = asked_ok (form_place f) (definition f) rest d h

    q : Parts f a.part.ty a.part.value
    q = parts f a.part a.is

    go : (o : Option ℕ) → ◌≡◌ {A = Read Def} (elim o [ Some k ↦ Err (9, a.part.name.at) | None ↦ meant xs f a.part ]) (Ok d) → MadeDefinition xs f d
    go (Some k) h = absurd (cc)
    go None h =
        let b = both_ok (λ t e. let d : Def = record { at = form_place f; ty = t; value = e } in d) (array_ty (behind xs) a.part.ty) (expr (behind xs) a.part.value) d h in
        let t = made_array_ty (behind xs) a.part.ty (room_less (behind xs) _ _ room (omega (arith, q.ty_size))) b.left b.read in
        let e = made_expr (behind xs) a.part.value (room_less (behind xs) _ _ room (omega (arith, q.ty_size))) (q.short short).1 b.right b.later in
        record {
          ty = subst (λ (d : Def). ArrayMade (behind_defs (length xs)) d.ty) (sym b.made) t;
          value = subst (λ (d : Def). MadeExpr (behind_defs (length xs)) (form_size f) d.value) (sym b.made) (record { made = e.made; nodes = omega (arith, e.nodes, q.ty_size) });
          known = ap (λ (o : Option Definition). length (elim o as (λ _. List Name) [ Some d ↦ xs ++ d.name.name ∷ [] | None ↦ xs ])) a.is ∙ length_more xs a.part.name.name;
        }

pub record MadeDefinitions (xs : List Name) (fs : Forms) (ds : List Def) : Type 0 where
  pub made : DefsMade (length xs) ds
  pub nodes : defs_nodes ds ≤ 2 * forms_size fs
  pub count : length ds ≤ forms_size fs
  pub known : length (all_known xs fs) ≡ length xs + length ds

pub made_definitions : (xs : List Name) (fs : Forms) (ds : List Def) → HasRoom (behind xs) (forms_size fs) → AreShort fs → definitions_read xs fs ≡ Ok ds → MadeDefinitions xs fs ds
made_definitions xs no_forms ds room short h =
    let e : [] ≡ ds = cc in subst (MadeDefinitions xs no_forms) e (record { made = tt; nodes = omega arith; count = omega arith; known = omega arith })
made_definitions xs (more_forms f fs) ds room short h =
    let b = both_ok (λ d ds. d ∷ ds) (definition_read xs f) (definitions_read (known_behind xs f) fs) ds h in
    let x = made_definition xs f b.left (room_less (behind xs) _ _ room (omega arith)) short.0 b.read in
    let later : HasRoom (behind (known_behind xs f)) (forms_size fs) = record { defs = omega (arith, room.defs, x.known, some_size f); terms = omega (arith, room.terms); types = omega (arith, room.types); indices = omega (arith, room.indices) } in
    let i = made_definitions (known_behind xs f) fs b.right later short.1 b.later in
    subst (MadeDefinitions xs (more_forms f fs)) (sym b.made) (record {
      made = (x.ty, x.value.made, subst (λ n. DefsMade n b.right) x.known i.made);
      nodes = omega (arith, x.value.nodes, i.nodes);
      count = omega (arith, i.count, some_size f);
      known = omega (arith, x.known, i.known);
    })

-- main
record MainParts (f : Form) (m : Main) : Type 0 where
  pub size : forms_size m.inputs + form_size m.body < form_size f
  pub short : IsShort f → IsShort m.body

main_parts : (f : Form) (m : Main) → main f ≡ Some m → MainParts f m
main_parts (Token at l) m h = absurd (cc)
main_parts (Group at no_forms) m h = absurd (cc)
main_parts (Group at (more_forms a no_forms)) m h = absurd (cc)
main_parts (Group at (more_forms a (more_forms p no_forms))) m h = absurd (cc)
main_parts (Group at (more_forms a (more_forms p (more_forms e (more_forms g gs))))) m h = absurd (cc)
main_parts (Group at (more_forms a (more_forms (Token at' l) (more_forms e no_forms)))) m h = go (top_head a) h
  where
    go : (o : Option TopWord) → ◌≡◌ {A = Option Main} (elim o [ Some word.Main ↦ None | _ ↦ None ]) (Some m) → MainParts (Group at (more_forms a (more_forms (Token at' l) (more_forms e no_forms)))) m
    go (Some word.Main) h = absurd (cc)
    go (Some word.Define) h = absurd (cc)
    go None h = absurd (cc)
main_parts (Group at (more_forms a (more_forms (Group at' is) (more_forms e no_forms)))) m h = go (top_head a) h
  where
    go : (o : Option TopWord) → ◌≡◌ {A = Option Main} (elim o [ Some word.Main ↦ Some (record { inputs = is; body = e }) | _ ↦ None ]) (Some m) → MainParts (Group at (more_forms a (more_forms (Group at' is) (more_forms e no_forms)))) m
    go (Some word.Main) h =
        let q : record { inputs = is; body = e } ≡ m = cc in
        subst (MainParts (Group at (more_forms a (more_forms (Group at' is) (more_forms e no_forms))))) q (record { size = omega arith; short = λ s. s.1.1.1.0 })
    go (Some word.Define) h = absurd (cc)
    go None h = absurd (cc)

pub record MadeBody (xs : List Name) (f : Form) (P : Program) : Type 0 where
  pub inputs : Each (ArrayMade (behind_defs 0)) P.inputs
  pub body : ExprMade (terms_more (length P.inputs) (behind_defs (length xs))) P.body
  pub nodes : expr_nodes P.body ≤ 2 * form_size f
  pub count : length P.inputs ≤ form_size f

body_made : (xs : List Name) (f : Form) (P : Program) (m : Main) → MainParts f m → HasRoom (behind xs) (form_size f) → IsShort f → (ys : List Name) → bound_names (form_place f) (binders (pair_binder Terms) m.inputs) ≡ Ok ys →
    both just_main (pair_arrays (behind xs) m.inputs) (expr (under Terms ys (behind xs)) m.body) ≡ Ok P → MadeBody xs f P
body_made xs f P m q room short ys n h =
    let b = both_ok just_main (pair_arrays (behind xs) m.inputs) (expr (under Terms ys (behind xs)) m.body) P h in
    let i = made_pairs (behind xs) m.inputs (room_less (behind xs) _ _ room (omega (arith, q.size))) b.left b.read in
    let names = names_count (form_place f) (pair_binder Terms) m.inputs ys n in
    let e = made_expr (under Terms ys (behind xs)) m.body (room_under Terms ys (behind xs) (length ys) _ _ room refl (omega (arith, q.size, names, count_within m.inputs))) (q.short short) b.right b.later in
    subst (MadeBody xs f) (sym b.made) (record {
      inputs = each_array (behind_defs 0) b.left (all_without_defs 0 (behind_defs (length xs)) b.left i.1);
      body = subst (λ S. ExprMade S b.right) (sizes_terms ys (behind xs) ∙ ap (λ n. terms_more n (behind_defs (length xs))) (names ∙ sym i.0)) e.made;
      nodes = omega (arith, e.nodes, q.size);
      count = omega (arith, i.0, q.size, count_within m.inputs);
    })

pub made_body : (xs : List Name) (f : Form) (P : Program) → HasRoom (behind xs) (form_size f) → IsShort f → body xs f ≡ Ok P → MadeBody xs f P
made_body xs f P room short h =
    let a = asked_ok (form_place f) (main f) (λ m. with (bound_names (form_place f) (binders (pair_binder Terms) m.inputs)) (λ ys. both just_main (pair_arrays (behind xs) m.inputs) (expr (under Terms ys (behind xs)) m.body))) P h in
    let w = with_ok (bound_names (form_place f) (binders (pair_binder Terms) a.part.inputs)) (λ ys. both just_main (pair_arrays (behind xs) a.part.inputs) (expr (under Terms ys (behind xs)) a.part.body)) P a.rest in
    body_made xs f P a.part (main_parts f a.part a.is) room short w.part w.read w.rest

-- the program of definitions and main
pub program_made : (fs : Forms) (f : Form) (ds : List Def) (P : Program) → forms_size fs + form_size f < 2 ^ 26 → HasRoom (behind []) (forms_size fs) → HasRoom (behind (all_known [] fs)) (form_size f) → AreShort fs → IsShort f →
    definitions_read [] fs ≡ Ok ds → body (all_known [] fs) f ≡ Ok P → IsWellMade (record P { defs = ds })
program_made fs f ds P small first last shorts short read h =
    let d = made_definitions [] fs ds first shorts read in
    let b = made_body (all_known [] fs) f P last short h in
    let n : length (all_known [] fs) ≡ length ds = omega (arith, d.known) in
    record {
      defs = d.made;
      inputs = b.inputs;
      body = subst (λ k. ExprMade (terms_more (length P.inputs) (behind_defs k)) P.body) n b.body;
      nodes_few = omega (arith, small, d.nodes, b.nodes);
      defs_few = omega (arith, small, d.count);
      inputs_few = omega (arith, small, b.count);
    }
