-- The numbers of refusals of expressions and of programs.
use Rattle.std.proofs.Common.{ℕ, zero, suc, ◌^◌, arith, pos, negsuc, List, [], ◌∷◌, ◌++◌, Bool, true, false, nat_lt, max, ◌==◌, Option, Some, None, Ok, Err, if◌then◌else◌}
use Rattle.core_syntax.specs.declared.span.Span.{Span}
use Rattle.core_syntax.specs.Lists.{product}
use Rattle.core_syntax.specs.declared.primitive.Primitive.{Primitive}
use Rattle.core_syntax.specs.Syntax.{Program, Expr, TermVar, DefVar, Array, NoAtoms, Frame, NoCells, Atom, PrimAtom, Atoms, Exprs}
use Rattle.sexp_reader.specs.declared.pieces.Leaf.{Leaf}
use Rattle.sexp_reader.specs.declared.pieces.Leaf.TheVariants as leaf
use Rattle.sexp_reader.specs.Forms.{Form, Atom as Token, Group, Forms, no_forms, more_forms, forms_count}
use Rattle.prim_table.specs.Names.{named}
use Rattle.name_resolve.specs.declared.words.NameSpace.TheVariants.{Terms, Types, Indices}
use Rattle.name_resolve.specs.declared.words.AtomWord.{AtomWord}
use Rattle.name_resolve.specs.declared.words.AtomWord.TheVariants as atom_word
use Rattle.name_resolve.specs.declared.words.ExprWord.{ExprWord}
use Rattle.name_resolve.specs.declared.words.ExprWord.TheVariants as expr_word
use Rattle.name_resolve.specs.Binders.{binder, pair_binder, binders, bound_names}
use Rattle.name_resolve.specs.IndexForms.{indices}
use Rattle.name_resolve.specs.Lists.{form_place, nth, hidden, the_one, the_two, some_listed, listed}
use Rattle.name_resolve.specs.Means.{Definition, definition, main, body, defined, program_behind, program, with_definition, just_main}
use Rattle.name_resolve.specs.Reading.{Read, mapped, three, asked}
use Rattle.name_resolve.specs.Scopes.{Name, Scopes, under, behind, number_of}
use Rattle.name_resolve.specs.TermForms.{primitive, name, token, token_atom, number, numbers, of_rank, of_count, dims, atom_head, expr_head, unbox, Parts, list_atom, array_of, array, frame_of, frame, type_app, index_app, app, expr, exprs, atom, atoms, nth_expr, last_in, last, scalar}
use Rattle.name_resolve.specs.TypeForms.{pair_sorts, ty, array_ty, types, pair_arrays}
use Rattle.name_resolve.proofs.Numbers.{Numbered, mapped_n, with_n, asked_n, both_n, three_n, tested_n, seven, bound_n, indices_n, pair_sorts_n, ty_n, array_ty_n, types_n, pair_arrays_n}

-- tokens
primitive_n : (at : Span) (x : Name) → Numbered (primitive at x)
primitive_n at x = go (named x)
  where
    go : (o : Option Primitive) → Numbered {A = Atom} (elim o as (λ _. Read Atom) [ Some p ↦ Ok (PrimAtom at p) | None ↦ Err (8, at) ])
    go (Some p) = tt
    go None = (omega arith, omega arith)

name_n : (Γ : Scopes) (at : Span) (x : Name) → Numbered (name Γ at x)
name_n Γ at x = go (number_of x Γ.terms) (number_of x Γ.defs)
  where
    go : (o p : Option ℕ) → Numbered {A = Expr} (elim o as (λ _. Read Expr) [ Some k ↦ Ok (TermVar at k) | None ↦ elim p as (λ _. Read Expr) [ Some k ↦ Ok (DefVar at k) | None ↦ mapped (scalar at) (primitive at x) ] ])
    go (Some k) p = tt
    go None (Some k) = tt
    go None None = mapped_n (scalar at) (primitive at x) (primitive_n at x)

token_n : (Γ : Scopes) (at : Span) (l : Leaf) → Numbered (token Γ at l)
token_n Γ at (leaf.Int z) = tt
token_n Γ at (leaf.Bool b) = tt
token_n Γ at (leaf.Char c) = tt
token_n Γ at (leaf.Text t) = tt
token_n Γ at (leaf.Symbol x) = name_n Γ at x

token_atom_n : (Γ : Scopes) (at : Span) (l : Leaf) → Numbered (token_atom Γ at l)
token_atom_n Γ at (leaf.Int z) = tt
token_atom_n Γ at (leaf.Bool b) = tt
token_atom_n Γ at (leaf.Char c) = tt
token_atom_n Γ at (leaf.Text t) = seven
token_atom_n Γ at (leaf.Symbol x) = tested_n at _ (primitive at x) (primitive_n at x)

-- the numbers of arrays and frames
number_n : (f : Form) → Numbered (number f)
number_n (Token at (leaf.Int (pos n))) = go (nat_lt n (2 ^ 32))
  where
    go : (b : Bool) → Numbered {A = ℕ} (if b then Ok n else Err (11, at))
    go true = tt
    go false = (omega arith, omega arith)
number_n (Token at (leaf.Int (negsuc n))) = seven
number_n (Token at (leaf.Bool b)) = seven
number_n (Token at (leaf.Char c)) = seven
number_n (Token at (leaf.Text t)) = seven
number_n (Token at (leaf.Symbol x)) = seven
number_n (Group at fs) = seven

numbers_n : (fs : Forms) → Numbered (numbers fs)
numbers_n no_forms = tt
numbers_n (more_forms f fs) = both_n _ (number f) (numbers fs) (number_n f) (numbers_n fs)

rank_n : (fs : Forms) (ns : List ℕ) → Numbered (of_rank fs ns)
rank_n fs ns = go (nth 64 fs)
  where
    go : (o : Option Form) → Numbered {A = List ℕ} (elim o as (λ _. Read (List ℕ)) [ Some f ↦ Err (12, form_place f) | None ↦ Ok ns ])
    go (Some f) = (omega arith, omega arith)
    go None = tt

count_n : (at : Span) (items : ℕ) (ns : List ℕ) → Numbered (of_count at items ns)
count_n at items ns = go (items == max 1 (product ns))
  where
    go : (b : Bool) → Numbered {A = List ℕ} (if b then Ok ns else Err (10, at))
    go true = tt
    go false = (omega arith, omega arith)

dims_n : (at : Span) (p : Form) (items : ℕ) → Numbered (dims at p items)
dims_n at p items = asked_n at (listed p) _ (λ fs. with_n (numbers fs) _ (numbers_n fs) (λ ns. with_n (of_rank fs ns) (of_count at items) (rank_n fs ns) (count_n at items)))

list_atom_n : (Γ : Scopes) (at : Span) (w : AtomWord) (p : Form) (fs : Forms) (part : Parts) → ((k : ℕ) (Δ : Scopes) → Numbered (part k Δ)) → Numbered (list_atom Γ at w p fs part)
list_atom_n Γ at atom_word.Fn p fs part h =
    asked_n at (the_two fs) _ (λ q. asked_n at (some_listed p) _ (λ ps. with_n (bound_names at (binders (pair_binder Terms) ps)) _ (bound_n at (binders (pair_binder Terms) ps))
    (λ xs. three_n _ (pair_arrays Γ ps) (array_ty Γ q.left) (part 1 (under Terms xs Γ)) (pair_arrays_n Γ ps) (array_ty_n Γ q.left) (h 1 (under Terms xs Γ)))))
list_atom_n Γ at atom_word.TypeFn p fs part h =
    asked_n at (the_one fs) _ (λ q. asked_n at (some_listed p) _ (λ ns. with_n (bound_names at (binders (binder Types) ns)) _ (bound_n at (binders (binder Types) ns))
    (λ xs. mapped_n _ (part 0 (under Types xs Γ)) (h 0 (under Types xs Γ)))))
list_atom_n Γ at atom_word.IndexFn p fs part h =
    asked_n at (the_one fs) _ (λ q. asked_n at (some_listed p) _ (λ ps. with_n (bound_names at (binders (pair_binder Indices) ps)) _ (bound_n at (binders (pair_binder Indices) ps))
    (λ xs. both_n _ (pair_sorts ps) (part 0 (under Indices xs Γ)) (pair_sorts_n ps) (h 0 (under Indices xs Γ)))))
list_atom_n Γ at atom_word.Box p fs part h =
    asked_n at (the_two fs) _ (λ q. asked_n at (some_listed p) _ (λ is. three_n _ (indices Γ.indices is) (part 0 Γ) (ty Γ q.right) (indices_n Γ.indices is) (h 0 Γ) (ty_n Γ q.right)))

unbox_n : (Γ : Scopes) (at : Span) (p : Form) (fs : Forms) (box : Read Expr) (body : Scopes → Read Expr) → Numbered box → ((Δ : Scopes) → Numbered (body Δ)) → Numbered (unbox Γ at p fs box body)
unbox_n Γ at p fs box body h k =
    asked_n at (the_two fs) _ (λ q. asked_n at (hidden p) _ (λ u. asked_n at (binder Terms u.term) _ (λ b. with_n (bound_names at (binders (binder Indices) u.indices)) _ (bound_n at (binders (binder Indices) u.indices))
    (λ xs. three_n _ box (array_ty Γ q.left) (body (under Terms (b.name ∷ []) (under Indices xs Γ))) h (array_ty_n Γ q.left) (k (under Terms (b.name ∷ []) (under Indices xs Γ)))))))

array_n : (Γ : Scopes) (at : Span) (p : Form) (fs : Forms) (items : Read Atoms) → Numbered items → Numbered (array Γ at p fs items)
array_n Γ at p fs items h = with_n (dims at p (forms_count fs)) (array_of Γ at fs items) (dims_n at p (forms_count fs)) (λ ns. go ns (product ns == 0))
  where
    go : (ns : List ℕ) (b : Bool) → Numbered {A = Expr} (if b then asked at (the_one fs) (λ q. mapped (NoAtoms at ns) (ty Γ q)) else mapped (Array at ns) items)
    go ns true = asked_n at (the_one fs) _ (λ q. mapped_n _ (ty Γ q) (ty_n Γ q))
    go ns false = mapped_n _ items h

frame_n : (Γ : Scopes) (at : Span) (p : Form) (fs : Forms) (cells : Read Exprs) → Numbered cells → Numbered (frame Γ at p fs cells)
frame_n Γ at p fs cells h = with_n (dims at p (forms_count fs)) (frame_of Γ at fs cells) (dims_n at p (forms_count fs)) (λ ns. go ns (product ns == 0))
  where
    go : (ns : List ℕ) (b : Bool) → Numbered {A = Expr} (if b then asked at (the_one fs) (λ q. mapped (NoCells at ns) (array_ty Γ q)) else mapped (Frame at ns) cells)
    go ns true = asked_n at (the_one fs) _ (λ q. mapped_n _ (array_ty Γ q) (array_ty_n Γ q))
    go ns false = mapped_n _ cells h

mutual
  expr_n : (Γ : Scopes) (f : Form) → Numbered (expr Γ f)
  expr_n Γ (Token at l) = token_n Γ at l
  expr_n Γ (Group at no_forms) = seven
  expr_n Γ (Group at (more_forms f no_forms)) = seven
  expr_n Γ (Group at (more_forms f (more_forms p fs))) =
      go (expr_head f) (atom_head f) (expr_n Γ f) (expr_n Γ p) (exprs_n Γ fs) (atoms_n Γ fs) (λ k Δ. nth_n k Δ fs) (last_in_n Γ p)
    where
      go : (o : Option ExprWord) (w : Option AtomWord) → Numbered (expr Γ f) → Numbered (expr Γ p) → Numbered (exprs Γ fs) → Numbered (atoms Γ fs) → ((k : ℕ) (Δ : Scopes) → Numbered (nth_expr k Δ fs)) → Numbered (last_in Γ p) →
          Numbered {A = Expr} (elim o as (λ _. Read Expr) [
            | Some expr_word.Array ↦ array Γ at p fs (atoms Γ fs)
            | Some expr_word.Frame ↦ frame Γ at p fs (exprs Γ fs)
            | Some expr_word.Unbox ↦ unbox Γ at p fs (last_in Γ p) (λ Δ. nth_expr 1 Δ fs)
            | Some expr_word.TypeApp ↦ type_app Γ at fs (expr Γ p)
            | Some expr_word.IndexApp ↦ index_app Γ at fs (expr Γ p)
            | None ↦ elim w as (λ _. Read Expr) [
              | Some v ↦ mapped (scalar at) (list_atom Γ at v p fs (λ k Δ. nth_expr k Δ fs))
              | None ↦ app at (expr Γ f) (expr Γ p) (exprs Γ fs)
            ]
          ])
      go (Some expr_word.Array) w head first es xs parts box = array_n Γ at p fs (atoms Γ fs) xs
      go (Some expr_word.Frame) w head first es xs parts box = frame_n Γ at p fs (exprs Γ fs) es
      go (Some expr_word.Unbox) w head first es xs parts box = unbox_n Γ at p fs (last_in Γ p) (λ Δ. nth_expr 1 Δ fs) box (parts 1)
      go (Some expr_word.TypeApp) w head first es xs parts box = tested_n at _ _ (both_n _ (expr Γ p) (types Γ fs) first (types_n Γ fs))
      go (Some expr_word.IndexApp) w head first es xs parts box = tested_n at _ _ (both_n _ (expr Γ p) (indices Γ.indices fs) first (indices_n Γ.indices fs))
      go None (Some v) head first es xs parts box = mapped_n (scalar at) (list_atom Γ at v p fs (λ k Δ. nth_expr k Δ fs)) (list_atom_n Γ at v p fs (λ k Δ. nth_expr k Δ fs) parts)
      go None None head first es xs parts box = both_n _ (expr Γ f) _ head (both_n _ (expr Γ p) (exprs Γ fs) first es)

  exprs_n : (Γ : Scopes) (fs : Forms) → Numbered (exprs Γ fs)
  exprs_n Γ no_forms = tt
  exprs_n Γ (more_forms f fs) = both_n _ (expr Γ f) (exprs Γ fs) (expr_n Γ f) (exprs_n Γ fs)

  atom_n : (Γ : Scopes) (f : Form) → Numbered (atom Γ f)
  atom_n Γ (Token at l) = token_atom_n Γ at l
  atom_n Γ (Group at no_forms) = seven
  atom_n Γ (Group at (more_forms f no_forms)) = seven
  atom_n Γ (Group at (more_forms f (more_forms p fs))) = go (atom_head f) (λ k Δ. nth_n k Δ fs)
    where
      go : (o : Option AtomWord) → ((k : ℕ) (Δ : Scopes) → Numbered (nth_expr k Δ fs)) → Numbered {A = Atom} (elim o as (λ _. Read Atom) [ Some w ↦ list_atom Γ at w p fs (λ k Δ. nth_expr k Δ fs) | None ↦ Err (7, at) ])
      go (Some w) parts = list_atom_n Γ at w p fs (λ k Δ. nth_expr k Δ fs) parts
      go None parts = seven

  atoms_n : (Γ : Scopes) (fs : Forms) → Numbered (atoms Γ fs)
  atoms_n Γ no_forms = tt
  atoms_n Γ (more_forms f fs) = both_n _ (atom Γ f) (atoms Γ fs) (atom_n Γ f) (atoms_n Γ fs)

  nth_n : (k : ℕ) (Γ : Scopes) (fs : Forms) → Numbered (nth_expr k Γ fs)
  nth_n k Γ no_forms = seven
  nth_n zero Γ (more_forms f fs) = expr_n Γ f
  nth_n (suc k) Γ (more_forms f fs) = nth_n k Γ fs

  last_in_n : (Γ : Scopes) (f : Form) → Numbered (last_in Γ f)
  last_in_n Γ (Group at fs) = last_n Γ fs
  last_in_n Γ (Token at l) = seven

  last_n : (Γ : Scopes) (fs : Forms) → Numbered (last Γ fs)
  last_n Γ no_forms = seven
  last_n Γ (more_forms f no_forms) = expr_n Γ f
  last_n Γ (more_forms f (more_forms g gs)) = last_n Γ (more_forms g gs)

-- top forms
body_n : (xs : List Name) (f : Form) → Numbered (body xs f)
body_n xs f =
    asked_n (form_place f) (main f) _ (λ m. with_n (bound_names (form_place f) (binders (pair_binder Terms) m.inputs)) _ (bound_n (form_place f) (binders (pair_binder Terms) m.inputs))
    (λ ys. both_n just_main (pair_arrays (behind xs) m.inputs) (expr (under Terms ys (behind xs)) m.body) (pair_arrays_n (behind xs) m.inputs) (expr_n (under Terms ys (behind xs)) m.body)))

defined_n : (xs : List Name) (f : Form) (rest : Name → Read Program) → ((x : Name) → Numbered (rest x)) → Numbered (defined xs f rest)
defined_n xs f rest h = asked_n (form_place f) (definition f) _ (λ d. go d (number_of d.name.name xs))
  where
    go : (d : Definition) (o : Option ℕ) → Numbered {A = Program}
        (elim o as (λ _. Read Program) [ Some k ↦ Err (9, d.name.at) | None ↦ three (with_definition (form_place f)) (array_ty (behind xs) d.ty) (expr (behind xs) d.value) (rest d.name.name) ])
    go d (Some k) = (omega arith, omega arith)
    go d None = three_n (with_definition (form_place f)) (array_ty (behind xs) d.ty) (expr (behind xs) d.value) (rest d.name.name) (array_ty_n (behind xs) d.ty) (expr_n (behind xs) d.value) (h d.name.name)

behind_n : (xs : List Name) (f : Form) (fs : Forms) → Numbered (program_behind xs f fs)
behind_n xs f no_forms = body_n xs f
behind_n xs f (more_forms g gs) = defined_n xs f (λ x. program_behind (xs ++ x ∷ []) g gs) (λ x. behind_n (xs ++ x ∷ []) g gs)

pub program_n : (fs : Forms) → Numbered (program fs)
program_n no_forms = seven
program_n (more_forms f fs) = behind_n [] f fs
