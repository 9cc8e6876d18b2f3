-- Forms of expressions and atoms that are read are well made, where their parts are.
use Rattle.std.proofs.Common.{◌≡◌, refl, sym, ap, subst, ◌∙◌, ℕ, zero, suc, ◌+◌, ◌*◌, ◌<◌, ◌≤◌, ◌^◌, max, arith, List, [], ◌∷◌, length, Bool, true, false, nat_lt, ◌==◌, not, ◌||◌, Option, Some, None, Ok, Err, if◌then◌else◌}
use Rattle.std.specs.Option.{is_some}
use Rattle.std.proofs.lemmas.Bool.Decides.{nat_tests}
use Rattle.core_syntax.specs.declared.span.Span.{Span}
use Rattle.core_syntax.specs.Lists.{product}
use Rattle.core_syntax.specs.Made.{Scope, indices_more, terms_more, DimsOf, ExprMade, ExprsMade, AtomMade, AtomsMade, expr_nodes, exprs_nodes, atom_nodes, atoms_nodes}
use Rattle.core_syntax.specs.Syntax.{index_items, ty_items, Expr, TermVar, DefVar, Array, NoAtoms, Frame, NoCells, App, TypeApp, IndexApp, Unbox, Exprs, more_exprs, expr_items, Atom, IntAtom, BoolAtom, CharAtom, PrimAtom, Fn, TypeFn, IndexFn, Boxed, Atoms, atom_items}
use Rattle.core_syntax.specs.declared.primitive.Primitive.{Primitive}
use Rattle.sexp_reader.specs.declared.pieces.Leaf.{Leaf}
use Rattle.sexp_reader.specs.declared.pieces.Leaf.TheVariants as leaf
use Rattle.sexp_reader.specs.Forms.{Form, Group, Forms, no_forms, more_forms, form_size, forms_size, forms_count, IsShortLeaf}
use Rattle.sexp_reader.specs.Forms as form
use Rattle.sexp_reader.specs.Sizes.{leaf_size}
use Rattle.sexp_reader.proofs.Short.{some_size, count_within}
use Rattle.prim_table.specs.Names.{named}
use Rattle.name_resolve.specs.declared.words.NameSpace.TheVariants.{Terms, Types, Indices as IndexNames}
use Rattle.name_resolve.specs.Binders.{binder, pair_binder, binders, bound_names}
use Rattle.name_resolve.specs.IndexForms.{indices}
use Rattle.name_resolve.specs.Lists.{form_place, listed, some_listed, the_one, the_two, Two, nth, Hidden, hidden, hidden_among}
use Rattle.name_resolve.specs.Reading.{Read, mapped, with, both, asked}
use Rattle.name_resolve.specs.Scopes.{Name, Scopes, under, number_of, HasRoom}
use Rattle.name_resolve.specs.TermForms.{scalar, chars, text, primitive, name, token, token_atom, number, numbers, of_rank, of_count, dims, fn_atom, type_fn_atom, index_fn_atom, box_atom, unbox, array_of, array, frame_of, frame, type_app, index_app, app}
use Rattle.name_resolve.specs.TypeForms.{ty, array_ty, types, pair_sorts, pair_arrays}
use Rattle.name_resolve.proofs.ReadOk.{mapped_ok, with_ok, asked_ok, both_ok, three_ok, tested_ok, number_within}
use Rattle.name_resolve.proofs.RoomLemmas.{room_less, room_under, listed_size}
use Rattle.name_resolve.proofs.MadeTypes.{sizes, sizes_types, sizes_indices, sizes_terms, names_count, some_count, made_indices, indices_count, each_index, sorts_count, made_ty, made_array_ty, made_types, made_pairs}

-- an expression of a form of this size is well made, and has few nodes; an atom has one fewer
pub record MadeExpr (S : Scope) (n : ℕ) (e : Expr) : Type 0 where
  pub made : ExprMade S e
  pub nodes : expr_nodes e ≤ 2 * n

pub record MadeAtom (S : Scope) (n : ℕ) (a : Atom) : Type 0 where
  pub made : AtomMade S a
  pub nodes : atom_nodes a + 1 ≤ 2 * n

-- what is read in scopes with room
abbrev pub ReadsExpr : ℕ → (Scopes → Read Expr) → Type 0
ReadsExpr n body = (Δ : Scopes) → HasRoom Δ n → (e : Expr) → body Δ ≡ Ok e → MadeExpr (sizes Δ) n e

-- Tokens

pub scalar_made : (S : Scope) (n : ℕ) (at : Span) (a : Atom) → MadeAtom S n a → MadeExpr S n (scalar at a)
scalar_made S n at a h = record { made = ((omega arith, omega arith, omega arith, refl), (h.made, tt)); nodes = omega (arith, h.nodes) }

chars_count : (at : Span) (cs : List ℕ) → length (atom_items (chars at cs)) ≡ length cs
chars_count at [] = refl
chars_count at (c ∷ cs) = omega (arith, chars_count at cs)

chars_nodes : (at : Span) (cs : List ℕ) → atoms_nodes (chars at cs) ≡ length cs
chars_nodes at [] = refl
chars_nodes at (c ∷ cs) = omega (arith, chars_nodes at cs)

chars_made : (S : Scope) (at : Span) (cs : List ℕ) → AtomsMade S (chars at cs)
chars_made S at [] = tt
chars_made S at (c ∷ cs) = (tt, chars_made S at cs)

text_made : (S : Scope) (at : Span) (cs : List ℕ) → length cs ≤ 2 ^ 24 → MadeExpr S (1 + length cs) (text at cs)
text_made S at [] h = record { made = ((omega arith, refl), tt); nodes = omega arith }
text_made S at (c ∷ cs) h =
    let n = chars_count at (c ∷ cs) in
    record { made = ((omega arith, omega (arith, n), omega (arith, n), omega (arith, n)), chars_made S at (c ∷ cs)); nodes = omega (arith, chars_nodes at (c ∷ cs)) }

primitive_made : (S : Scope) (at : Span) (x : Name) (a : Atom) → primitive at x ≡ Ok a → MadeAtom S 1 a
primitive_made S at x a h = go (named x) h
  where
    go : (o : Option Primitive) → ◌≡◌ {A = Read Atom} (elim o [ Some p ↦ Ok (PrimAtom at p) | None ↦ Err (8, at) ]) (Ok a) → MadeAtom S 1 a
    go (Some p) h = let e : PrimAtom at p ≡ a = cc in subst (MadeAtom S 1) e (record { made = tt; nodes = omega arith })
    go None h = absurd (cc)

name_made : (Γ : Scopes) (at : Span) (x : Name) (e : Expr) → name Γ at x ≡ Ok e → MadeExpr (sizes Γ) 1 e
name_made Γ at x e h = go (number_of x Γ.terms) refl (number_of x Γ.defs) refl h
  where
    go : (o : Option ℕ) → o ≡ number_of x Γ.terms → (d : Option ℕ) → d ≡ number_of x Γ.defs →
        ◌≡◌ {A = Read Expr} (elim o [ Some k ↦ Ok (TermVar at k) | None ↦ elim d [ Some k ↦ Ok (DefVar at k) | None ↦ mapped (scalar at) (primitive at x) ] ]) (Ok e) → MadeExpr (sizes Γ) 1 e
    go (Some k) o d p h = let q : TermVar at k ≡ e = cc in subst (MadeExpr (sizes Γ) 1) q (record { made = number_within x Γ.terms k (sym o); nodes = omega arith })
    go None o (Some k) p h = let q : DefVar at k ≡ e = cc in subst (MadeExpr (sizes Γ) 1) q (record { made = number_within x Γ.defs k (sym p); nodes = omega arith })
    go None o None p h = let m = mapped_ok (scalar at) (primitive at x) e h in subst (MadeExpr (sizes Γ) 1) (sym m.made) (scalar_made (sizes Γ) 1 at m.part (primitive_made (sizes Γ) at x m.part m.read))

pub token_made : (Γ : Scopes) (at : Span) (l : Leaf) (e : Expr) → IsShortLeaf l → token Γ at l ≡ Ok e → MadeExpr (sizes Γ) (leaf_size l) e
token_made Γ at (leaf.Int z) e s h = let q : scalar at (IntAtom at z) ≡ e = cc in subst (MadeExpr (sizes Γ) 1) q (scalar_made (sizes Γ) 1 at (IntAtom at z) (record { made = tt; nodes = omega arith }))
token_made Γ at (leaf.Bool b) e s h = let q : scalar at (BoolAtom at b) ≡ e = cc in subst (MadeExpr (sizes Γ) 1) q (scalar_made (sizes Γ) 1 at (BoolAtom at b) (record { made = tt; nodes = omega arith }))
token_made Γ at (leaf.Char c) e s h = let q : scalar at (CharAtom at c) ≡ e = cc in subst (MadeExpr (sizes Γ) 1) q (scalar_made (sizes Γ) 1 at (CharAtom at c) (record { made = tt; nodes = omega arith }))
token_made Γ at (leaf.Text t) e s h = let q : text at t ≡ e = cc in subst (MadeExpr (sizes Γ) (1 + length t)) q (text_made (sizes Γ) at t s)
token_made Γ at (leaf.Symbol x) e s h = name_made Γ at x e h

pub token_atom_made : (Γ : Scopes) (at : Span) (l : Leaf) (a : Atom) → token_atom Γ at l ≡ Ok a → MadeAtom (sizes Γ) (leaf_size l) a
token_atom_made Γ at (leaf.Int z) a h = let q : IntAtom at z ≡ a = cc in subst (MadeAtom (sizes Γ) 1) q (record { made = tt; nodes = omega arith })
token_atom_made Γ at (leaf.Bool b) a h = let q : BoolAtom at b ≡ a = cc in subst (MadeAtom (sizes Γ) 1) q (record { made = tt; nodes = omega arith })
token_atom_made Γ at (leaf.Char c) a h = let q : CharAtom at c ≡ a = cc in subst (MadeAtom (sizes Γ) 1) q (record { made = tt; nodes = omega arith })
token_atom_made Γ at (leaf.Text t) a h = absurd (cc)
token_atom_made Γ at (leaf.Symbol x) a h = primitive_made (sizes Γ) at x a (tested_ok at (not (is_some (number_of x Γ.terms) || is_some (number_of x Γ.defs))) (primitive at x) a h).1

-- The numbers of arrays and frames

numbers_count : (fs : Forms) (ns : List ℕ) → numbers fs ≡ Ok ns → length ns ≡ forms_count fs
numbers_count no_forms ns h = let e : [] ≡ ns = cc in ap length (sym e)
numbers_count (more_forms f fs) ns h =
    let r = both_ok (λ n ms. n ∷ ms) (number f) (numbers fs) ns h in
    omega (arith, ap length r.made, numbers_count fs r.right r.later)

nth_count : (k : ℕ) (fs : Forms) → nth k fs ≡ None → forms_count fs ≤ k
nth_count k no_forms h = omega arith
nth_count zero (more_forms f fs) h = absurd (cc)
nth_count (suc k) (more_forms f fs) h = omega (arith, nth_count k fs h)

eq_from : (a b : ℕ) → (a == b) ≡ true → a ≡ b
eq_from a b h = grind (arith, nat_tests)

pub record MadeDims (items : ℕ) (ns : List ℕ) : Type 0 where
  pub rank : length ns ≤ 64
  pub count : items ≡ max 1 (product ns)

pub dims_made : (at : Span) (p : Form) (items : ℕ) (ns : List ℕ) → dims at p items ≡ Ok ns → MadeDims items ns
dims_made at p items ns h =
    let a = asked_ok at (listed p) (λ fs. with (numbers fs) (λ ms. with (of_rank fs ms) (of_count at items))) ns h in
    let w = with_ok (numbers a.part) (λ ms. with (of_rank a.part ms) (of_count at items)) ns a.rest in
    let v = with_ok (of_rank a.part w.part) (of_count at items) ns w.rest in
    let r = ranked a.part w.part (nth 64 a.part) refl v.part v.read in
    counted v.part (items == max 1 (product v.part)) refl v.rest (omega (arith, r.1, ap length r.0, numbers_count a.part w.part w.read))
  where
    ranked : (fs : Forms) (ms : List ℕ) (o : Option Form) → o ≡ nth 64 fs → (ks : List ℕ) → ◌≡◌ {A = Read (List ℕ)} (elim o [ Some f ↦ Err (12, form_place f) | None ↦ Ok ms ]) (Ok ks) → (ks ≡ ms) × (forms_count fs ≤ 64)
    ranked fs ms (Some f) e ks h = absurd (cc)
    ranked fs ms None e ks h = (cc, nth_count 64 fs (sym e))

    counted : (ks : List ℕ) (b : Bool) → b ≡ (items == max 1 (product ks)) → ◌≡◌ {A = Read (List ℕ)} (if b then Ok ks else Err (10, at)) (Ok ns) → length ks ≤ 64 → MadeDims items ns
    counted ks true e h l = let q : ks ≡ ns = cc in record { rank = omega (arith, l, ap length q); count = eq_from items (max 1 (product ks)) (sym e) ∙ ap (λ ms. max 1 (product ms)) q }
    counted ks false e h l = absurd (cc)

-- the only form, and two, are no larger than all
one_size : (fs : Forms) (q : Form) → the_one fs ≡ Some q → form_size q ≤ forms_size fs
one_size no_forms q h = absurd (cc)
one_size (more_forms f no_forms) q h = let e : f ≡ q = cc in omega (arith, ap form_size e)
one_size (more_forms f (more_forms g gs)) q h = absurd (cc)

two_size : (fs : Forms) (q : Two) → the_two fs ≡ Some q → form_size q.left + form_size q.right ≤ forms_size fs
two_size no_forms q h = absurd (cc)
two_size (more_forms f no_forms) q h = absurd (cc)
two_size (more_forms f (more_forms g no_forms)) q h = let e : record { left = f; right = g } ≡ q = cc in omega (arith, ap (λ (r : Two). form_size r.left + form_size r.right) e)
two_size (more_forms f (more_forms g (more_forms k ks))) q h = absurd (cc)

-- as many items as the numbers say
dims_of : (items n : ℕ) (ns : List ℕ) → MadeDims items ns → (product ns == 0) ≡ false → items ≤ 2 ^ 24 → n ≡ items → DimsOf ns n
dims_of items n ns m z few e = let p = nonzero (product ns) z in (m.rank, omega (arith, m.count, e, p), omega (arith, e), omega (arith, m.count, e, p))
  where
    nonzero : (k : ℕ) → (k == 0) ≡ false → 0 < k
    nonzero k h = grind (arith, nat_tests)

pub array_made : (Γ : Scopes) (at : Span) (p : Form) (fs : Forms) (items : Read Atoms) (e : Expr) → HasRoom Γ (forms_size fs) → forms_count fs ≤ 2 ^ 24 → array Γ at p fs items ≡ Ok e →
    ((xs : Atoms) → items ≡ Ok xs → (length (atom_items xs) ≡ forms_count fs) × AtomsMade (sizes Γ) xs × (atoms_nodes xs ≤ 2 * forms_size fs)) → MadeExpr (sizes Γ) (1 + forms_size fs) e
array_made Γ at p fs items e room few h all =
    let w = with_ok (dims at p (forms_count fs)) (array_of Γ at fs items) e h in
    go w.part (dims_made at p (forms_count fs) w.part w.read) (product w.part == 0) refl w.rest
  where
    go : (ns : List ℕ) → MadeDims (forms_count fs) ns → (b : Bool) → b ≡ (product ns == 0) →
        ◌≡◌ {A = Read Expr} (if b then asked at (the_one fs) (λ q. mapped (NoAtoms at ns) (ty Γ q)) else mapped (Array at ns) items) (Ok e) → MadeExpr (sizes Γ) (1 + forms_size fs) e
    go ns m true z h =
        let a = asked_ok at (the_one fs) (λ q. mapped (NoAtoms at ns) (ty Γ q)) e h in
        let t = mapped_ok (NoAtoms at ns) (ty Γ a.part) e a.rest in
        subst (MadeExpr (sizes Γ) (1 + forms_size fs)) (sym t.made)
        (record { made = ((m.rank, eq_from (product ns) 0 (sym z)), made_ty Γ a.part (room_less Γ _ _ room (one_size fs a.part a.is)) t.part t.read); nodes = omega arith })
    go ns m false z h =
        let t = mapped_ok (Array at ns) items e h in
        let i = all t.part t.read in
        subst (MadeExpr (sizes Γ) (1 + forms_size fs)) (sym t.made)
        (record { made = (dims_of (forms_count fs) (length (atom_items t.part)) ns m (sym z) few i.0, i.1); nodes = omega (arith, i.2) })

pub frame_made : (Γ : Scopes) (at : Span) (p : Form) (fs : Forms) (cells : Read Exprs) (e : Expr) → HasRoom Γ (forms_size fs) → forms_count fs ≤ 2 ^ 24 → frame Γ at p fs cells ≡ Ok e →
    ((es : Exprs) → cells ≡ Ok es → (length (expr_items es) ≡ forms_count fs) × ExprsMade (sizes Γ) es × (exprs_nodes es ≤ 2 * forms_size fs)) → MadeExpr (sizes Γ) (1 + forms_size fs) e
frame_made Γ at p fs cells e room few h all =
    let w = with_ok (dims at p (forms_count fs)) (frame_of Γ at fs cells) e h in
    go w.part (dims_made at p (forms_count fs) w.part w.read) (product w.part == 0) refl w.rest
  where
    go : (ns : List ℕ) → MadeDims (forms_count fs) ns → (b : Bool) → b ≡ (product ns == 0) →
        ◌≡◌ {A = Read Expr} (if b then asked at (the_one fs) (λ q. mapped (NoCells at ns) (array_ty Γ q)) else mapped (Frame at ns) cells) (Ok e) → MadeExpr (sizes Γ) (1 + forms_size fs) e
    go ns m true z h =
        let a = asked_ok at (the_one fs) (λ q. mapped (NoCells at ns) (array_ty Γ q)) e h in
        let t = mapped_ok (NoCells at ns) (array_ty Γ a.part) e a.rest in
        subst (MadeExpr (sizes Γ) (1 + forms_size fs)) (sym t.made)
        (record { made = ((m.rank, eq_from (product ns) 0 (sym z)), made_array_ty Γ a.part (room_less Γ _ _ room (one_size fs a.part a.is)) t.part t.read); nodes = omega arith })
    go ns m false z h =
        let t = mapped_ok (Frame at ns) cells e h in
        let i = all t.part t.read in
        subst (MadeExpr (sizes Γ) (1 + forms_size fs)) (sym t.made)
        (record { made = (dims_of (forms_count fs) (length (expr_items t.part)) ns m (sym z) few i.0, i.1); nodes = omega (arith, i.2) })

lt_from : (a b : ℕ) → nat_lt a b ≡ true → a < b
lt_from a b h = grind (arith, nat_tests)

pub type_app_made : (Γ : Scopes) (at : Span) (n : ℕ) (fs : Forms) (function : Read Expr) (e : Expr) → HasRoom Γ (forms_size fs) → type_app Γ at fs function ≡ Ok e →
    ((u : Expr) → function ≡ Ok u → MadeExpr (sizes Γ) n u) → MadeExpr (sizes Γ) (1 + n) e
type_app_made Γ at n fs function e room h all =
    let t = tested_ok at (nat_lt 0 (forms_count fs)) (both (TypeApp at) function (types Γ fs)) e h in
    let b = both_ok (TypeApp at) function (types Γ fs) e t.1 in
    let f = all b.left b.read in
    let ts = made_types Γ fs room b.right b.later in
    subst (MadeExpr (sizes Γ) (1 + n)) (sym b.made) (record { made = (f.made, omega (arith, ts.0, lt_from 0 (forms_count fs) t.0), ts.1); nodes = omega (arith, f.nodes) })

pub index_app_made : (Γ : Scopes) (at : Span) (n : ℕ) (fs : Forms) (function : Read Expr) (e : Expr) → index_app Γ at fs function ≡ Ok e →
    ((u : Expr) → function ≡ Ok u → MadeExpr (sizes Γ) n u) → MadeExpr (sizes Γ) (1 + n) e
index_app_made Γ at n fs function e h all =
    let t = tested_ok at (nat_lt 0 (forms_count fs)) (both (λ f is. IndexApp at f (index_items is)) function (indices Γ.indices fs)) e h in
    let b = both_ok (λ f is. IndexApp at f (index_items is)) function (indices Γ.indices fs) e t.1 in
    let f = all b.left b.read in
    subst (MadeExpr (sizes Γ) (1 + n)) (sym b.made)
    (record {
      made = (f.made, omega (arith, indices_count Γ.indices fs b.right b.later, lt_from 0 (forms_count fs) t.0), each_index (length Γ.indices) b.right (made_indices Γ.indices fs b.right b.later));
      nodes = omega (arith, f.nodes);
    })

pub app_made : (S : Scope) (at : Span) (n k m : ℕ) (function first : Read Expr) (rest : Read Exprs) (e : Expr) → app at function first rest ≡ Ok e →
    ((u : Expr) → function ≡ Ok u → MadeExpr S n u) → ((u : Expr) → first ≡ Ok u → MadeExpr S k u) → ((es : Exprs) → rest ≡ Ok es → ExprsMade S es × (exprs_nodes es ≤ 2 * m)) → MadeExpr S (1 + (n + (k + m))) e
app_made S at n k m function first rest e h fun one all =
    let b = both_ok (App at) function (both more_exprs first rest) e h in
    let c = both_ok more_exprs first rest b.right b.later in
    let f = fun b.left b.read in
    let g = one c.left c.read in
    let i = all c.right c.later in
    let args : b.right ≡ more_exprs c.left c.right = c.made in
    subst (MadeExpr S (1 + (n + (k + m)))) (sym (b.made ∙ ap (App at b.left) args)) (record { made = (f.made, omega arith, (g.made, i.0)); nodes = omega (arith, f.nodes, g.nodes, i.1) })

-- Atoms that are lists, of which the first part has size n

pub fn_made : (Γ : Scopes) (at : Span) (p : Form) (fs : Forms) (body : Scopes → Read Expr) (a : Atom) → HasRoom Γ (form_size p + forms_size fs) → fn_atom Γ at p fs body ≡ Ok a →
    ReadsExpr (forms_size fs) body → MadeAtom (sizes Γ) (1 + forms_size fs) a
fn_made Γ at p fs body a room h well =
    let x = asked_ok at (the_two fs) _ a h in
    let y = asked_ok at (some_listed p) _ a x.rest in
    let w = with_ok (bound_names at (binders (pair_binder Terms) y.part)) _ a y.rest in
    let t = three_ok (Fn at) (pair_arrays Γ y.part) (array_ty Γ x.part.left) (body (under Terms w.part Γ)) a w.rest in
    let count = names_count at (pair_binder Terms) y.part w.part w.read in
    let s = listed_size p y.part y.is in
    let c = count_within y.part in
    let two = two_size fs x.part x.is in
    let ins = made_pairs Γ y.part (room_less Γ _ _ room (omega (arith, s))) t.left t.read in
    let ans = made_array_ty Γ x.part.left (room_less Γ _ _ room (omega (arith, two))) t.right t.later in
    let b = well (under Terms w.part Γ) (room_under Terms w.part Γ (length w.part) _ _ room refl (omega (arith, s, c, count))) t.last t.latest in
    let e : length w.part ≡ length (ty_items t.left) = omega (arith, count, ins.0) in
    let q = subst (λ S. ExprMade S t.last) (sizes_terms w.part Γ ∙ ap (λ k. terms_more k (sizes Γ)) e) b.made in
    subst (MadeAtom (sizes Γ) (1 + forms_size fs)) (sym t.made)
    (record {
      made = (omega (arith, ins.0, some_count p y.part y.is), ins.1, ans, (omega (arith, room.types), omega (arith, room.indices), omega (arith, room.terms, s, c, ins.0)), q);
      nodes = omega (arith, b.nodes);
    })

pub type_fn_made : (Γ : Scopes) (at : Span) (p : Form) (fs : Forms) (body : Scopes → Read Expr) (a : Atom) → HasRoom Γ (form_size p + forms_size fs) → type_fn_atom Γ at p fs body ≡ Ok a →
    ReadsExpr (forms_size fs) body → MadeAtom (sizes Γ) (1 + forms_size fs) a
type_fn_made Γ at p fs body a room h well =
    let x = asked_ok at (the_one fs) _ a h in
    let y = asked_ok at (some_listed p) _ a x.rest in
    let w = with_ok (bound_names at (binders (binder Types) y.part)) _ a y.rest in
    let t = mapped_ok (TypeFn at (length w.part)) (body (under Types w.part Γ)) a w.rest in
    let count = names_count at (binder Types) y.part w.part w.read in
    let s = listed_size p y.part y.is in
    let c = count_within y.part in
    let b = well (under Types w.part Γ) (room_under Types w.part Γ (length w.part) _ _ room refl (omega (arith, s, c, count))) t.part t.read in
    subst (MadeAtom (sizes Γ) (1 + forms_size fs)) (sym t.made)
    (record {
      made = (omega (arith, count, some_count p y.part y.is), (omega (arith, room.types, s, c, count), omega (arith, room.indices), omega (arith, room.terms)), subst (λ S. ExprMade S t.part) (sizes_types w.part Γ) b.made);
      nodes = omega (arith, b.nodes);
    })

pub index_fn_made : (Γ : Scopes) (at : Span) (p : Form) (fs : Forms) (body : Scopes → Read Expr) (a : Atom) → HasRoom Γ (form_size p + forms_size fs) → index_fn_atom Γ at p fs body ≡ Ok a →
    ReadsExpr (forms_size fs) body → MadeAtom (sizes Γ) (1 + forms_size fs) a
index_fn_made Γ at p fs body a room h well =
    let x = asked_ok at (the_one fs) _ a h in
    let y = asked_ok at (some_listed p) _ a x.rest in
    let w = with_ok (bound_names at (binders (pair_binder IndexNames) y.part)) _ a y.rest in
    let t = both_ok (IndexFn at) (pair_sorts y.part) (body (under IndexNames w.part Γ)) a w.rest in
    let count = names_count at (pair_binder IndexNames) y.part w.part w.read in
    let sorts = sorts_count y.part t.left t.read in
    let s = listed_size p y.part y.is in
    let c = count_within y.part in
    let b = well (under IndexNames w.part Γ) (room_under IndexNames w.part Γ (length w.part) _ _ room refl (omega (arith, s, c, count))) t.right t.later in
    let e : length w.part ≡ length t.left = omega (arith, count, sorts) in
    subst (MadeAtom (sizes Γ) (1 + forms_size fs)) (sym t.made)
    (record {
      made = (
        omega (arith, sorts, some_count p y.part y.is),
        (omega (arith, room.types), omega (arith, room.indices, s, c, sorts), omega (arith, room.terms)),
        subst (λ S. ExprMade S t.right) (sizes_indices w.part Γ ∙ ap (λ k. indices_more k (sizes Γ)) e) b.made,
      );
      nodes = omega (arith, b.nodes);
    })

pub box_made : (Γ : Scopes) (at : Span) (p : Form) (fs : Forms) (content : Read Expr) (a : Atom) → HasRoom Γ (forms_size fs) → box_atom Γ at p fs content ≡ Ok a →
    ((e : Expr) → content ≡ Ok e → MadeExpr (sizes Γ) (forms_size fs) e) → MadeAtom (sizes Γ) (1 + forms_size fs) a
box_made Γ at p fs content a room h well =
    let x = asked_ok at (the_two fs) _ a h in
    let y = asked_ok at (some_listed p) _ a x.rest in
    let t = three_ok (λ is e t. Boxed at (index_items is) e t) (indices Γ.indices y.part) content (ty Γ x.part.right) a y.rest in
    let two = two_size fs x.part x.is in
    let b = well t.right t.later in
    subst (MadeAtom (sizes Γ) (1 + forms_size fs)) (sym t.made)
    (record {
      made = (
        omega (arith, indices_count Γ.indices y.part t.left t.read, some_count p y.part y.is),
        each_index (length Γ.indices) t.left (made_indices Γ.indices y.part t.left t.read),
        b.made,
        made_ty Γ x.part.right (room_less Γ _ _ room (omega (arith, two))) t.last t.latest,
      );
      nodes = omega (arith, b.nodes);
    })

-- the parts of the first list of `unbox` are smaller than it
hidden_made : (fs : Forms) (h : Hidden) → hidden_among fs ≡ Some h → (0 < forms_count h.indices) × (forms_size h.indices + form_size h.term ≤ forms_size fs)
hidden_made no_forms h e = absurd (cc)
hidden_made (more_forms f no_forms) h e = absurd (cc)
hidden_made (more_forms f (more_forms g no_forms)) h e = absurd (cc)
hidden_made (more_forms f (more_forms g (more_forms k no_forms))) h e =
    let q : record { indices = more_forms f no_forms; term = g } ≡ h = cc in
    (omega (arith, ap (λ (r : Hidden). forms_count r.indices) q), omega (arith, ap (λ (r : Hidden). forms_size r.indices + form_size r.term) q))
hidden_made (more_forms f (more_forms g (more_forms k (more_forms l ls)))) h e = go (hidden_among (more_forms g (more_forms k (more_forms l ls)))) e (hidden_made (more_forms g (more_forms k (more_forms l ls))))
  where
    go : (o : Option Hidden) → ◌≡◌ {A = Option Hidden} (elim o [ Some r ↦ Some (record r { indices = more_forms f r.indices }) | None ↦ None ]) (Some h) →
        ((r : Hidden) → o ≡ Some r → (0 < forms_count r.indices) × (forms_size r.indices + form_size r.term ≤ forms_size (more_forms g (more_forms k (more_forms l ls))))) →
        (0 < forms_count h.indices) × (forms_size h.indices + form_size h.term ≤ forms_size (more_forms f (more_forms g (more_forms k (more_forms l ls)))))
    go (Some r) e ih =
        let q : record r { indices = more_forms f r.indices } ≡ h = cc in
        let i = ih r refl in
        (omega (arith, ap (λ (s : Hidden). forms_count s.indices) q), omega (arith, i.1, ap (λ (s : Hidden). forms_size s.indices + form_size s.term) q))
    go None e ih = absurd (cc)

hidden_form : (p : Form) (h : Hidden) → hidden p ≡ Some h → (0 < forms_count h.indices) × (forms_size h.indices + form_size h.term + 1 ≤ form_size p)
hidden_form (form.Atom at l) h e = absurd (cc)
hidden_form (Group at fs) h e = let i = hidden_made fs h e in (i.0, omega (arith, i.1))

pub unbox_made : (Γ : Scopes) (at : Span) (p : Form) (fs : Forms) (box : Read Expr) (body : Scopes → Read Expr) (e : Expr) → HasRoom Γ (form_size p + forms_size fs) → unbox Γ at p fs box body ≡ Ok e →
    ((u : Expr) → box ≡ Ok u → MadeExpr (sizes Γ) (form_size p) u) → ReadsExpr (forms_size fs) body → MadeExpr (sizes Γ) (1 + (form_size p + forms_size fs)) e
unbox_made Γ at p fs box body e room h boxed well =
    let x = asked_ok at (the_two fs) _ e h in
    let y = asked_ok at (hidden p) _ e x.rest in
    let z = asked_ok at (binder Terms y.part.term) _ e y.rest in
    let w = with_ok (bound_names at (binders (binder IndexNames) y.part.indices)) _ e z.rest in
    let Δ = under IndexNames w.part Γ in
    let t = three_ok (Unbox at (length w.part)) box (array_ty Γ x.part.left) (body (under Terms (z.part.name ∷ []) Δ)) e w.rest in
    let count = names_count at (binder IndexNames) y.part.indices w.part w.read in
    let i = hidden_form p y.part y.is in
    let c = count_within y.part.indices in
    let two = two_size fs x.part x.is in
    let s = some_size y.part.term in
    let f = boxed t.left t.read in
    let ans = made_array_ty Γ x.part.left (room_less Γ _ _ room (omega (arith, two))) t.right t.later in
    let inner = room_under IndexNames w.part Γ (length w.part) _ (1 + forms_size fs) room refl (omega (arith, i.1, c, count, s)) in
    let b = well (under Terms (z.part.name ∷ []) Δ) (room_under Terms (z.part.name ∷ []) Δ 1 _ _ inner refl (omega arith)) t.last t.latest in
    let q = subst (λ S. ExprMade S t.last) (sizes_terms (z.part.name ∷ []) Δ ∙ ap (terms_more 1) (sizes_indices w.part Γ)) b.made in
    subst (MadeExpr (sizes Γ) (1 + (form_size p + forms_size fs))) (sym t.made)
    (record {
      made = (omega (arith, count, i.0), f.made, ans, (omega (arith, room.types), omega (arith, room.indices, i.1, c, count), omega (arith, room.terms, some_size p)), q);
      nodes = omega (arith, f.nodes, b.nodes);
    })
