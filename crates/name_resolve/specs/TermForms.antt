-- What expressions and atoms mean. In an expression's place an atom stands for its scalar array, a string for the vector of its
-- characters.
use Rattle.std.specs.Prelude.{ℕ, zero, suc, ◌||◌, ◌^◌, ◌==◌, pos, List, [], ◌∷◌, length, max, not, nat_lt, is_some, Option, Some, None, Ok, Err, if◌then◌else◌}
use Rattle.core_syntax.specs.declared.span.Span.{Span}
use Rattle.core_syntax.specs.declared.ty.Base.TheVariants as base
use Rattle.core_syntax.specs.Lists.{product}
use Rattle.core_syntax.specs.Syntax.{index_items, BaseTy, Expr, TermVar, DefVar, Array, NoAtoms, Frame, NoCells, App, TypeApp, IndexApp, Unbox, Exprs, no_exprs, more_exprs, Atom, IntAtom, BoolAtom, CharAtom, PrimAtom, Fn, TypeFn, IndexFn, Boxed, Atoms, no_atoms, more_atoms, no_span}
use Rattle.sexp_reader.specs.declared.pieces.Leaf.{Leaf}
use Rattle.sexp_reader.specs.declared.pieces.Leaf.TheVariants as leaf
use Rattle.sexp_reader.specs.Forms.{Form, Group, Forms, no_forms, more_forms, forms_count}
use Rattle.sexp_reader.specs.Forms as form
use Rattle.prim_table.specs.Names.{named}
use Rattle.name_resolve.specs.declared.words.NameSpace.TheVariants.{Terms, Types, Indices}
use Rattle.name_resolve.specs.declared.words.AtomWord.{AtomWord}
use Rattle.name_resolve.specs.declared.words.AtomWord.TheVariants as atom_word
use Rattle.name_resolve.specs.declared.words.ExprWord.{ExprWord}
use Rattle.name_resolve.specs.declared.words.ExprWord.TheVariants as expr_word
use Rattle.name_resolve.specs.Binders.{binder, pair_binder, binders, bound_names}
use Rattle.name_resolve.specs.IndexForms.{malformed, indices}
use Rattle.name_resolve.specs.Lists.{form_place, listed, some_listed, the_one, the_two, nth, hidden}
use Rattle.name_resolve.specs.Reading.{Read, mapped, with, both, three, asked, tested}
use Rattle.name_resolve.specs.Scopes.{Name, Scopes, under, number_of}
use Rattle.name_resolve.specs.TypeForms.{ty, array_ty, types, pair_sorts, pair_arrays}
use Rattle.name_resolve.specs.Words as words

abbrev pub scalar : Span → Atom → Expr
scalar at a = Array at [] (more_atoms a no_atoms)

abbrev pub chars : Span → List ℕ → Atoms
chars at [] = no_atoms
chars at (c ∷ cs) = more_atoms (CharAtom at c) (chars at cs)

abbrev pub text : Span → List ℕ → Expr
text at [] = NoAtoms at (0 ∷ []) (BaseTy at base.Char)
text at (c ∷ cs) = Array at (length (c ∷ cs) ∷ []) (chars at (c ∷ cs))

-- a primitive, where no binder and no definition has the name
abbrev pub primitive : Span → Name → Read Atom
primitive at x = elim (named x) [ Some p ↦ Ok (PrimAtom at p) | None ↦ Err (8, at) ]

-- the innermost binder of the name, else a definition, else a primitive
abbrev pub name : Scopes → Span → Name → Read Expr
name Γ at x =
    elim (number_of x Γ.terms) [
      | Some k ↦ Ok (TermVar at k)
      | None ↦ elim (number_of x Γ.defs) [ Some k ↦ Ok (DefVar at k) | None ↦ mapped (scalar at) (primitive at x) ]
    ]

-- one token as an expression
abbrev pub token : Scopes → Span → Leaf → Read Expr
token Γ at (leaf.Int z) = Ok (scalar at (IntAtom at z))
token Γ at (leaf.Bool b) = Ok (scalar at (BoolAtom at b))
token Γ at (leaf.Char c) = Ok (scalar at (CharAtom at c))
token Γ at (leaf.Text s) = Ok (text at s)
token Γ at (leaf.Symbol x) = name Γ at x

-- a name as an item of `array`, where a variable or a definition is malformed
abbrev pub item_name : Scopes → Span → Name → Read Atom
item_name Γ at x = tested at (not (is_some (number_of x Γ.terms) || is_some (number_of x Γ.defs))) (primitive at x)

-- one token as an item of `array`
abbrev pub token_atom : Scopes → Span → Leaf → Read Atom
token_atom Γ at (leaf.Int z) = Ok (IntAtom at z)
token_atom Γ at (leaf.Bool b) = Ok (BoolAtom at b)
token_atom Γ at (leaf.Char c) = Ok (CharAtom at c)
token_atom Γ at (leaf.Text s) = Err (7, at)
token_atom Γ at (leaf.Symbol x) = item_name Γ at x

-- the numbers of `array` and `frame`: each 7 and then 11 at it, and then 12 at the 65th
abbrev pub number : Form → Read ℕ
number (form.Atom at (leaf.Int (pos n))) = if nat_lt n (2 ^ 32) then Ok n else Err (11, at)
number f = malformed f

abbrev pub numbers : Forms → Read (List ℕ)
numbers no_forms = Ok []
numbers (more_forms f fs) = both (λ n ns. n ∷ ns) (number f) (numbers fs)

abbrev pub of_rank : Forms → List ℕ → Read (List ℕ)
of_rank fs ns = elim (nth 64 fs) [ Some f ↦ Err (12, form_place f) | None ↦ Ok ns ]

-- and then 10: as many items as the product, or one type where that is 0
abbrev pub of_count : Span → ℕ → List ℕ → Read (List ℕ)
of_count at items ns = if items == max 1 (product ns) then Ok ns else Err (10, at)

abbrev pub dims : Span → Form → ℕ → Read (List ℕ)
dims at p items = asked at (listed p) (λ fs. with (numbers fs) (λ ns. with (of_rank fs ns) (of_count at items)))

-- the words at the head of a list
abbrev pub atom_head : Form → Option AtomWord
atom_head (form.Atom at (leaf.Symbol w)) = words.atom_word w
atom_head f = None

abbrev pub expr_head : Form → Option ExprWord
expr_head (form.Atom at (leaf.Symbol w)) = words.expr_word w
expr_head f = None

-- (fn ((x T) (x T) ...) T e), whose body is read in these scopes
abbrev pub fn_atom : Scopes → Span → Form → Forms → (Scopes → Read Expr) → Read Atom
fn_atom Γ at p fs body =
    asked at (the_two fs) (λ q. asked at (some_listed p) (λ ps. with (bound_names at (binders (pair_binder Terms) ps)) (λ xs.
    three (Fn at) (pair_arrays Γ ps) (array_ty Γ q.left) (body (under Terms xs Γ)))))

-- (tfn (x x ...) e)
abbrev pub type_fn_atom : Scopes → Span → Form → Forms → (Scopes → Read Expr) → Read Atom
type_fn_atom Γ at p fs body =
    asked at (the_one fs) (λ q. asked at (some_listed p) (λ ns. with (bound_names at (binders (binder Types) ns)) (λ xs.
    mapped (TypeFn at (length xs)) (body (under Types xs Γ)))))

-- (ifn ((x S) (x S) ...) e)
abbrev pub index_fn_atom : Scopes → Span → Form → Forms → (Scopes → Read Expr) → Read Atom
index_fn_atom Γ at p fs body =
    asked at (the_one fs) (λ q. asked at (some_listed p) (λ ps. with (bound_names at (binders (pair_binder Indices) ps)) (λ xs.
    both (IndexFn at) (pair_sorts ps) (body (under Indices xs Γ)))))

-- (box (i i ...) e T)
abbrev pub box_atom : Scopes → Span → Form → Forms → Read Expr → Read Atom
box_atom Γ at p fs content =
    asked at (the_two fs) (λ q. asked at (some_listed p) (λ is.
    three (λ is e t. Boxed at (index_items is) e t) (indices Γ.indices is) content (ty Γ q.right)))

-- (unbox (x x ... x e) T e): the box and the type outside, the body inside
abbrev pub unbox : Scopes → Span → Form → Forms → Read Expr → (Scopes → Read Expr) → Read Expr
unbox Γ at p fs box body =
    asked at (the_two fs) (λ q. asked at (hidden p) (λ h. asked at (binder Terms h.term) (λ b. with (bound_names at (binders (binder Indices) h.indices)) (λ xs.
    three (Unbox at (length xs)) box (array_ty Γ q.left) (body (under Terms (b.name ∷ []) (under Indices xs Γ)))))))

-- what the forms behind the first part of a list mean as expressions, each by its place and the scopes that it is read in
abbrev pub Parts : Type 0
Parts = ℕ → Scopes → Read Expr

-- a list that is an atom: its word, its first part and those behind it
abbrev pub list_atom : Scopes → Span → AtomWord → Form → Forms → Parts → Read Atom
list_atom Γ at atom_word.Fn p fs part = fn_atom Γ at p fs (part 1)
list_atom Γ at atom_word.TypeFn p fs part = type_fn_atom Γ at p fs (part 0)
list_atom Γ at atom_word.IndexFn p fs part = index_fn_atom Γ at p fs (part 0)
list_atom Γ at atom_word.Box p fs part = box_atom Γ at p fs (part 0 Γ)

-- (array (n ...) a ...) and (array (n ...) T), with these numbers
abbrev pub array_of : Scopes → Span → Forms → Read Atoms → List ℕ → Read Expr
array_of Γ at fs items ns = if product ns == 0 then asked at (the_one fs) (λ q. mapped (NoAtoms at ns) (ty Γ q)) else mapped (Array at ns) items

abbrev pub array : Scopes → Span → Form → Forms → Read Atoms → Read Expr
array Γ at p fs items = with (dims at p (forms_count fs)) (array_of Γ at fs items)

-- (frame (n ...) e ...) and (frame (n ...) T), with these numbers
abbrev pub frame_of : Scopes → Span → Forms → Read Exprs → List ℕ → Read Expr
frame_of Γ at fs cells ns = if product ns == 0 then asked at (the_one fs) (λ q. mapped (NoCells at ns) (array_ty Γ q)) else mapped (Frame at ns) cells

abbrev pub frame : Scopes → Span → Form → Forms → Read Exprs → Read Expr
frame Γ at p fs cells = with (dims at p (forms_count fs)) (frame_of Γ at fs cells)

-- (t-app e T T ...)
abbrev pub type_app : Scopes → Span → Forms → Read Expr → Read Expr
type_app Γ at fs function = tested at (nat_lt 0 (forms_count fs)) (both (TypeApp at) function (types Γ fs))

-- (i-app e i i ...)
abbrev pub index_app : Scopes → Span → Forms → Read Expr → Read Expr
index_app Γ at fs function = tested at (nat_lt 0 (forms_count fs)) (both (λ e is. IndexApp at e (index_items is)) function (indices Γ.indices fs))

-- (e e e ...)
abbrev pub app : Span → Read Expr → Read Expr → Read Exprs → Read Expr
app at function first rest = both (App at) function (both more_exprs first rest)

abbrev mutual
  pub expr : Scopes → Form → Read Expr
  expr Γ (form.Atom at l) = token Γ at l
  expr Γ (Group at (more_forms f (more_forms p fs))) =
      elim (expr_head f) [
        | Some expr_word.Array ↦ array Γ at p fs (atoms Γ fs)
        | Some expr_word.Frame ↦ frame Γ at p fs (exprs Γ fs)
        | Some expr_word.Unbox ↦ unbox Γ at p fs (last_in Γ p) (λ Δ. nth_expr 1 Δ fs)
        | Some expr_word.TypeApp ↦ type_app Γ at fs (expr Γ p)
        | Some expr_word.IndexApp ↦ index_app Γ at fs (expr Γ p)
        | None ↦ elim (atom_head f) [
          | Some w ↦ mapped (scalar at) (list_atom Γ at w p fs (λ k Δ. nth_expr k Δ fs))
          | None ↦ app at (expr Γ f) (expr Γ p) (exprs Γ fs)
        ]
      ]
  expr Γ f = malformed f

  pub exprs : Scopes → Forms → Read Exprs
  exprs Γ no_forms = Ok no_exprs
  exprs Γ (more_forms f fs) = both more_exprs (expr Γ f) (exprs Γ fs)

  -- an item of `array`
  pub atom : Scopes → Form → Read Atom
  atom Γ (form.Atom at l) = token_atom Γ at l
  atom Γ (Group at (more_forms f (more_forms p fs))) = elim (atom_head f) [ Some w ↦ list_atom Γ at w p fs (λ k Δ. nth_expr k Δ fs) | None ↦ Err (7, at) ]
  atom Γ f = malformed f

  pub atoms : Scopes → Forms → Read Atoms
  atoms Γ no_forms = Ok no_atoms
  atoms Γ (more_forms f fs) = both more_atoms (atom Γ f) (atoms Γ fs)

  -- the form behind so many, and the last in a list
  pub nth_expr : ℕ → Scopes → Forms → Read Expr
  nth_expr k Γ no_forms = Err (7, no_span)
  nth_expr zero Γ (more_forms f fs) = expr Γ f
  nth_expr (suc k) Γ (more_forms f fs) = nth_expr k Γ fs

  pub last_in : Scopes → Form → Read Expr
  last_in Γ (Group at fs) = last Γ fs
  last_in Γ f = malformed f

  pub last : Scopes → Forms → Read Expr
  last Γ no_forms = Err (7, no_span)
  last Γ (more_forms f no_forms) = expr Γ f
  last Γ (more_forms f fs) = last Γ fs
