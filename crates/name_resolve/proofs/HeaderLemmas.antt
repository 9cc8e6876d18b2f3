-- Lists that are atoms, by what stands around the expression in them.
use Rattle.std.proofs.Common.{◌≡◌, refl, sym, ap, ◌∙◌, ℕ, List, [], length, Bool, true, false, nat_lt, ◌==◌, Option, Some, None, Ok, Err, if◌then◌else◌}
use Rattle.core_syntax.specs.declared.span.Span.{Span}
use Rattle.core_syntax.specs.declared.index.Sort.{Sort}
use Rattle.core_syntax.specs.Lists.{product}
use Rattle.core_syntax.specs.Syntax.{Index, Indices, index_items, Ty, Tys, Expr, Array, NoAtoms, Frame, NoCells, TypeApp, IndexApp, Atom, Fn, TypeFn, IndexFn, Boxed}
use Rattle.sexp_reader.specs.Forms.{Form, Forms, no_forms, more_forms, forms_count}
use Rattle.name_resolve.specs.declared.words.NameSpace.TheVariants.{Terms, Types, Indices as IndexNames}
use Rattle.name_resolve.specs.declared.words.AtomWord.{AtomWord}
use Rattle.name_resolve.specs.declared.words.AtomWord.TheVariants as word
use Rattle.name_resolve.specs.declared.headers.Literal.{Literal}
use Rattle.name_resolve.specs.declared.headers.Literal.TheVariants as literal
use Rattle.name_resolve.specs.declared.headers.Argument.{Argument}
use Rattle.name_resolve.specs.declared.headers.Argument.TheVariants as argument
use Rattle.name_resolve.specs.Binders.{binder, pair_binder, binders, bound_names}
use Rattle.name_resolve.specs.Headers.{Header, header, literal_read, literal_of, applied_read, applied_of}
use Rattle.name_resolve.specs.IndexForms.{indices}
use Rattle.name_resolve.specs.Lists.{some_listed, the_one}
use Rattle.name_resolve.specs.Reading.{Read, mapped, with, both, three, asked, tested}
use Rattle.name_resolve.specs.Scopes.{Name, Scopes, under}
use Rattle.name_resolve.specs.TermForms.{list_atom, fn_atom, type_fn_atom, index_fn_atom, box_atom, expr, exprs, atoms, nth_expr, dims}
use Rattle.name_resolve.specs.TypeForms.{ty, array_ty, types, pair_sorts, pair_arrays}

-- what the program reads of `fn`
pub fn_read : (Γ : Scopes) (at : Span) (p : Form) (fs : Forms) (q e : Form) (ps : Forms) (xs : List Name) (ts : Tys) (t : Ty) → fs ≡ more_forms q (more_forms e no_forms) → some_listed p ≡ Some ps →
    bound_names at (binders (pair_binder Terms) ps) ≡ Ok xs → pair_arrays Γ ps ≡ Ok ts → array_ty Γ q ≡ Ok t →
    header Γ at word.Fn p fs ≡ Ok (record { space = Terms; names = xs; body = e; done = λ u. Ok (Fn at ts t u) })
fn_read Γ at p fs q e ps xs ts t l s b i a =
    ap (header Γ at word.Fn p) l
    ∙ ap (λ o. asked at o (λ ps. with (bound_names at (binders (pair_binder Terms) ps)) (λ xs. both (made xs) (pair_arrays Γ ps) (array_ty Γ q)))) s
    ∙ ap (λ r. with r (λ xs. both (made xs) (pair_arrays Γ ps) (array_ty Γ q))) b ∙ ap (λ r. both (made xs) r (array_ty Γ q)) i ∙ ap (mapped (made xs ts)) a
  where
    made : List Name → Tys → Ty → Header
    made xs ts t = record { space = Terms; names = xs; body = e; done = λ u. Ok (Fn at ts t u) }

-- and of `box`
pub box_read : (Γ : Scopes) (at : Span) (p : Form) (fs : Forms) (q e : Form) (ps : Forms) (is : Indices) → fs ≡ more_forms q (more_forms e no_forms) → some_listed p ≡ Some ps → indices Γ.indices ps ≡ Ok is →
    header Γ at word.Box p fs ≡ Ok (record { space = Terms; names = []; body = q; done = λ u. mapped (Boxed at (index_items is) u) (ty Γ e) })
box_read Γ at p fs q e ps is l s i =
    ap (header Γ at word.Box p) l ∙ ap (λ o. asked at o (λ ps. mapped made (indices Γ.indices ps))) s ∙ ap (mapped made) i
  where
    made : Indices → Header
    made is = record { space = Terms; names = []; body = q; done = λ u. mapped (Boxed at (index_items is) u) (ty Γ e) }

pub box_held : (at : Span) (q e : Form) (Γ : Scopes) (is is' : List Index) (xs : List Name) → is ≡ is' → xs ≡ [] →
    ◌≡◌ {A = Read Header} (Ok (record { space = Terms; names = []; body = q; done = λ u. mapped (Boxed at is u) (ty Γ e) })) (Ok (record { space = Terms; names = xs; body = q; done = λ u. mapped (Boxed at is' u) (ty Γ e) }))
box_held at q e Γ is is' xs i n =
    ap (λ (js : List Index). Ok (record { space = Terms; names = []; body = q; done = λ u. mapped (Boxed at js u) (ty Γ e) })) i
    ∙ ap (λ (ys : List Name). Ok (record { space = Terms; names = ys; body = q; done = λ u. mapped (Boxed at is' u) (ty Γ e) })) (sym n)

-- the whole reading of a header, its expression and what is made of it
abbrev pub whole : Scopes → Read Header → Read Atom
whole Γ r = with r (λ h. with (expr (under h.space h.names Γ) h.body) h.done)

with_mapped : (r : Read Expr) (f : Expr → Atom) → with r (λ e. Ok (f e)) ≡ mapped f r
with_mapped (Ok e) f = refl
with_mapped (Err e) f = refl

module _ (Γ : Scopes) (at : Span) (p : Form) where
  fn_whole : (fs : Forms) → fn_atom Γ at p fs (λ Δ. nth_expr 1 Δ fs) ≡ whole Γ (header Γ at word.Fn p fs)
  fn_whole no_forms = refl
  fn_whole (more_forms q no_forms) = refl
  fn_whole (more_forms q (more_forms e (more_forms g gs))) = refl
  fn_whole (more_forms q (more_forms e no_forms)) = go (some_listed p)
    where
      made : List Name → Tys → Ty → Header
      made xs ts t = record { space = Terms; names = xs; body = e; done = λ u. Ok (Fn at ts t u) }

      last : (xs : List Name) (r : Read Tys) (s : Read Ty) → three (Fn at) r s (expr (under Terms xs Γ) e) ≡ whole Γ (both (made xs) r s)
      last xs (Ok ts) (Ok t) = sym (with_mapped (expr (under Terms xs Γ) e) (Fn at ts t))
      last xs (Ok ts) (Err r) = refl
      last xs (Err r) s = refl

      names : (ps : Forms) (r : Read (List Name)) → with r (λ xs. three (Fn at) (pair_arrays Γ ps) (array_ty Γ q) (expr (under Terms xs Γ) e)) ≡ whole Γ (with r (λ xs. both (made xs) (pair_arrays Γ ps) (array_ty Γ q)))
      names ps (Ok xs) = last xs (pair_arrays Γ ps) (array_ty Γ q)
      names ps (Err r) = refl

      go : (o : Option Forms) → asked at o (λ ps. with (bound_names at (binders (pair_binder Terms) ps)) (λ xs. three (Fn at) (pair_arrays Γ ps) (array_ty Γ q) (expr (under Terms xs Γ) e)))
          ≡ whole Γ (asked at o (λ ps. with (bound_names at (binders (pair_binder Terms) ps)) (λ xs. both (made xs) (pair_arrays Γ ps) (array_ty Γ q))))
      go (Some ps) = names ps (bound_names at (binders (pair_binder Terms) ps))
      go None = refl

  type_fn_whole : (fs : Forms) → type_fn_atom Γ at p fs (λ Δ. nth_expr 0 Δ fs) ≡ whole Γ (header Γ at word.TypeFn p fs)
  type_fn_whole no_forms = refl
  type_fn_whole (more_forms q (more_forms g gs)) = refl
  type_fn_whole (more_forms q no_forms) = go (some_listed p)
    where
      made : List Name → Header
      made xs = record { space = Types; names = xs; body = q; done = λ u. Ok (TypeFn at (length xs) u) }

      names : (r : Read (List Name)) → with r (λ xs. mapped (TypeFn at (length xs)) (expr (under Types xs Γ) q)) ≡ whole Γ (with r (λ xs. Ok (made xs)))
      names (Ok xs) = sym (with_mapped (expr (under Types xs Γ) q) (TypeFn at (length xs)))
      names (Err r) = refl

      go : (o : Option Forms) → asked at o (λ ns. with (bound_names at (binders (binder Types) ns)) (λ xs. mapped (TypeFn at (length xs)) (expr (under Types xs Γ) q)))
          ≡ whole Γ (asked at o (λ ns. with (bound_names at (binders (binder Types) ns)) (λ xs. Ok (made xs))))
      go (Some ns) = names (bound_names at (binders (binder Types) ns))
      go None = refl

  index_fn_whole : (fs : Forms) → index_fn_atom Γ at p fs (λ Δ. nth_expr 0 Δ fs) ≡ whole Γ (header Γ at word.IndexFn p fs)
  index_fn_whole no_forms = refl
  index_fn_whole (more_forms q (more_forms g gs)) = refl
  index_fn_whole (more_forms q no_forms) = go (some_listed p)
    where
      made : List Name → List Sort → Header
      made xs ss = record { space = IndexNames; names = xs; body = q; done = λ u. Ok (IndexFn at ss u) }

      last : (xs : List Name) (r : Read (List Sort)) → both (IndexFn at) r (expr (under IndexNames xs Γ) q) ≡ whole Γ (mapped (made xs) r)
      last xs (Ok ss) = sym (with_mapped (expr (under IndexNames xs Γ) q) (IndexFn at ss))
      last xs (Err r) = refl

      names : (ps : Forms) (r : Read (List Name)) → with r (λ xs. both (IndexFn at) (pair_sorts ps) (expr (under IndexNames xs Γ) q)) ≡ whole Γ (with r (λ xs. mapped (made xs) (pair_sorts ps)))
      names ps (Ok xs) = last xs (pair_sorts ps)
      names ps (Err r) = refl

      go : (o : Option Forms) → asked at o (λ ps. with (bound_names at (binders (pair_binder IndexNames) ps)) (λ xs. both (IndexFn at) (pair_sorts ps) (expr (under IndexNames xs Γ) q)))
          ≡ whole Γ (asked at o (λ ps. with (bound_names at (binders (pair_binder IndexNames) ps)) (λ xs. mapped (made xs) (pair_sorts ps))))
      go (Some ps) = names ps (bound_names at (binders (pair_binder IndexNames) ps))
      go None = refl

  box_whole : (fs : Forms) → box_atom Γ at p fs (nth_expr 0 Γ fs) ≡ whole Γ (header Γ at word.Box p fs)
  box_whole no_forms = refl
  box_whole (more_forms q no_forms) = refl
  box_whole (more_forms q (more_forms e (more_forms g gs))) = refl
  box_whole (more_forms q (more_forms e no_forms)) = go (some_listed p)
    where
      made : Indices → Header
      made is = record { space = Terms; names = []; body = q; done = λ u. mapped (Boxed at (index_items is) u) (ty Γ e) }

      content : (is : Indices) (r : Read Expr) → both (λ u t. Boxed at (index_items is) u t) r (ty Γ e) ≡ with r (λ u. mapped (Boxed at (index_items is) u) (ty Γ e))
      content is (Ok u) = refl
      content is (Err r) = refl

      last : (r : Read Indices) → three (λ is u t. Boxed at (index_items is) u t) r (expr Γ q) (ty Γ e) ≡ whole Γ (mapped made r)
      last (Ok is) = content is (expr Γ q)
      last (Err r) = refl

      go : (o : Option Forms) → asked at o (λ is. three (λ is u t. Boxed at (index_items is) u t) (indices Γ.indices is) (expr Γ q) (ty Γ e)) ≡ whole Γ (asked at o (λ is. mapped made (indices Γ.indices is)))
      go (Some is) = last (indices Γ.indices is)
      go None = refl

  pub atom_whole : (w : AtomWord) (fs : Forms) → list_atom Γ at w p fs (λ k Δ. nth_expr k Δ fs) ≡ whole Γ (header Γ at w p fs)
  atom_whole word.Fn fs = fn_whole fs
  atom_whole word.TypeFn fs = type_fn_whole fs
  atom_whole word.IndexFn fs = index_fn_whole fs
  atom_whole word.Box fs = box_whole fs

-- a literal with its numbers
pub literal_dims : (l : Literal) (Γ : Scopes) (at : Span) (p : Form) (fs : Forms) → literal_read l Γ at p fs ≡ with (dims at p (forms_count fs)) (literal_of l Γ at fs)
literal_dims literal.Array Γ at p fs = refl
literal_dims literal.Frame Γ at p fs = refl

pub array_items : (Γ : Scopes) (at : Span) (fs : Forms) (ns : List ℕ) → (product ns == 0) ≡ false → literal_of literal.Array Γ at fs ns ≡ mapped (Array at ns) (atoms Γ fs)
array_items Γ at fs ns h = ap (λ (b : Bool). if b then asked at (the_one fs) (λ q. mapped (NoAtoms at ns) (ty Γ q)) else mapped (Array at ns) (atoms Γ fs)) h

pub frame_items : (Γ : Scopes) (at : Span) (fs : Forms) (ns : List ℕ) → (product ns == 0) ≡ false → literal_of literal.Frame Γ at fs ns ≡ mapped (Frame at ns) (exprs Γ fs)
frame_items Γ at fs ns h = ap (λ (b : Bool). if b then asked at (the_one fs) (λ q. mapped (NoCells at ns) (array_ty Γ q)) else mapped (Frame at ns) (exprs Γ fs)) h

-- an application with an argument, and with this function
pub applied_none : (a : Argument) (Γ : Scopes) (at : Span) (fs : Forms) (r : Read Expr) → nat_lt 0 (forms_count fs) ≡ false → applied_read a Γ at fs r ≡ Err (7, at)
applied_none argument.Type Γ at fs r h = ap (λ b. tested at b (both (TypeApp at) r (types Γ fs))) h
applied_none argument.Index Γ at fs r h = ap (λ b. tested at b (both (λ e is. IndexApp at e (index_items is)) r (indices Γ.indices fs))) h

pub applied_some : (a : Argument) (Γ : Scopes) (at : Span) (fs : Forms) (r : Read Expr) → nat_lt 0 (forms_count fs) ≡ true → applied_read a Γ at fs r ≡ with r (applied_of a Γ at fs)
applied_some argument.Type Γ at fs r h = ap (λ b. tested at b (both (TypeApp at) r (types Γ fs))) h ∙ go r
  where
    go : (r : Read Expr) → both (TypeApp at) r (types Γ fs) ≡ with r (applied_of argument.Type Γ at fs)
    go (Ok e) = refl
    go (Err e) = refl
applied_some argument.Index Γ at fs r h = ap (λ b. tested at b (both (λ e is. IndexApp at e (index_items is)) r (indices Γ.indices fs))) h ∙ go r
  where
    go : (r : Read Expr) → both (λ e is. IndexApp at e (index_items is)) r (indices Γ.indices fs) ≡ with r (applied_of argument.Index Γ at fs)
    go (Ok e) = refl
    go (Err e) = refl
