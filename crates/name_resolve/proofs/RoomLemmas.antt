-- The sizes of parts, and the room for the names in them.
use Rattle.std.proofs.Common.{◌≡◌, ap, ℕ, zero, suc, ◌+◌, ◌≤◌, ◌<◌, arith, List, [], ◌∷◌, length, slice_index_or, Some}
use Rattle.sexp_reader.specs.declared.sexp.Sexp.{Sexp}
use Rattle.sexp_reader.specs.declared.sexp.SexpForm.TheVariants.{Seq}
use Rattle.sexp_reader.specs.Forms.{Form, Atom, Group, Forms, no_forms, more_forms, form_of, forms_of, form_size, forms_size}
use Rattle.sexp_reader.proofs.Short.{some_size}
use Rattle.name_resolve.specs.declared.words.NameSpace.{NameSpace}
use Rattle.name_resolve.specs.declared.words.NameSpace.TheVariants.{Terms, Types, Indices}
use Rattle.name_resolve.specs.Lists.{some_listed, Two, pair}
use Rattle.name_resolve.specs.Scopes.{Name, Scopes, under, HasRoom}
use Rattle.name_resolve.proofs.BinderLemmas.{length_onto}
use Rattle.name_resolve.proofs.IndexLemmas.{is_group}

-- less room
pub room_less : (Γ : Scopes) (n m : ℕ) → HasRoom Γ n → m ≤ n → HasRoom Γ m
room_less Γ n m r h = record {
  defs = omega (arith, r.defs);
  terms = omega (arith, r.terms);
  types = omega (arith, r.types);
  indices = omega (arith, r.indices);
}

-- the room under binders
pub room_under : (space : NameSpace) (xs : List Name) (Γ : Scopes) (k n m : ℕ) → HasRoom Γ n → length xs ≡ k → k + m ≤ n → HasRoom (under space xs Γ) m
room_under Terms xs Γ k n m r e h = record {
  defs = omega (arith, r.defs);
  terms = omega (arith, r.terms, length_onto xs Γ.terms);
  types = omega (arith, r.types);
  indices = omega (arith, r.indices);
}
room_under Types xs Γ k n m r e h = record {
  defs = omega (arith, r.defs);
  terms = omega (arith, r.terms);
  types = omega (arith, r.types, length_onto xs Γ.types);
  indices = omega (arith, r.indices);
}
room_under Indices xs Γ k n m r e h = record {
  defs = omega (arith, r.defs);
  terms = omega (arith, r.terms);
  types = omega (arith, r.types);
  indices = omega (arith, r.indices, length_onto xs Γ.indices);
}

-- a list with its items
pub list_size : (form : Sexp) (items slice : List Sexp) → form.form ≡ Seq items → slice ≡ items → form_size (form_of form) ≡ 1 + forms_size (forms_of slice)
list_size form items slice e s = ap form_size (is_group form items slice e s)

pub listed_size : (f : Form) (fs : Forms) → some_listed f ≡ Some fs → form_size f ≡ 1 + forms_size fs
listed_size (Atom at l) fs h = absurd (cc)
listed_size (Group at no_forms) fs h = absurd (cc)
listed_size (Group at (more_forms g gs)) fs h = let e : more_forms g gs ≡ fs = cc in ap (λ xs. 1 + forms_size xs) e

-- three parts, of which two are meant
pub three_size : (fs : Forms) (f p q : Form) → fs ≡ more_forms f (more_forms p (more_forms q no_forms)) → form_size p + form_size q + 1 ≤ forms_size fs
three_size fs f p q e = omega (arith, ap forms_size e, some_size f)

-- an item of a list, and the second part of a pair
pub item_size : (k : ℕ) (xs : List Sexp) (x d : Sexp) → k < length xs → x ≡ slice_index_or xs k d → form_size (form_of x) ≤ forms_size (forms_of xs)
item_size k [] x d h e = absurd (omega arith)
item_size zero (y ∷ ys) x d h e = omega (arith, ap (λ z. form_size (form_of z)) e)
item_size (suc k) (y ∷ ys) x d h e = omega (arith, item_size k ys x d (omega arith) e)

pub pair_size : (f : Form) (p : Two) → pair f ≡ Some p → form_size p.right ≤ form_size f
pair_size (Atom at l) p h = absurd (cc)
pair_size (Group at no_forms) p h = absurd (cc)
pair_size (Group at (more_forms f no_forms)) p h = absurd (cc)
pair_size (Group at (more_forms f (more_forms g no_forms))) p h = let e : record { left = f; right = g } ≡ p = cc in omega (arith, ap (λ (q : Two). form_size q.right) e)
pair_size (Group at (more_forms f (more_forms g (more_forms h hs)))) p e = absurd (cc)
