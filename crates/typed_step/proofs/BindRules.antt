-- The rules of a `t-app`, an `i-app` and an `unbox` of a value.
use Rattle.std.proofs.Common.{◌≡◌, refl, sym, ap, ◌∙◌, ℕ, ◌+◌, ◌^◌, ◌≤◌, min, Bool, true, false, List, [], ◌∷◌, ◌++◌, length, take, arith}
use Rattle.std.proofs.lemmas.Bool.{eq-eqb, ne_eqb}
use Rattle.std.proofs.lemmas.List.{take_all}
use Rattle.core_syntax.specs.declared.term.TermAtom.{TermAtom}
use Rattle.core_syntax.specs.declared.term.TermExpr.{TermExpr}
use Rattle.core_syntax.specs.Syntax.{Ty}
use Rattle.core_syntax.specs.Lists.{each, product}
use Rattle.core_syntax.specs.Move.{Move, Goes}
use Rattle.core_syntax.specs.RefineTerms.{term_of, terms_of, cell_of, TypedCell}
use Rattle.core_syntax.specs.Rules.{dims_of, atoms_of, goes_empty, over_atoms, over_value}
use Rattle.core_syntax.specs.Terms.{TFrame, more_terms, term_list, scalar_of}
use Rattle.core_syntax.specs.Typed.{atom_type, closed, shape_of, typed_rules, TypedTerm}
use Rattle.core_syntax.specs.Value.{shape_val}

pub list_of : (ts : List TermExpr) → terms_of ts ≡ term_list (each term_of ts)
list_of [] = refl
list_of (t ∷ ts) = ap (more_terms (term_of t)) (list_of ts)

each_twice : {A B C : Type 0} (f : A → B) (g : B → C) (xs : List A) → each (λ x. g (f x)) xs ≡ each g (each f xs)
each_twice f g [] = refl
each_twice f g (x ∷ xs) = ap (λ ys. g (f x) ∷ ys) (each_twice f g xs)

-- a form on each atom, of which so many are made
module _ (form : TypedTerm → TypedTerm) where
  abbrev pub MadeOf : List TermAtom → ℕ → List TermExpr → Type 0
  MadeOf atoms k made = each term_of made ≡ each (λ a. form (scalar_of (cell_of a))) (take k atoms)

  pub all_made : (atoms : List TermAtom) (k : ℕ) (made : List TermExpr) → length atoms ≤ k → MadeOf atoms k made → each term_of made ≡ each (λ a. form (scalar_of a)) (each cell_of atoms)
  all_made atoms k made le e = e ∙ ap (each (λ a. form (scalar_of (cell_of a)))) (take_all k atoms le) ∙ each_twice cell_of (λ a. form (scalar_of a)) atoms

module _ (t : TypedTerm) (form : TypedTerm → TypedTerm) (act : List TypedCell → Move TypedTerm) (r : Ty) where
  abbrev over_if : Bool → Move TypedTerm
  over_if b =
      elim b
      [ true ↦ goes_empty typed_rules (dims_of typed_rules t ++ shape_val closed (shape_of r)) (atom_type r) | false ↦ over_atoms typed_rules (dims_of typed_rules t) (atoms_of typed_rules t) form act r ]

  -- `empty`
  pub over_nothing : (frame : List ℕ) (n : ℕ) → frame ≡ dims_of typed_rules t → n ≡ min (product frame) (2 ^ 24 + 1) → n ≡ 0
      → goes_empty typed_rules (frame ++ shape_val closed (shape_of r)) (atom_type r) ≡ over_value typed_rules t form act r
  over_nothing frame n d e z =
      let none : product frame ≡ 0 = omega (arith, e, z) in
      ap (λ (ds : List ℕ). goes_empty typed_rules (ds ++ shape_val closed (shape_of r)) (atom_type r)) d
      ∙ sym (ap over_if (eq-eqb (product (dims_of typed_rules t)) 0 (sym (ap product d) ∙ none)))

  over_some : (frame : List ℕ) (n : ℕ) → frame ≡ dims_of typed_rules t → n ≡ min (product frame) (2 ^ 24 + 1) → (n ≡ 0 → ⊥)
      → over_atoms typed_rules frame (atoms_of typed_rules t) form act r ≡ over_value typed_rules t form act r
  over_some frame n d e z =
      ap (λ (ds : List ℕ). over_atoms typed_rules ds (atoms_of typed_rules t) form act r) d
      ∙ sym (ap over_if (ne_eqb (product (dims_of typed_rules t)) 0 (λ none. let same = ap product d in z (omega (arith, e, same, none)))))

  -- on a scalar array
  pub over_one : (frame : List ℕ) (n : ℕ) (xs : List TypedCell) → frame ≡ dims_of typed_rules t → n ≡ min (product frame) (2 ^ 24 + 1) → (n ≡ 0 → ⊥) → length frame ≡ 0 → xs ≡ atoms_of typed_rules t
      → act xs ≡ over_value typed_rules t form act r
  over_one [] n xs d e z l a = ap act a ∙ over_some [] n d e z
  over_one (k ∷ frame) n xs d e z l a = absurd (omega (arith, l))

  -- `map`
  pub over_each : (frame : List ℕ) (n : ℕ) (xs : List TypedCell) (cells : List TermExpr) → frame ≡ dims_of typed_rules t → n ≡ min (product frame) (2 ^ 24 + 1) → (n ≡ 0 → ⊥) → (length frame ≡ 0 → ⊥)
      → xs ≡ atoms_of typed_rules t → each term_of cells ≡ each (λ a. form (scalar_of a)) xs → Goes (TFrame frame (terms_of cells) r) ≡ over_value typed_rules t form act r
  over_each [] n xs cells d e z l a m = absurd (l refl)
  over_each (k ∷ frame) n xs cells d e z l a m =
      ap (λ ts. Goes (TFrame (k ∷ frame) ts r)) (list_of cells ∙ ap term_list (m ∙ ap (each (λ x. form (scalar_of x))) a))
      ∙ over_some (k ∷ frame) n d e z
