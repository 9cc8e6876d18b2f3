-- A frame of values as an array: the atoms of the cells, one after another.
use Rattle.std.proofs.Common.{◌≡◌, refl, sym, ap, ◌∙◌, ℕ, ◌+◌, ◌<◌, ◌≤◌, List, [], ◌∷◌, ◌++◌, length, take, slice_index_or, append_assoc, append-nil, arith}
use Rattle.std.proofs.lemmas.List.{take_more, take_all}
use Rattle.core_syntax.specs.declared.term.TermAtom.{TermAtom}
use Rattle.core_syntax.specs.declared.term.TermExpr.{TermExpr}
use Rattle.core_syntax.specs.Lists.{each, joined}
use Rattle.core_syntax.specs.Move.{Goes}
use Rattle.core_syntax.specs.RefineTerms.{TypedCell, cell_of, term_of, terms_of}
use Rattle.core_syntax.specs.Rules.{dims_of, atoms_of, array_term_of}
use Rattle.core_syntax.specs.Syntax.{Ty}
use Rattle.core_syntax.specs.Terms.{TFrame}
use Rattle.core_syntax.specs.Typed.{atom_type, typed_rules, TypedTerm}
use Rattle.typed_step.specs.Outcomes.{fires}
use Rattle.naturality.proofs.Eaches.{each_append}
use Rattle.typed_step.proofs.TreeRules.{items_of}

-- the atoms of values
abbrev pub atoms_in : TermExpr → List TypedCell
atoms_in t = atoms_of typed_rules (term_of t)

joined_push : {A B : Type 0} (f : A → List B) (xs : List A) (y : A) → joined (each f (xs ++ y ∷ [])) ≡ joined (each f xs) ++ f y
joined_push f [] y = append-nil (f y)
joined_push f (x ∷ xs) y = ap (λ zs. f x ++ zs) (joined_push f xs y) ∙ sym (append_assoc (f x) (joined (each f xs)) (f y))

module _ (cells : List TermExpr) (k : ℕ) where
  -- those of one cell more
  pub atoms_more : (t : TermExpr) (now next new : List TermAtom) → k < length cells → t ≡ slice_index_or cells k t → next ≡ now ++ new → each cell_of new ≡ atoms_in t
      → each cell_of now ≡ joined (each atoms_in (take k cells)) → each cell_of next ≡ joined (each atoms_in (take (k + 1) cells))
  atoms_more t now next new lt at e one before =
      ap (each cell_of) e ∙ sym (each_append cell_of now new)
      ∙ (λ i. before i ++ (one ∙ ap atoms_in at) i)
      ∙ sym (ap (λ l. joined (each atoms_in l)) (take_more cells k t lt) ∙ joined_push atoms_in (take k cells) (slice_index_or cells k t))

  -- those of all
  pub atoms_end : length cells ≤ k → joined (each atoms_in (take k cells)) ≡ joined (each atoms_in cells)
  atoms_end le = ap (λ l. joined (each atoms_in l)) (take_all k cells le)

joined_of : (cells : List TermExpr) → joined (each atoms_in cells) ≡ joined (each (atoms_of typed_rules) (each term_of cells))
joined_of [] = refl
joined_of (t ∷ ts) = ap (λ xs. atoms_in t ++ xs) (joined_of ts)

-- the array of a frame's cells
pub collapse_goes : (frame dims cell : List ℕ) (cells : List TermExpr) (first : TermExpr) (r : Ty) (xs : List TypedCell) (t : TypedTerm) → 1 ≤ length cells → first ≡ slice_index_or cells 0 first
    → cell ≡ dims_of typed_rules (term_of first) → dims ≡ frame ++ cell → xs ≡ joined (each atoms_in cells) → t ≡ array_term_of typed_rules (atom_type r) dims xs → Goes t ≡ fires [] (TFrame frame (terms_of cells) r)
collapse_goes frame dims cell [] first r xs t le at c d x e = absurd (omega (arith, le))
collapse_goes frame dims cell (u ∷ us) first r xs t le at c d x e =
    let same : dims ≡ frame ++ dims_of typed_rules (term_of u) = d ∙ ap (λ l. frame ++ l) (c ∙ ap (λ v. dims_of typed_rules (term_of v)) at) in
    let atoms : xs ≡ atoms_in u ++ joined (each (atoms_of typed_rules) (each term_of us)) = x ∙ joined_of (u ∷ us) in
    ap (λ (v : TypedTerm). Goes v) e
    ∙ (λ i. Goes (array_term_of typed_rules (atom_type r) (same i) (atoms i)))
    ∙ ap (λ ts. Goes (array_term_of typed_rules (atom_type r) (frame ++ dims_of typed_rules (term_of u)) (atoms_in u ++ joined (each (atoms_of typed_rules) ts)))) (sym (items_of us))
