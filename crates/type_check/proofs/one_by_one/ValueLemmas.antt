-- Atoms of a definition's value, one after another.
use Rattle.std.proofs.Common.{◌≡◌, refl, sym, ap, ◌∙◌, ℕ, zero, suc, ◌+◌, ◌<◌, ◌≤◌, arith, List, [], ◌∷◌, length, get_or, drop, drop_of_length-le, Bool, true, false, ◌&&◌}
use Rattle.core_syntax.specs.declared.expr.Atom.{Atom}
use Rattle.core_syntax.specs.Refine.{atom_of, atoms_of}
use Rattle.core_syntax.specs.Syntax.{more_atoms}
use Rattle.core_syntax.specs.Typing.{is_value_atom, are_value_atoms}

atoms_behind : (k : ℕ) (xs : List Atom) (x : Atom) → k < length xs → x ≡ get_or xs k x → atoms_of (drop k xs) ≡ more_atoms (atom_of x) (atoms_of (drop (k + 1) xs))
atoms_behind k [] x lt is = absurd (omega arith)
atoms_behind zero (y ∷ ys) x lt is = ap (λ z. more_atoms (atom_of z) (atoms_of ys)) (sym is)
atoms_behind (suc k) (y ∷ ys) x lt is =
    let at : suc k + 1 ≡ suc (k + 1) = omega arith in
    atoms_behind k ys x (omega arith) is ∙ ap (λ n. more_atoms (atom_of x) (atoms_of (drop n (y ∷ ys)))) (sym at)

module _ (k : ℕ) (xs : List Atom) (x : Atom) (lt : k < length xs) (is : x ≡ get_or xs k x) (before : are_value_atoms (atoms_of xs) ≡ are_value_atoms (atoms_of (drop k xs))) where
  split : are_value_atoms (atoms_of xs) ≡ (is_value_atom (atom_of x) && are_value_atoms (atoms_of (drop (k + 1) xs)))
  split = before ∙ ap are_value_atoms (atoms_behind k xs x lt is)

  pub values_go_on : is_value_atom (atom_of x) ≡ true → are_value_atoms (atoms_of xs) ≡ are_value_atoms (atoms_of (drop (k + 1) xs))
  values_go_on e = split ∙ ap (λ b. b && are_value_atoms (atoms_of (drop (k + 1) xs))) e

  pub values_stop : is_value_atom (atom_of x) ≡ false → false ≡ are_value_atoms (atoms_of xs)
  values_stop e = sym (split ∙ ap (λ b. b && are_value_atoms (atoms_of (drop (k + 1) xs))) e)

pub values_end : (k : ℕ) (xs : List Atom) → length xs ≤ k → are_value_atoms (atoms_of xs) ≡ are_value_atoms (atoms_of (drop k xs)) → true ≡ are_value_atoms (atoms_of xs)
values_end k xs le before = sym (before ∙ ap (λ ys. are_value_atoms (atoms_of ys)) (drop_of_length-le xs {i = k} le))
