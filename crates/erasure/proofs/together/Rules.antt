-- Erasure and the rules that don't substitute: moves of parts, `empty`, `collapse`, and forms over an array.
use Rattle.std.proofs.Common.{◌≡◌, refl, sym, ◌∙◌, ap, ℕ, List, [], ◌∷◌, ◌++◌, Bool, true, false}
use Rattle.std.specs.Prelude.{◌==◌}
use Rattle.core_syntax.specs.declared.index.Sort.{Sort}
use Rattle.core_syntax.specs.declared.errors.TrapKind.TheVariants as trap
use Rattle.core_syntax.specs.Arrays.{array}
use Rattle.core_syntax.specs.Fits.{forms}
use Rattle.core_syntax.specs.Lists.{each, joined, product}
use Rattle.core_syntax.specs.Move.{Move, Trapped, Goes}
use Rattle.core_syntax.specs.Norm.{norm_word}
use Rattle.core_syntax.specs.Rules.{collapse, goes_empty, array_term, atoms_of, dims_of, over_value, over_atoms}
use Rattle.core_syntax.specs.Syntax.{Ty}
use Rattle.core_syntax.specs.Terms.{TNoAtoms, Cell, TArray, more_cells, scalar_of, TFrame, term_list}
use Rattle.core_syntax.specs.Typed.{TypedTerm, typed_rules, typed, shape_of, closed}
use Rattle.core_syntax.specs.Value.{shape_val}
use Rattle.erasure.specs.Erased.{erased, erased_rules, ErasedTerm}
use Rattle.erasure.specs.Erasure.{er, er_cell}
use Rattle.core_syntax.specs.NormPut.{word_value}
use Rattle.erasure.proofs.together.Applied.{move_map, er_cell_list, er_atoms, er_dims, erased_dims, er_list}
use Rattle.naturality.proofs.Eaches.{each_joined}

module _ (ss : List Sort) where
  pub er_empty : (dims : List ℕ) (n : Ty) → move_map (er ss) (goes_empty typed_rules dims n) ≡ goes_empty erased_rules dims tt
  er_empty dims n = by (forms dims)
    where
      by : (t : Bool) → move_map (er ss) (elim t as (λ t. Move TypedTerm) [ true ↦ Goes (TNoAtoms dims n) | false ↦ Trapped trap.Size ]) ≡ (elim t as (λ t. Move ErasedTerm) [ true ↦ Goes (TNoAtoms dims tt) | false ↦ Trapped trap.Size ])
      by true = refl
      by false = refl

  pub er_array_term : (n : Ty) (dims : List ℕ) (xs : List (Cell typed)) → er ss (array_term typed_rules n (array dims xs)) ≡ array_term erased_rules tt (array dims (each (er_cell ss) xs))
  er_array_term n dims [] = refl
  er_array_term n dims (x ∷ xs) = ap (λ z. TArray dims (more_cells (er_cell ss x) z)) (er_cell_list ss xs)

  all_atoms : (ts : List TypedTerm) → each (atoms_of erased_rules) (each (er ss) ts) ≡ each (each (er_cell ss)) (each (atoms_of typed_rules) ts)
  all_atoms [] = refl
  all_atoms (t ∷ ts) = λ i. er_atoms ss t i ∷ all_atoms ts i

  pub er_collapse : (F : List ℕ) (t : TypedTerm) (ts : List TypedTerm) (n : Ty) → er ss (collapse typed_rules F t ts n) ≡ collapse erased_rules F (er ss t) (each (er ss) ts) tt
  er_collapse F t ts n =
      er_array_term (typed_rules.frame_atom n) (F ++ dims_of typed_rules t) (joined (each (atoms_of typed_rules) (t ∷ ts)))
      ∙ λ i. array_term erased_rules tt (array (F ++ sym (er_dims ss t) i) ((sym (each_joined (er_cell ss) (each (atoms_of typed_rules) (t ∷ ts))) ∙ ap joined (sym (all_atoms (t ∷ ts)))) i))

  pub er_result_dims : (r : Ty) → word_value (norm_word (shape_of r)) ≡ shape_val closed (shape_of r)
  er_result_dims r = erased_dims (shape_of r)

  -- a `t-app`, an `i-app` or an `unbox` of a value, given what the form and its act are when erased
  pub er_over_value : (t : TypedTerm) (form : TypedTerm → TypedTerm) (form' : ErasedTerm → ErasedTerm) (act : List (Cell typed) → Move TypedTerm) (act' : List (Cell erased) → Move ErasedTerm) (r : Ty)
      → ((a : TypedTerm) → er ss (form a) ≡ form' (er ss a)) → move_map (er ss) (act (atoms_of typed_rules t)) ≡ act' (each (er_cell ss) (atoms_of typed_rules t))
      → move_map (er ss) (over_value typed_rules t form act r) ≡ over_value erased_rules (er ss t) form' act' (norm_word (shape_of r))
  er_over_value t form form' act act' r f a =
      by (product (dims_of typed_rules t) == 0)
      ∙ λ i.
      elim (product (sym (er_dims ss t) i) == 0) as (λ b. Move ErasedTerm) [
        | true ↦ goes_empty erased_rules (sym (er_dims ss t) i ++ sym (er_result_dims r) i) tt
        | false ↦ over_atoms erased_rules (sym (er_dims ss t) i) (sym (er_atoms ss t) i) form' act' (norm_word (shape_of r))
      ]
    where
      forms_erased : (xs : List (Cell typed)) → each (er ss) (each (λ x. form (scalar_of x)) xs) ≡ each (λ x. form' (scalar_of x)) (each (er_cell ss) xs)
      forms_erased [] = refl
      forms_erased (x ∷ xs) = λ i. f (scalar_of x) i ∷ forms_erased xs i

      over : (d : List ℕ) → move_map (er ss) (over_atoms typed_rules d (atoms_of typed_rules t) form act r) ≡ over_atoms erased_rules d (each (er_cell ss) (atoms_of typed_rules t)) form' act' (norm_word (shape_of r))
      over [] = a
      over (m ∷ F) = ap (λ ts. Goes (TFrame (m ∷ F) ts tt)) (er_list ss (each (λ x. form (scalar_of x)) (atoms_of typed_rules t)) ∙ ap term_list (forms_erased (atoms_of typed_rules t)))

      by : (b : Bool) → move_map (er ss) (elim b as (λ b. Move TypedTerm) [ true ↦ goes_empty typed_rules (dims_of typed_rules t ++ shape_val closed (shape_of r)) (typed_rules.result_atom r) | false ↦ over_atoms typed_rules (dims_of typed_rules t) (atoms_of typed_rules t) form act r ])
          ≡ (elim b as (λ b. Move ErasedTerm) [ true ↦ goes_empty erased_rules (dims_of typed_rules t ++ shape_val closed (shape_of r)) tt | false ↦ over_atoms erased_rules (dims_of typed_rules t) (each (er_cell ss) (atoms_of typed_rules t)) form' act' (norm_word (shape_of r)) ])
      by true = er_empty (dims_of typed_rules t ++ shape_val closed (shape_of r)) (typed_rules.result_atom r)
      by false = over (dims_of typed_rules t)
