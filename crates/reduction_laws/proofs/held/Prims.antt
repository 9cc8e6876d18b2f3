-- A primitive on held arguments of its inputs' types goes on to a held term.
use Rattle.std.proofs.Common.{◌≡◌, sym, ◌∙◌, ap, ℕ, suc, ◌+◌, ◌≤◌, arith, List, [], ◌∷◌, ◌++◌, length, Option, Some, None}
use Rattle.std.specs.Prelude.{◌&&◌, is_some}
use Rattle.core_syntax.specs.declared.primitive.Primitive.{Primitive}
use Rattle.core_syntax.specs.declared.primitive.Primitive.TheVariants as p
use Rattle.core_syntax.specs.Syntax.{Index, Ty, Fun, Arr, Tys, no_tys, more_tys, no_span}
use Rattle.core_syntax.specs.Lists.{each, Each}
use Rattle.core_syntax.specs.Kinds.{IsWellFormed}
use Rattle.core_syntax.specs.Value.{dim_val, shape_val}
use Rattle.core_syntax.specs.Subst.{kept, put_all, indices_under, ty_put, fates_under_index, with_indices}
use Rattle.core_syntax.specs.Prims.{prim_type, with_dims, type_var}
use Rattle.core_syntax.specs.Nodes.{vector, total, joined_shape}
use Rattle.core_syntax.specs.Typing.{defs_only}
use Rattle.core_syntax.specs.Terms.{TArray, TNoAtoms, Terms, no_terms, more_terms, Cell, TPrim, no_cells, more_cells, term_items}
use Rattle.core_syntax.specs.Arrays.{Arrayed}
use Rattle.core_syntax.specs.Delta.{number_at, delta}
use Rattle.core_syntax.specs.Move.{Lost}
use Rattle.core_syntax.specs.Rules.{agrees, has_types, has_indices, values_of, atom_rules, answered, apply_atom}
use Rattle.core_syntax.specs.Typed.{typed, typed_rules, TypedTerm, closed, closed_value}
use Rattle.core_syntax.specs.TermTyping.{PrimHas, HasTerm}
use Rattle.core_syntax.specs.Held.{IsHeld}
use Rattle.reduction_laws.proofs.held.Forms.{each_mapped}
use Rattle.reduction_laws.proofs.held.Moves.{Kept, kept_either, dims_held, atoms_held}
use Rattle.reduction_laws.proofs.held.Answers.{Whole, Leads, Counted, Suits}
use Rattle.reduction_laws.proofs.held.Delta.{delta_held, answered_kept}
use Rattle.reduction_laws.proofs.steps.Parts.{IsArr, count_items}
use Rattle.reduction_laws.proofs.primitives.Args.{arrayed, fits_arg, with_args}
use Rattle.reduction_laws.proofs.primitives.Arrays.{number_of, number_next}
use Rattle.reduction_laws.proofs.steps.Scalars.{PairsHave}

module _ (D : List Ty) where
  -- the arrays of values
  abbrev arrays : List TypedTerm → List (Arrayed (Cell typed))
  arrays es = each (arrayed D) es

  counted_value : (e : TypedTerm) (T : Ty) → IsArr e → HasTerm (defs_only D) e T → Counted (arrayed D e)
  counted_value (TArray dims no_cells) T v h = absurd h
  counted_value (TArray dims (more_cells x xs)) T v h = ap suc (count_items xs) ∙ h.4
  counted_value (TNoAtoms dims a) T v h = sym h.2
  counted_value _ T v h = absurd v

  counted_values : (es : Terms typed) (ws : Tys) → Each IsArr (term_items es) → PairsHave D es ws → Each Counted (arrays (term_items es))
  counted_values no_terms ws v h = tt
  counted_values (more_terms e es) (more_tys t ws) v h = (counted_value e t v.0 h.0, counted_values es ws v.1 h.1)
  counted_values (more_terms e es) no_tys v h = absurd h

  -- an array of a type with a leading dim
  leads_of : (n k : ℕ) (s : List ℕ) (a : Arrayed (Cell typed)) → a.dims ≡ k ∷ s → n ≤ k → Leads n a
  leads_of n k s a e le k' s' e' = let same : k ≡ k' = (let f = sym e ∙ e' in cc) in omega arith

  module _ (ws : Tys) (b : Ty) (c : Index) (es : Terms typed) (w : IsWellFormed 0 [] (Arr no_span b c)) (ve : Each IsArr (term_items es)) (he : PairsHave D es ws) where
    -- the type that stands for the first type variable
    abbrev atom_at : List Ty → List Index → Ty
    atom_at vs is = with_indices is (ty_put (indices_under (length is) kept) (fates_under_index (length is) (put_all vs)) (type_var 0))

    leads_take : (vs : List Ty) (i j k : Index) → PrimHas (defs_only D) (prim_type p.Take) (Some vs) (Some (i ∷ j ∷ k ∷ [])) (Fun no_span ws (Arr no_span b c)) → Each (Leads (number_at (each closed_value (i ∷ j ∷ k ∷ [])) 0)) (arrays (term_items es))
    leads_take vs i j k h =
        with_args D (with_dims (atom_at vs (i ∷ j ∷ k ∷ [])) (total (i ∷ j ∷ []) ∷ []) k ∷ []) es ws (λ es. Each (Leads (number_at (each closed_value (i ∷ j ∷ k ∷ [])) 0)) (arrays es)) h.2.1.1.0 he ve (λ e u v g s.
        let f = fits_arg D e u (atom_at vs (i ∷ j ∷ k ∷ [])) (joined_shape (vector (total (i ∷ j ∷ []) ∷ []) ∷ k ∷ [])) b v g s h.2.1.1.1.0 w.2 in
        let n = number_of i (each closed_value (j ∷ k ∷ [])) h.2.0.0 in
        (leads_of (number_at (each closed_value (i ∷ j ∷ k ∷ [])) 0) (dim_val closed i + (dim_val closed j + 0)) (shape_val closed k ++ []) (arrayed D e) f.dims (omega arith), tt))

    leads_drop : (vs : List Ty) (i j k : Index) → PrimHas (defs_only D) (prim_type p.Drop) (Some vs) (Some (i ∷ j ∷ k ∷ [])) (Fun no_span ws (Arr no_span b c)) → Each (Leads (number_at (each closed_value (i ∷ j ∷ k ∷ [])) 1)) (arrays (term_items es))
    leads_drop vs i j k h =
        with_args D (with_dims (atom_at vs (i ∷ j ∷ k ∷ [])) (total (i ∷ j ∷ []) ∷ []) k ∷ []) es ws (λ es. Each (Leads (number_at (each closed_value (i ∷ j ∷ k ∷ [])) 1)) (arrays es)) h.2.1.1.0 he ve (λ e u v g s.
        let f = fits_arg D e u (atom_at vs (i ∷ j ∷ k ∷ [])) (joined_shape (vector (total (i ∷ j ∷ []) ∷ []) ∷ k ∷ [])) b v g s h.2.1.1.1.0 w.2 in
        let n = number_next i (each closed_value (j ∷ k ∷ [])) ∙ number_of j (each closed_value (k ∷ [])) h.2.0.1.0 in
        (leads_of (number_at (each closed_value (i ∷ j ∷ k ∷ [])) 1) (dim_val closed i + (dim_val closed j + 0)) (shape_val closed k ++ []) (arrayed D e) f.dims (omega arith), tt))

    -- what types say of a primitive's arguments
    suits : (q : Primitive) (us : Option (List Ty)) (is : Option (List Index)) → PrimHas (defs_only D) (prim_type q) us is (Fun no_span ws (Arr no_span b c)) → Suits q (values_of closed_value is) (arrays (term_items es))
    suits p.Ravel us is h = counted_values es ws ve he
    suits p.Take (Some vs) (Some (i ∷ j ∷ k ∷ [])) h = leads_take vs i j k h
    suits p.Take (Some vs) (Some []) h = absurd h.2.0
    suits p.Take (Some vs) (Some (i ∷ [])) h = absurd h.2.0.1
    suits p.Take (Some vs) (Some (i ∷ j ∷ [])) h = absurd h.2.0.1.1
    suits p.Take (Some vs) (Some (i ∷ j ∷ k ∷ l ∷ ks)) h = absurd h.2.0.1.1.1
    suits p.Take (Some vs) None h = absurd h.2.1
    suits p.Take None None h = absurd h.1
    suits p.Take None (Some ks) h = absurd h
    suits p.Drop (Some vs) (Some (i ∷ j ∷ k ∷ [])) h = leads_drop vs i j k h
    suits p.Drop (Some vs) (Some []) h = absurd h.2.0
    suits p.Drop (Some vs) (Some (i ∷ [])) h = absurd h.2.0.1
    suits p.Drop (Some vs) (Some (i ∷ j ∷ [])) h = absurd h.2.0.1.1
    suits p.Drop (Some vs) (Some (i ∷ j ∷ k ∷ l ∷ ks)) h = absurd h.2.0.1.1.1
    suits p.Drop (Some vs) None h = absurd h.2.1
    suits p.Drop None None h = absurd h.1
    suits p.Drop None (Some ks) h = absurd h
    suits _ us is h = tt

    pub prim_kept : (q : Primitive) (us : Option (List Ty)) (is : Option (List Index)) (note : Ty) → PrimHas (defs_only D) (prim_type q) us is (Fun no_span ws (Arr no_span b c)) → Each IsHeld (term_items es)
        → Kept IsHeld (apply_atom typed_rules (TPrim q us is ∷ []) (term_items es) note)
    prim_kept q us is note h hs =
        kept_either IsHeld (agrees (has_types q) (is_some us) && agrees (has_indices q) (is_some is)) (answered typed_rules note us is (delta (atom_rules typed_rules note) q (values_of closed_value is) (arrays (term_items es)))) Lost
        (λ z.
        answered_kept note us is (delta (atom_rules typed_rules note) q (values_of closed_value is) (arrays (term_items es)))
        (delta_held note q (values_of closed_value is) (arrays (term_items es)) (each_mapped IsHeld Whole (arrayed D) (λ t k. (dims_held t k, atoms_held None t k)) (term_items es) hs) (suits q us is h)))
        (λ z. tt)
