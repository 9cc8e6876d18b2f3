-- Each rule of typed reduction once, by computation.
use Rattle.std.specs.Prelude.{◌≡◌, refl, ℕ, ◌-◌, ◌^◌, negsuc, [], ◌∷◌, Some, None, replicate}
use Rattle.core_syntax.specs.declared.index.Sort.TheVariants as sort
use Rattle.core_syntax.specs.declared.primitive.Primitive.TheVariants as p
use Rattle.core_syntax.specs.declared.errors.TrapKind.TheVariants as trap
use Rattle.core_syntax.specs.Syntax.{Ty}
use Rattle.core_syntax.specs.Nodes.{number, var, vector, total}
use Rattle.core_syntax.specs.Prims.{scalar, int_ty, array_of, sigma, type_var}
use Rattle.core_syntax.specs.Typing.{numbers}
use Rattle.core_syntax.specs.Terms.{TVar, TDef, TArray, TNoAtoms, TFrame, TNoCells, TApp, TTypeApp, TIndexApp, TUnbox, TInt, TPrim, TFn, TTypeFn, TIndexFn, TBoxed, cell_list, term_list, scalar_of}
use Rattle.core_syntax.specs.Move.{Rests, Trapped, Goes}
use Rattle.core_syntax.specs.Step.{step, after}
use Rattle.core_syntax.specs.Typed.{typed_rules, TypedTerm}
use Rattle.reduction_laws.proofs.rows.StepRows.{ints, int, prim, none, on_two, sum}

-- `unfold`: a defined name goes to its definition
unfolds : step typed_rules (int 4 ∷ int 5 ∷ []) (TDef 1) ≡ Goes (int 5)
unfolds = refl

-- `box-index`: an index whose value doesn't fit
abbrev box_at : ℕ → TypedTerm
box_at n = scalar_of (TBoxed (number n ∷ []) (int 1) (sigma (sort.Dim ∷ []) (scalar int_ty)))

box_index : step typed_rules [] (box_at (2 ^ 32)) ≡ Trapped trap.Size
box_index = refl

box_value : step typed_rules [] (box_at (2 ^ 32 - 1)) ≡ Rests
box_value = refl

-- `size` of an application: its frame has too many cells, each of them without atoms
size_of_application : step typed_rules [] (TApp (scalar_of (TFn (record { inputs = array_of int_ty (numbers (0 ∷ [])) ∷ []; result = scalar int_ty }) (int 1))) (term_list (TNoAtoms (4294967295 ∷ 0 ∷ []) int_ty ∷ [])) (numbers (0 ∷ []) ∷ []) (scalar int_ty)) ≡ Trapped trap.Size
size_of_application = refl

-- `size` of a frame, before its second cell is reduced
size_of_frame : step typed_rules [] (TFrame (2 ∷ []) (term_list (TNoAtoms (2 ^ 32 ∷ 0 ∷ []) int_ty ∷ on_two (prim p.Div) (int 1) (int 0) ∷ [])) (array_of int_ty (numbers (2 ^ 32 ∷ 0 ∷ [])))) ≡ Trapped trap.Size
size_of_frame = refl

-- `empty` of a frame without cells
empty_frame : step typed_rules [] (TNoCells (record { dims = 0 ∷ []; cell = array_of int_ty (numbers (2 ∷ [])) })) ≡ Goes (TNoAtoms (0 ∷ 2 ∷ []) int_ty)
empty_frame = refl

-- `lift`: the cell at each place is the one at the leading part of the place
abbrev lifted_sum : TypedTerm
lifted_sum =
    on_two (TArray (2 ∷ 3 ∷ []) (cell_list (replicate 6 (TPrim p.Add None None)))) (ints (2 ∷ 3 ∷ []) (1 ∷ 2 ∷ 3 ∷ 4 ∷ 5 ∷ 6 ∷ []))
    (ints (2 ∷ 3 ∷ []) (10 ∷ 10 ∷ 10 ∷ 20 ∷ 20 ∷ 20 ∷ []))

lifts : step typed_rules [] sum ≡ Goes lifted_sum
lifts = refl

abbrev on_ints : ℕ → ℕ → TypedTerm
on_ints m n = on_two (prim p.Add) (int m) (int n)

-- `map`: the same application on the cells, in row-major order
maps : step typed_rules [] lifted_sum
    ≡ Goes (TFrame (2 ∷ 3 ∷ []) (term_list (on_ints 1 10 ∷ on_ints 2 10 ∷ on_ints 3 10 ∷ on_ints 4 20 ∷ on_ints 5 20 ∷ on_ints 6 20 ∷ [])) (scalar int_ty))
maps = refl

-- `beta`: the last argument is innermost
betas : step typed_rules [] (on_two (scalar_of (TFn (record { inputs = scalar int_ty ∷ scalar int_ty ∷ []; result = scalar int_ty }) (on_two (prim p.Sub) (TVar 1) (TVar 0)))) (int 5) (int 3)) ≡ Goes (on_two (prim p.Sub) (int 5) (int 3))
betas = refl

-- `delta`
deltas : step typed_rules [] (on_two (prim p.Sub) (int 5) (int 3)) ≡ Goes (int 2)
deltas = refl

-- `t-beta`: a body with types in place, and a primitive that gains them
type_betas : step typed_rules [] (TTypeApp (scalar_of (TTypeFn 1 (TNoAtoms (0 ∷ []) (type_var 0)))) (int_ty ∷ []) (array_of int_ty (numbers (0 ∷ [])))) ≡ Goes (TNoAtoms (0 ∷ []) int_ty)
type_betas = refl

gains_types : step typed_rules [] (TTypeApp (prim p.Select) (int_ty ∷ []) (scalar int_ty)) ≡ Goes (scalar_of (TPrim p.Select (Some (int_ty ∷ [])) None))
gains_types = refl

-- `i-beta`: the indices are evaluated, and trap where one doesn't fit
gains_indices : step typed_rules [] (TIndexApp (prim p.Iota) (total (number 1 ∷ number 1 ∷ []) ∷ []) (scalar int_ty)) ≡ Goes (scalar_of (TPrim p.Iota None (Some (number 2 ∷ []))))
gains_indices = refl

index_too_large : step typed_rules [] (TIndexApp (prim p.Iota) (number (2 ^ 32) ∷ []) (scalar int_ty)) ≡ Trapped trap.Size
index_too_large = refl

-- inner binders of the same name don't catch what is put under them
abbrev matrix : Ty
matrix = array_of int_ty (vector (var 1 ∷ var 0 ∷ []))

abbrev inner : TypedTerm
inner = scalar_of (TIndexFn (sort.Dim ∷ []) (scalar_of (TIndexFn (sort.Dim ∷ []) (scalar_of (TFn (record { inputs = matrix ∷ []; result = matrix }) (TVar 0))))))

abbrev outer : TypedTerm
outer = scalar_of (TIndexFn (sort.Dim ∷ []) (TIndexApp inner (var 0 ∷ []) (scalar int_ty)))

abbrev shadowed : TypedTerm
shadowed =
    TApp (TIndexApp (TIndexApp outer (number 2 ∷ []) (scalar int_ty)) (number 3 ∷ []) (scalar int_ty)) (term_list (ints (2 ∷ 3 ∷ []) (1 ∷ 2 ∷ 3 ∷ 4 ∷ 5 ∷ 6 ∷ []) ∷ [])) (numbers (2 ∷ 3 ∷ []) ∷ [])
    (array_of int_ty (numbers (2 ∷ 3 ∷ [])))

shadowed_value : after typed_rules [] 4 shadowed ≡ Some (ints (2 ∷ 3 ∷ []) (1 ∷ 2 ∷ 3 ∷ 4 ∷ 5 ∷ 6 ∷ []))
shadowed_value = refl

-- `unbox`: the content, and the values of the indices in the body's notes
unboxes : step typed_rules [] (TUnbox (sort.Dim ∷ []) (scalar_of (TBoxed (number 2 ∷ []) (ints (2 ∷ []) (5 ∷ 6 ∷ [])) (sigma (sort.Dim ∷ []) (array_of int_ty (vector (var 0 ∷ [])))))) (TFrame (1 ∷ []) (term_list (TVar 0 ∷ [])) (array_of int_ty (vector (var 0 ∷ [])))) (array_of int_ty (numbers (1 ∷ 2 ∷ []))))
    ≡ Goes (TFrame (1 ∷ []) (term_list (ints (2 ∷ []) (5 ∷ 6 ∷ []) ∷ [])) (array_of int_ty (numbers (2 ∷ []))))
unboxes = refl

-- `collapse`
collapses : step typed_rules [] (TFrame (2 ∷ []) (term_list (ints (3 ∷ []) (1 ∷ 2 ∷ 3 ∷ []) ∷ ints (3 ∷ []) (4 ∷ 5 ∷ 6 ∷ []) ∷ [])) (array_of int_ty (numbers (3 ∷ [])))) ≡ Goes (ints (2 ∷ 3 ∷ []) (1 ∷ 2 ∷ 3 ∷ 4 ∷ 5 ∷ 6 ∷ []))
collapses = refl

-- folds go from the left: 1 - 2 - 3 without a first accumulator, and 10 - 1 - 2 - 3
abbrev folded : TypedTerm
folded = TApp (scalar_of (TPrim p.Reduce (Some (int_ty ∷ [])) (Some (number 2 ∷ none ∷ [])))) (term_list (prim p.Sub ∷ ints (3 ∷ []) (1 ∷ 2 ∷ 3 ∷ []) ∷ [])) (none ∷ numbers (3 ∷ []) ∷ []) (scalar int_ty)

reduces : step typed_rules [] folded ≡ Goes (on_two (prim p.Sub) (on_two (prim p.Sub) (int 1) (int 2)) (int 3))
reduces = refl

reduced_value : after typed_rules [] 3 folded ≡ Some (scalar_of (TInt (negsuc 3)))
reduced_value = refl

folds : step typed_rules []
    (TApp (scalar_of (TPrim p.Fold (Some (int_ty ∷ int_ty ∷ [])) (Some (number 3 ∷ none ∷ none ∷ [])))) (term_list (prim p.Sub ∷ int 10 ∷ ints (3 ∷ []) (1 ∷ 2 ∷ 3 ∷ []) ∷ [])) (none ∷ none ∷ numbers (3 ∷ []) ∷ []) (scalar int_ty))
    ≡ Goes (on_two (prim p.Sub) (on_two (prim p.Sub) (on_two (prim p.Sub) (int 10) (int 1)) (int 2)) (int 3))
folds = refl

-- a negative asked dim counts as 0
negative_dim : after typed_rules [] 1 (TApp (scalar_of (TPrim p.Iota None (Some (number 1 ∷ [])))) (term_list (TArray (1 ∷ []) (cell_list (TInt (negsuc 0) ∷ [])) ∷ [])) (numbers (1 ∷ []) ∷ []) (scalar (sigma (sort.Shape ∷ []) (array_of int_ty (var 0)))))
    ≡ Some (scalar_of (TBoxed (numbers (0 ∷ []) ∷ []) (TNoAtoms (0 ∷ []) int_ty) (sigma (sort.Shape ∷ []) (array_of int_ty (var 0)))))
negative_dim = refl
