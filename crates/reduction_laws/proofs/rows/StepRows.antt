-- Runs of typed reduction, by computation.
use Rattle.std.specs.Prelude.{◌≡◌, refl, ℕ, ◌-◌, ◌^◌, pos, negsuc, Bool, true, false, List, [], ◌∷◌, Some, None}
use Rattle.core_syntax.specs.declared.index.Sort.TheVariants as sort
use Rattle.core_syntax.specs.declared.primitive.Primitive.{Primitive}
use Rattle.core_syntax.specs.declared.primitive.Primitive.TheVariants as p
use Rattle.core_syntax.specs.declared.errors.TrapKind.TheVariants as trap
use Rattle.core_syntax.specs.Syntax.{Index, Num, no_span}
use Rattle.core_syntax.specs.Nodes.{vector, var, total}
use Rattle.core_syntax.specs.Prims.{scalar, int_ty, array_of, function, for_all, sigma, pi}
use Rattle.core_syntax.specs.Terms.{TVar, TArray, TNoAtoms, TFrame, TApp, TTypeApp, TIndexApp, TUnbox, TInt, TBool, TPrim, TFn, TTypeFn, TIndexFn, TBoxed, cell_list, term_list, scalar_of}
use Rattle.core_syntax.specs.Move.{Rests, Goes, Trapped}
use Rattle.core_syntax.specs.Step.{step, after, TrapsAt}
use Rattle.core_syntax.specs.Typed.{typed_rules, TypedTerm}
use Rattle.core_syntax.specs.Typing.{numbers}
use Rattle.core_syntax.specs.Lists.{each}

-- an array of integers
abbrev pub ints : List ℕ → List ℕ → TypedTerm
ints dims ns = TArray dims (cell_list (each (λ n. TInt (pos n)) ns))

-- a scalar integer
abbrev pub int : ℕ → TypedTerm
int n = ints [] (n ∷ [])

-- a scalar primitive
abbrev pub prim : Primitive → TypedTerm
prim q = scalar_of (TPrim q None None)

-- the shape ()
abbrev pub none : Index
none = vector []

-- an application to two scalar cells
abbrev pub on_two : TypedTerm → TypedTerm → TypedTerm → TypedTerm
on_two f a b = TApp f (term_list (a ∷ b ∷ [])) (none ∷ none ∷ []) (scalar int_ty)

-- a sum of a matrix and a vector takes nine steps: lift, map, six sums, collapse
abbrev pub sum : TypedTerm
sum = on_two (prim p.Add) (ints (2 ∷ 3 ∷ []) (1 ∷ 2 ∷ 3 ∷ 4 ∷ 5 ∷ 6 ∷ [])) (ints (2 ∷ []) (10 ∷ 20 ∷ []))

sum_value : after typed_rules [] 9 sum ≡ Some (ints (2 ∷ 3 ∷ []) (11 ∷ 12 ∷ 13 ∷ 24 ∷ 25 ∷ 26 ∷ []))
sum_value = refl

sum_rests : step typed_rules [] (ints (2 ∷ 3 ∷ []) (11 ∷ 12 ∷ 13 ∷ 24 ∷ 25 ∷ 26 ∷ [])) ≡ Rests
sum_rests = refl

-- an overflow traps at the first step
overflows : step typed_rules [] (on_two (prim p.Add) (int (2 ^ 63 - 1)) (int 1)) ≡ Trapped trap.Overflow
overflows = refl

-- an array without atoms, over its dims alone
empty_sum : step typed_rules [] (on_two (prim p.Add) (TNoAtoms (0 ∷ 3 ∷ []) int_ty) (int 5)) ≡ Goes (TNoAtoms (0 ∷ 3 ∷ []) int_ty)
empty_sum = refl

-- a function array: (+ *) on (3 4) and 5
functions : after typed_rules [] 5 (on_two (TArray (2 ∷ []) (cell_list (TPrim p.Add None None ∷ TPrim p.Mul None None ∷ []))) (ints (2 ∷ []) (3 ∷ 4 ∷ [])) (int 5)) ≡ Some (ints (2 ∷ []) (8 ∷ 20 ∷ []))
functions = refl

-- a body with a frame over no cells: the result's dims have the cell's
abbrev pub doubled : TypedTerm
doubled =
    TApp (scalar_of (TFn (record { inputs = scalar int_ty ∷ []; result = array_of int_ty (numbers (2 ∷ [])) }) (TFrame (2 ∷ []) (term_list (TVar 0 ∷ TVar 0 ∷ [])) (scalar int_ty))))
    (term_list (TNoAtoms (0 ∷ []) int_ty ∷ [])) (none ∷ []) (array_of int_ty (numbers (2 ∷ [])))

doubled_value : step typed_rules [] doubled ≡ Goes (TNoAtoms (0 ∷ 2 ∷ []) int_ty)
doubled_value = refl

-- the second of three quotients traps
abbrev pub quotient_row : TypedTerm
quotient_row =
    on_two (prim p.Div) (TArray (3 ∷ []) (cell_list (TInt (pos 1) ∷ TInt (pos 2) ∷ TInt (negsuc (2 ^ 63 - 1)) ∷ [])))
    (TArray (3 ∷ []) (cell_list (TInt (pos 1) ∷ TInt (pos 0) ∷ TInt (negsuc 0) ∷ [])))

quotients : TrapsAt typed_rules [] 4 quotient_row trap.Zero
quotients = (_, refl, refl)

-- the sums of rows, by reduce
abbrev pub reduce_int : TypedTerm
reduce_int =
    TIndexApp
    (TTypeApp (prim p.Reduce) (int_ty ∷ [])
    (scalar (pi (sort.Dim ∷ sort.Shape ∷ []) (function (scalar (function (array_of int_ty (var 0) ∷ array_of int_ty (var 0) ∷ []) (array_of int_ty (var 0))) ∷ []) (array_of int_ty (var 0))))))
    (Num no_span 2 ∷ none ∷ []) (scalar (function (scalar (function (scalar int_ty ∷ scalar int_ty ∷ []) (scalar int_ty)) ∷ array_of int_ty (numbers (3 ∷ [])) ∷ []) (scalar int_ty)))

-- and on each row of a matrix
abbrev pub row_sums : TypedTerm
row_sums =
    TApp
    (scalar_of
    (TFn (record { inputs = array_of int_ty (numbers (3 ∷ [])) ∷ []; result = scalar int_ty })
    (TApp reduce_int (term_list (prim p.Add ∷ TVar 0 ∷ [])) (none ∷ numbers (3 ∷ []) ∷ []) (scalar int_ty))))
    (term_list (ints (2 ∷ 3 ∷ []) (1 ∷ 2 ∷ 3 ∷ 4 ∷ 5 ∷ 6 ∷ []) ∷ [])) (numbers (3 ∷ []) ∷ []) (scalar int_ty)

row_sums_value : after typed_rules [] 15 row_sums ≡ Some (ints (2 ∷ []) (6 ∷ 15 ∷ []))
row_sums_value = refl

-- a selected `tfn`: the other one's body isn't run
abbrev pub either_body : Bool → TypedTerm
either_body b =
    TTypeApp
    (TApp (TTypeApp (prim p.Select) (for_all 1 int_ty ∷ []) (scalar int_ty))
    (term_list (scalar_of (TBool b) ∷ scalar_of (TTypeFn 1 (int 1)) ∷ scalar_of (TTypeFn 1 (on_two (prim p.Div) (int 1) (int 0))) ∷ []))
    (none ∷ none ∷ none ∷ []) (scalar (for_all 1 int_ty)))
    (int_ty ∷ []) (scalar int_ty)

first_body : after typed_rules [] 3 (either_body true) ≡ Some (int 1)
first_body = refl

second_body : TrapsAt typed_rules [] 4 (either_body false) trap.Zero
second_body = (_, refl, refl)

-- iota gives a box of the asked shape
abbrev pub counted : TypedTerm
counted =
    TApp (TIndexApp (prim p.Iota) (Num no_span 2 ∷ []) (scalar int_ty)) (term_list (ints (2 ∷ []) (2 ∷ 2 ∷ []) ∷ [])) (numbers (2 ∷ []) ∷ [])
    (scalar (sigma (sort.Shape ∷ []) (array_of int_ty (var 0))))

counted_value : after typed_rules [] 2 counted ≡ Some (scalar_of (TBoxed (numbers (2 ∷ 2 ∷ []) ∷ []) (ints (2 ∷ 2 ∷ []) (0 ∷ 1 ∷ 2 ∷ 3 ∷ [])) (sigma (sort.Shape ∷ []) (array_of int_ty (var 0)))))
counted_value = refl

-- an unboxed body that doesn't read its content
abbrev pub unboxed : TypedTerm
unboxed = TUnbox (sort.Dim ∷ []) (scalar_of (TBoxed (Num no_span 2 ∷ []) (ints (2 ∷ []) (5 ∷ 6 ∷ [])) (sigma (sort.Dim ∷ []) (array_of int_ty (vector (var 0 ∷ [])))))) (int 7) (scalar int_ty)

unboxed_value : after typed_rules [] 1 unboxed ≡ Some (int 7)
unboxed_value = refl

-- an `ifn` over two dims, whose body appends vectors of them: its annotations get the values
abbrev pub joined_vectors : TypedTerm
joined_vectors =
    TApp
    (TIndexApp
    (scalar_of (TIndexFn (sort.Dim ∷ sort.Dim ∷ [])
    (scalar_of (TFn (record { inputs = array_of int_ty (vector (var 1 ∷ [])) ∷ array_of int_ty (vector (var 0 ∷ [])) ∷ []; result = array_of int_ty (vector (total (var 0 ∷ var 1 ∷ []) ∷ [])) })
    (TApp
    (TIndexApp (TTypeApp (prim p.Append) (int_ty ∷ []) (scalar int_ty)) (var 1 ∷ var 0 ∷ none ∷ []) (scalar int_ty))
    (term_list (TVar 1 ∷ TVar 0 ∷ [])) (vector (var 1 ∷ []) ∷ vector (var 0 ∷ []) ∷ []) (array_of int_ty (vector (total (var 1 ∷ var 0 ∷ []) ∷ []))))))))
    (Num no_span 2 ∷ Num no_span 3 ∷ []) (scalar int_ty))
    (term_list (ints (2 ∷ []) (1 ∷ 2 ∷ []) ∷ ints (3 ∷ []) (3 ∷ 4 ∷ 5 ∷ []) ∷ [])) (numbers (2 ∷ []) ∷ numbers (3 ∷ []) ∷ []) (array_of int_ty (numbers (5 ∷ [])))

joined_value : after typed_rules [] 5 joined_vectors ≡ Some (ints (5 ∷ []) (1 ∷ 2 ∷ 3 ∷ 4 ∷ 5 ∷ []))
joined_value = refl
