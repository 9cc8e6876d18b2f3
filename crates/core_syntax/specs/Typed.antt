-- Typed terms: their notes are types and indices.
use Rattle.std.specs.Prelude.{ℕ, List, [], ◌++◌, length, slice_index_or}
use Rattle.core_syntax.specs.declared.index.Sort.{Sort}
use Rattle.core_syntax.specs.Syntax.{Index, Num, Var, Sum, Dims, Join, Ty, Sigma, Arr, no_span}
use Rattle.core_syntax.specs.Lists.{each}
use Rattle.core_syntax.specs.Value.{Valuation, dim_val, shape_val}
use Rattle.core_syntax.specs.Subst.{Fates, kept, put_all, under_n, index_put, indices_under, ty_put, ty_under_type, fates_under_index, with_indices}
use Rattle.core_syntax.specs.Typing.{numbers}
use Rattle.core_syntax.specs.Nodes.{vector}
use Rattle.core_syntax.specs.Prims.{int_ty}
use Rattle.core_syntax.specs.Terms.{IndexValue, DimValue, ShapeValue, Notes, NoteRules, Term}

-- the inputs and the result of a `fn`
pub record Inputs : Type 0 where
  pub inputs : List Ty
  pub result : Ty

-- the dims of a frame without cells, and its cell's type
pub record Whole : Type 0 where
  pub dims : List ℕ
  pub cell : Ty

-- the notes of typed terms
abbrev pub typed : Notes
typed = record { atom = Ty; frame = Ty; whole = Whole; cell = Index; result = Ty; types = List Ty; index = Index; inputs = Inputs; count = ℕ; sorts = List Sort; box = Ty }

-- the valuation of closed indices
abbrev pub closed : Valuation
closed = record { dim = λ k. 0; shape = λ k. [] }

-- the value of a closed index, by its form
abbrev pub closed_value : Index → IndexValue
closed_value (Num at n) = DimValue n
closed_value (Var at k) = DimValue 0
closed_value (Sum at is) = DimValue (dim_val closed (Sum at is))
closed_value (Dims at is) = ShapeValue (shape_val closed (Dims at is))
closed_value (Join at is) = ShapeValue (shape_val closed (Join at is))

-- an index with a value
abbrev pub value_index : IndexValue → Index
value_index (DimValue n) = Num no_span n
value_index (ShapeValue ns) = numbers ns

-- what is put in the place of the index variables and of the type variables of a typed term
pub record TypedPuts : Type 0 where
  pub indices : Fates Index
  pub types : Fates Ty

-- the atom type of an array type; any other type is its own
abbrev pub atom_type : Ty → Ty
atom_type (Arr at t i) = t
atom_type t = t

-- the shape of an array type; any other type has the empty shape
abbrev pub shape_of : Ty → Index
shape_of (Arr at t i) = i
shape_of t = vector []

-- the content of a box of this type under indices
abbrev pub content_type : Ty → List Index → Ty
content_type (Sigma at ss t) is = with_indices is t
content_type t is = t

-- an index with these in place
abbrev pub put_in_index : TypedPuts → Index → Index
put_in_index σ i = index_put σ.indices i

-- a type with these in place
abbrev pub put_in_ty : TypedPuts → Ty → Ty
put_in_ty σ t = ty_put σ.indices σ.types t

-- what reduction does with the notes of typed terms
abbrev pub typed_rules : NoteRules typed
typed_rules =
    record {
      Puts = TypedPuts;
      put_indices = λ vs. record { indices = put_all (each value_index vs); types = kept };
      put_types = λ ts. record { indices = kept; types = put_all ts };
      put_none = record { indices = kept; types = kept };
      under_count = λ n σ. record { indices = σ.indices; types = under_n n ty_under_type σ.types };
      under_sorts = λ ss σ. record { indices = indices_under (length ss) σ.indices; types = fates_under_index (length ss) σ.types };
      on_atom = put_in_ty;
      on_frame = put_in_ty;
      on_whole = λ σ w. record { dims = w.dims; cell = put_in_ty σ w.cell };
      on_cell = put_in_index;
      on_result = put_in_ty;
      on_types = λ σ ts. each (put_in_ty σ) ts;
      on_index = put_in_index;
      on_inputs = λ σ i. record { inputs = each (put_in_ty σ) i.inputs; result = put_in_ty σ i.result };
      on_box = put_in_ty;
      cell_dims = shape_val closed;
      result_dims = λ t. shape_val closed (shape_of t);
      whole_dims = λ w. w.dims ++ shape_val closed (shape_of w.cell);
      index_value = closed_value;
      arity = λ i. length i.inputs;
      binders = length;
      valued = value_index;
      result_atom = atom_type;
      frame_atom = atom_type;
      whole_atom = λ w. atom_type w.cell;
      result_frame = λ t. t;
      result_box = atom_type;
      box_atom = λ t vs. atom_type (content_type t (each value_index vs));
      shape_cell = λ i. i;
      typed_result = λ ts k i. Arr no_span (slice_index_or ts k int_ty) i;
    }

-- a typed term
abbrev pub TypedTerm : Type 0
TypedTerm = Term typed
