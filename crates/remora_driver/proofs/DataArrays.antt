-- Arrays with the same data are the same, where that data fits types: then it holds no function, and all else of an array is in its data.
use Rattle.std.proofs.Common.{◌≡◌, refl, sym, ap, ◌∙◌, subst, pos, List, [], ◌∷◌, map}
use Rattle.core_syntax.specs.declared.ty.Base.TheVariants as base
use Rattle.core_syntax.specs.Data.{Data, DataArray, DataAtom, DataInt, DataBool, DataChar, DataBox, DataFn, DataAtoms, no_data, more_data, FitsType, AtomFits, AtomsFit, FitsValues}
use Rattle.core_syntax.specs.Lists.{each}
use Rattle.core_syntax.specs.Subst.{with_indices}
use Rattle.core_syntax.specs.Syntax.{Ty, BaseTy, TyVar, Fun, Forall, Pi, Sigma, Arr}
use Rattle.core_syntax.specs.Typed.{value_index}
use Rattle.array_values.specs.declared.closure.Closure.{Closure, Closure-F, roll-Closure, map-Closure, fold-Closure, fold-roll-Closure}
use Rattle.array_values.specs.declared.index_value.IndexValue.{IndexValue}
use Rattle.array_values.specs.declared.index_value.IndexValue.TheVariants.{Dim, Shape}
use Rattle.array_values.specs.declared.value.BoxedValue.{BoxedValue, BoxedValue-F, roll-BoxedValue, map-BoxedValue, fold-BoxedValue, fold-roll-BoxedValue}
use Rattle.array_values.specs.declared.value.Value.{Value, roll-Value, map-Value, fold-roll-Value, ind-Value}
use Rattle.array_values.specs.declared.value.Value.TheOpen.{Value-F, Int, Bool as Truth, Char, Prim, Closure as Closed, Boxed}
use Rattle.array_values.specs.Data.{index_data, data_list, atom_data, array_data, atom_step, closure_step, box_step}
use Rattle.array_values.specs.Envs.{index_of}
use Rattle.array_values.specs.Values.{Array}

-- ---- data without functions

abbrev mutual
  NoFn : Data → Type 0
  NoFn (DataArray dims xs) = NoFnIn xs

  NoFnAtom : DataAtom → Type 0
  NoFnAtom (DataInt z) = Unit {0}
  NoFnAtom (DataBool b) = Unit {0}
  NoFnAtom (DataChar c) = Unit {0}
  NoFnAtom (DataBox vs content) = NoFn content
  NoFnAtom DataFn = ⊥

  NoFnIn : DataAtoms → Type 0
  NoFnIn no_data = Unit {0}
  NoFnIn (more_data a xs) = NoFnAtom a × NoFnIn xs

mutual
  -- data that fits is such
  fits_no_fn : (t : Ty) (d : Data) → FitsType t d → NoFn d
  fits_no_fn (Arr at t i) (DataArray dims xs) h = atoms_no_fn t xs h.3
  fits_no_fn (BaseTy at b) (DataArray dims xs) h = absurd h
  fits_no_fn (TyVar at k) (DataArray dims xs) h = absurd h
  fits_no_fn (Fun at ts r) (DataArray dims xs) h = absurd h
  fits_no_fn (Forall at n t) (DataArray dims xs) h = absurd h
  fits_no_fn (Pi at ss t) (DataArray dims xs) h = absurd h
  fits_no_fn (Sigma at ss t) (DataArray dims xs) h = absurd h

  atom_no_fn : (t : Ty) (a : DataAtom) → AtomFits t a → NoFnAtom a
  atom_no_fn t (DataInt z) h = tt
  atom_no_fn t (DataBool b) h = tt
  atom_no_fn t (DataChar c) h = tt
  atom_no_fn (Sigma at ss t) (DataBox vs content) h = fits_no_fn (with_indices (each value_index vs) t) content h.2
  atom_no_fn (BaseTy at base.Int) (DataBox vs content) h = absurd h
  atom_no_fn (BaseTy at base.Bool) (DataBox vs content) h = absurd h
  atom_no_fn (BaseTy at base.Char) (DataBox vs content) h = absurd h
  atom_no_fn (TyVar at k) (DataBox vs content) h = absurd h
  atom_no_fn (Fun at ts r) (DataBox vs content) h = absurd h
  atom_no_fn (Forall at n t) (DataBox vs content) h = absurd h
  atom_no_fn (Pi at ss t) (DataBox vs content) h = absurd h
  atom_no_fn (Arr at t i) (DataBox vs content) h = absurd h
  atom_no_fn (Sigma at ss t) DataFn h = absurd h
  atom_no_fn (BaseTy at base.Int) DataFn h = absurd h
  atom_no_fn (BaseTy at base.Bool) DataFn h = absurd h
  atom_no_fn (BaseTy at base.Char) DataFn h = absurd h
  atom_no_fn (TyVar at k) DataFn h = absurd h
  atom_no_fn (Fun at ts r) DataFn h = absurd h
  atom_no_fn (Forall at n t) DataFn h = absurd h
  atom_no_fn (Pi at ss t) DataFn h = absurd h
  atom_no_fn (Arr at t i) DataFn h = absurd h

  atoms_no_fn : (t : Ty) (xs : DataAtoms) → AtomsFit t xs → NoFnIn xs
  atoms_no_fn t no_data h = tt
  atoms_no_fn t (more_data a xs) h = (atom_no_fn t a h.0, atoms_no_fn t xs h.1)

-- ---- arrays back from their data

indices_back : (is : List IndexValue) → each index_of (each index_data is) ≡ is
indices_back [] = refl
indices_back (Dim n ∷ is) = ap (λ (js : List IndexValue). Dim n ∷ js) (indices_back is)
indices_back (Shape ds ∷ is) = ap (λ (js : List IndexValue). Shape ds ∷ js) (indices_back is)

-- a box of these indices with this content
abbrev box_with : List IndexValue → Array → Value
box_with is content = roll-Value (Boxed (roll-BoxedValue (record { indices = is; content = content })))

-- the array of data; that of a function is never asked for
abbrev mutual
  array_back : Data → Array
  array_back (DataArray dims xs) = record { dims = dims; atoms = atoms_back xs }

  atom_back : DataAtom → Value
  atom_back (DataInt z) = roll-Value (Int z)
  atom_back (DataBool b) = roll-Value (Truth b)
  atom_back (DataChar c) = roll-Value (Char c)
  atom_back (DataBox vs content) = box_with (each index_of vs) (array_back content)
  atom_back DataFn = roll-Value (Int (pos 0))

  atoms_back : DataAtoms → List Value
  atoms_back no_data = []
  atoms_back (more_data a xs) = atom_back a ∷ atoms_back xs

-- the data of a box and of a closure
abbrev box_data : BoxedValue → DataAtom
box_data = fold-BoxedValue DataAtom DataAtom DataAtom atom_step closure_step box_step

abbrev closure_data : Closure → DataAtom
closure_data = fold-Closure DataAtom DataAtom DataAtom atom_step closure_step box_step

-- an atom without functions is that of its data, and so is a box; a closure is a function
abbrev IsBack : Value → Type 0
IsBack v = NoFnAtom (atom_data v) → atom_back (atom_data v) ≡ v

abbrev ClosureIsBack : Closure → Type 0
ClosureIsBack c = NoFnAtom (closure_data c) → ⊥

abbrev BoxIsBack : BoxedValue → Type 0
BoxIsBack b = NoFnAtom (box_data b) → atom_back (box_data b) ≡ roll-Value (Boxed b)

-- a layer of an atom, of a closure and of a box
abbrev Atoms : Type 0
Atoms = (v : Value) × IsBack v

abbrev Closures : Type 0
Closures = (c : Closure) × ClosureIsBack c

abbrev Boxes : Type 0
Boxes = (b : BoxedValue) × BoxIsBack b

abbrev atom_of : Value-F Atoms Closures Boxes → Value-F Value Closure BoxedValue
atom_of = map-Value Atoms Closures Boxes Value Closure BoxedValue (λ e. e.0) (λ e. e.0) (λ e. e.0)

abbrev closure_of : Closure-F Atoms Closures Boxes → Closure-F Value Closure BoxedValue
closure_of = map-Closure Atoms Closures Boxes Value Closure BoxedValue (λ e. e.0) (λ e. e.0) (λ e. e.0)

abbrev box_of : BoxedValue-F Atoms Closures Boxes → BoxedValue-F Value Closure BoxedValue
box_of = map-BoxedValue Atoms Closures Boxes Value Closure BoxedValue (λ e. e.0) (λ e. e.0) (λ e. e.0)

atom_layer : (y : Value-F Atoms Closures Boxes) → IsBack (roll-Value (atom_of y))
atom_layer y =
    subst (λ (d : DataAtom). NoFnAtom d → atom_back d ≡ roll-Value (atom_of y)) (sym (fold-roll-Value DataAtom DataAtom DataAtom atom_step closure_step box_step (atom_of y))) (layer y)
  where
    layer : (y : Value-F Atoms Closures Boxes) → NoFnAtom (atom_step (map-Value Value Closure BoxedValue DataAtom DataAtom DataAtom atom_data closure_data box_data (atom_of y)))
        → atom_back (atom_step (map-Value Value Closure BoxedValue DataAtom DataAtom DataAtom atom_data closure_data box_data (atom_of y))) ≡ roll-Value (atom_of y)
    layer (Int z) h = refl
    layer (Truth b) h = refl
    layer (Char c) h = refl
    layer (Prim p) h = absurd h
    layer (Closed e) h = absurd (e.1 h)
    layer (Boxed e) h = e.1 h

closure_layer : (y : Closure-F Atoms Closures Boxes) → ClosureIsBack (roll-Closure (closure_of y))
closure_layer y =
    subst (λ (d : DataAtom). NoFnAtom d → ⊥) (sym (fold-roll-Closure DataAtom DataAtom DataAtom atom_step closure_step box_step (closure_of y))) (λ h. h)

content_back : (es : List Atoms) → NoFnIn (data_list (map atom_data (map (λ e. e.0) es))) → atoms_back (data_list (map atom_data (map (λ e. e.0) es))) ≡ map (λ e. e.0) es
content_back [] h = refl
content_back (e ∷ es) h = λ i. e.1 h.0 i ∷ content_back es h.1 i

box_layer : (y : BoxedValue-F Atoms Closures Boxes) → BoxIsBack (roll-BoxedValue (box_of y))
box_layer y =
    subst (λ (d : DataAtom). NoFnAtom d → atom_back d ≡ roll-Value (Boxed (roll-BoxedValue (box_of y)))) (sym (fold-roll-BoxedValue DataAtom DataAtom DataAtom atom_step closure_step box_step (box_of y)))
    (λ h. λ i. box_with (indices_back y.indices i) (record { dims = y.content.dims; atoms = content_back y.content.atoms h i }))

is_back : (v : Value) → IsBack v
is_back =
    ind-Value IsBack ClosureIsBack BoxIsBack (λ x y is. subst (λ (z : Value-F Value Closure BoxedValue). IsBack (roll-Value z)) is (atom_layer y))
    (λ x y is. subst (λ (z : Closure-F Value Closure BoxedValue). ClosureIsBack (roll-Closure z)) is (closure_layer y))
    (λ x y is. subst (λ (z : BoxedValue-F Value Closure BoxedValue). BoxIsBack (roll-BoxedValue z)) is (box_layer y))

list_back : (vs : List Value) → NoFnIn (data_list (each atom_data vs)) → atoms_back (data_list (each atom_data vs)) ≡ vs
list_back [] h = refl
list_back (v ∷ vs) h = λ i. is_back v h.0 i ∷ list_back vs h.1 i

arrays_back : (types : List Ty) (xs : List Array) → FitsValues types (each array_data xs) → each array_back (each array_data xs) ≡ xs
arrays_back [] [] h = refl
arrays_back [] (x ∷ xs) h = absurd h
arrays_back (t ∷ types) [] h = absurd h
arrays_back (t ∷ types) (x ∷ xs) h = λ i. record { dims = x.dims; atoms = list_back x.atoms (fits_no_fn t (array_data x) h.0) i } ∷ arrays_back types xs h.1 i

-- arrays with the same data that fits types are the same
pub same_arrays : (types : List Ty) (xs ys : List Array) → FitsValues types (each array_data xs) → each array_data xs ≡ each array_data ys → xs ≡ ys
same_arrays types xs ys fits same =
    sym (arrays_back types xs fits) ∙ ap (each array_back) same ∙ arrays_back types ys (subst (FitsValues types) same fits)
