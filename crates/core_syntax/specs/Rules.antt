-- The rules of reduction, the same for typed and for erased terms.
use Rattle.std.specs.Prelude.{ℕ, ◌^◌, Bool, true, false, ◌&&◌, ◌==◌, nat_lt, List, [], ◌∷◌, ◌++◌, length, Option, Some, None, is_some}
use Rattle.core_syntax.specs.declared.primitive.Primitive.{Primitive}
use Rattle.core_syntax.specs.declared.primitive.Primitive.TheVariants as p
use Rattle.core_syntax.specs.declared.errors.TrapKind.TheVariants as trap
use Rattle.core_syntax.specs.Lists.{each, joined, product, after_prefix}
use Rattle.core_syntax.specs.Fits.{forms, all_fit}
use Rattle.core_syntax.specs.Subst.{kept, put_first, put_all}
use Rattle.core_syntax.specs.Terms.{IndexValue, Notes, Term, TArray, TNoAtoms, TFrame, TApp, Cell, TInt, TBool, TChar, TPrim, TFn, TTypeFn, TIndexFn, TBoxed, NoteRules, term_list, cell_items, cell_list, scalar_of}
use Rattle.core_syntax.specs.TermPut.{term_put}
use Rattle.core_syntax.specs.Arrays.{Arrayed, array, frame_before, cells_over, replicated, greatest, all_frames_are, columns}
use Rattle.core_syntax.specs.Answer.{Look, AnInt, ABool, AChar, Other, AtomRules, Answer, Gives, Traps, Folds, Unfit}
use Rattle.core_syntax.specs.Delta.{delta}
use Rattle.core_syntax.specs.Move.{Move, Rests, Trapped, Goes, Lost, if_there}

-- whether a primitive has type variables
abbrev pub has_types : Primitive → Bool
has_types p.Select = true
has_types p.Append = true
has_types p.Reverse = true
has_types p.Take = true
has_types p.Drop = true
has_types p.Transpose = true
has_types p.Replicate = true
has_types p.Length = true
has_types p.Positions = true
has_types p.IndexOr = true
has_types p.Reduce = true
has_types p.Fold = true
has_types p.Reshape = true
has_types p.Ravel = true
has_types p.Filter = true
has_types _ = false

-- whether it has index variables
abbrev pub has_indices : Primitive → Bool
has_indices p.Iota = true
has_indices p.Select = false
has_indices p = has_types p

-- what is asked for is there, and nothing else
abbrev pub agrees : Bool → Bool → Bool
agrees true b = b
agrees false true = false
agrees false false = true

-- both, or none
abbrev pub and_list : {A : Type 0} → Option A → Option (List A) → Option (List A)
and_list None xs = None
and_list (Some x) None = None
and_list (Some x) (Some xs) = Some (x ∷ xs)

-- the values of index arguments, none where there are none
abbrev pub values_of : {I : Type 0} → (I → IndexValue) → Option (List I) → List IndexValue
values_of f None = []
values_of f (Some is) = each f is

module _ {N : Notes} (O : NoteRules N) where
  -- the dims of a value
  abbrev pub dims_of : Term N → List ℕ
  dims_of (TArray dims xs) = dims
  dims_of (TNoAtoms dims a) = dims
  dims_of _ = []

  -- and its atoms
  abbrev pub atoms_of : Term N → List (Cell N)
  atoms_of (TArray dims xs) = cell_items xs
  atoms_of _ = []

  -- an array made of a value's atoms, which is empty where the value is, and then keeps its atom type
  abbrev pub part_of : Term N → Arrayed (Cell N) → Term N
  part_of (TNoAtoms dims n) a = TNoAtoms a.dims n
  part_of _ a = TArray a.dims (cell_list a.atoms)

  -- an array as a term, with this atom type where it is empty
  abbrev pub array_term_of : N.atom → List ℕ → List (Cell N) → Term N
  array_term_of n dims [] = TNoAtoms dims n
  array_term_of n dims (a ∷ xs) = TArray dims (cell_list (a ∷ xs))

  -- an array as a term
  abbrev pub array_term : N.atom → Arrayed (Cell N) → Term N
  array_term n a = array_term_of n a.dims a.atoms

  -- the empty array of these dims, where they meet `forms`
  abbrev pub goes_empty : List ℕ → N.atom → Move (Term N)
  goes_empty dims n = elim (forms dims) [ true ↦ Goes (TNoAtoms dims n) | false ↦ Trapped trap.Size ]

  -- the frames of arguments with these cell shapes
  abbrev pub frames_of : List (List ℕ) → List (Term N) → Option (List (List ℕ))
  frames_of [] [] = Some []
  frames_of (c ∷ cs) (t ∷ ts) = and_list (frame_before c (dims_of t)) (frames_of cs ts)
  frames_of _ _ = None

  -- `lift`: a value over a frame, replicated to the frame F
  abbrev pub lifted_by : List ℕ → List ℕ → List ℕ → Option (List ℕ) → Term N → Term N
  lifted_by F frame cell None t = t
  lifted_by F frame cell (Some rest) t = part_of t (array (F ++ cell) (replicated frame rest cell (atoms_of t)))

  -- the same where the frame is a prefix of F
  abbrev pub lifted : List ℕ → List ℕ → List ℕ → Term N → Term N
  lifted F frame cell t = lifted_by F frame cell (after_prefix frame F) t

  -- each argument over its frame, replicated to the frame F
  abbrev pub all_lifted : List ℕ → List (List ℕ) → List (List ℕ) → List (Term N) → List (Term N)
  all_lifted F (f ∷ fs) (c ∷ cs) (t ∷ ts) = lifted F f c t ∷ all_lifted F fs cs ts
  all_lifted F _ _ _ = []

  -- `map`: the cells of an argument over a frame, as terms
  abbrev pub cells_of : List ℕ → List ℕ → Term N → List (Term N)
  cells_of F cell t = each (part_of t) (cells_over F cell (atoms_of t))

  -- the cells of each argument
  abbrev pub all_cells : List ℕ → List (List ℕ) → List (Term N) → List (List (Term N))
  all_cells F (c ∷ cs) (t ∷ ts) = cells_of F c t ∷ all_cells F cs ts
  all_cells F _ _ = []

  -- the same application on the cells at each place
  abbrev pub apps : List (Cell N) → List (List (Term N)) → List N.cell → N.result → List (Term N)
  apps (f ∷ fs) (ts ∷ tss) cs r = TApp (scalar_of f) (term_list ts) cs r ∷ apps fs tss cs r
  apps _ _ cs r = []

  -- the nested applications of a fold
  abbrev pub fold_term : Cell N → List N.cell → N.result → Term N → List (Term N) → Term N
  fold_term f cs r acc [] = acc
  fold_term f cs r acc (t ∷ ts) = fold_term f cs r (TApp (scalar_of f) (term_list (acc ∷ t ∷ [])) cs r) ts

  -- `reduce` with type arguments us and the shape s of its cells
  abbrev pub reduce_term : Cell N → N.types → N.index → List (Arrayed (Cell N)) → Move (Term N)
  reduce_term f us s [] = Lost
  reduce_term f us s (x ∷ xs) =
      let r = O.typed_result us 0 s in
      let item = array_term (O.result_atom r) in
      Goes (fold_term f (O.shape_cell s ∷ O.shape_cell s ∷ []) r (item x) (each item xs))

  -- `fold` with its items' shape s and its accumulator's shape r
  abbrev pub fold_from : Cell N → N.types → N.index → N.index → Arrayed (Cell N) → List (Arrayed (Cell N)) → Move (Term N)
  fold_from f us s r z xs =
      let out = O.typed_result us 1 r in
      Goes
      (fold_term f (O.shape_cell r ∷ O.shape_cell s ∷ []) out (array_term (O.result_atom out) z)
      (each (array_term (O.result_atom (O.typed_result us 0 s))) xs))

  -- either of them, where the primitive has its type arguments and its index arguments
  abbrev pub goes_fold : Option N.types → Option (List N.index) → Cell N → Option (Arrayed (Cell N)) → List (Arrayed (Cell N)) → Move (Term N)
  goes_fold (Some us) (Some (d ∷ s ∷ [])) f None xs = reduce_term f us s xs
  goes_fold (Some us) (Some (d ∷ s ∷ r ∷ [])) f (Some z) xs = fold_from f us s r z xs
  goes_fold _ _ f acc xs = Lost

  -- how primitives see a term's atoms
  abbrev pub look : Cell N → Look
  look (TInt z) = AnInt z
  look (TBool b) = ABool b
  look (TChar c) = AChar c
  look _ = Other

  -- a box under these values of its indices
  abbrev pub boxed : N.box → List IndexValue → Arrayed (Cell N) → Cell N
  boxed b vs a = TBoxed (each O.valued vs) (array_term (O.box_atom b vs) a) b

  -- how primitives look at atoms of a term and make them
  abbrev pub atom_rules : N.result → AtomRules (Cell N)
  atom_rules r = record { look = look; int = TInt; bool = TBool; box = boxed (O.result_box r) }

  -- a primitive's answer as a move
  abbrev pub answered : N.result → Option N.types → Option (List N.index) → Answer (Cell N) → Move (Term N)
  answered r us is (Gives a) = Goes (array_term (O.result_atom r) a)
  answered r us is (Traps k) = Trapped k
  answered r us is (Folds f acc xs) = goes_fold us is f acc xs
  answered r us is Unfit = Lost

  -- `beta` and `delta`: a scalar function on its cells
  abbrev pub apply_atom : List (Cell N) → List (Term N) → N.result → Move (Term N)
  apply_atom (TFn i t ∷ []) ts r = elim (O.arity i == length ts) [ true ↦ Goes (term_put O O.put_none (put_all ts) t) | false ↦ Lost ]
  apply_atom (TPrim q us is ∷ []) ts r =
      elim (agrees (has_types q) (is_some us) && agrees (has_indices q) (is_some is)) [
        | true ↦ answered r us is (delta (atom_rules r) q (values_of O.index_value is) (each (λ t. array (dims_of t) (atoms_of t)) ts))
        | false ↦ Lost
      ]
  apply_atom _ ts r = Lost

  -- the rules of an application of values whose frames are these and whose principal frame is F
  abbrev pub apply_over : List ℕ → List (List ℕ) → Term N → List (Term N) → List N.cell → N.result → Move (Term N)
  apply_over [] frames f ts cs r = apply_atom (atoms_of f) ts r
  apply_over (n ∷ F) frames f ts cs r =
      elim (all_frames_are (n ∷ F) (dims_of f ∷ frames)) [
        | true ↦ Goes (TFrame (n ∷ F) (term_list (apps (atoms_of f) (columns (product (n ∷ F)) (all_cells (n ∷ F) (each O.cell_dims cs) ts)) cs r)) (O.result_frame r))
        | false ↦ Goes (TApp (lifted (n ∷ F) (dims_of f) [] f) (term_list (all_lifted (n ∷ F) frames (each O.cell_dims cs) ts)) cs r)
      ]

  -- the `size` and the `empty` of an application, and else those rules
  abbrev pub apply_at : List ℕ → List (List ℕ) → Term N → List (Term N) → List N.cell → N.result → Move (Term N)
  apply_at F frames f ts cs r =
      elim (nat_lt (2 ^ 24) (product F)) [
        | true ↦ Trapped trap.Size
        | false ↦ elim (product F == 0) [ true ↦ goes_empty (F ++ O.result_dims r) (O.result_atom r) | false ↦ apply_over F frames f ts cs r ]
      ]

  -- the rules of an application of values
  abbrev pub apply : Term N → List (Term N) → List N.cell → N.result → Move (Term N)
  apply f ts cs r =
      if_there (frames_of (each O.cell_dims cs) ts) (λ frames. if_there (greatest (dims_of f ∷ frames)) (λ F. apply_at F frames f ts cs r))

  -- the rules of a `t-app`, an `i-app` and an `unbox` of a value with a cell: `form` is the form on a scalar array, and `act` what it does on one
  abbrev pub over_atoms : List ℕ → List (Cell N) → (Term N → Term N) → (List (Cell N) → Move (Term N)) → N.result → Move (Term N)
  over_atoms [] xs form act r = act xs
  over_atoms (n ∷ F) xs form act r = Goes (TFrame (n ∷ F) (term_list (each (λ a. form (scalar_of a)) xs)) (O.result_frame r))

  -- the `empty` of such a form, and else those rules
  abbrev pub over_value : Term N → (Term N → Term N) → (List (Cell N) → Move (Term N)) → N.result → Move (Term N)
  over_value t form act r =
      elim (product (dims_of t) == 0)
      [ true ↦ goes_empty (dims_of t ++ O.result_dims r) (O.result_atom r) | false ↦ over_atoms (dims_of t) (atoms_of t) form act r ]

  -- `t-beta`
  abbrev pub type_beta : N.types → List (Cell N) → Move (Term N)
  type_beta us (TTypeFn n t ∷ []) = Goes (term_put O (O.put_types us) kept t)
  type_beta us (TPrim q None None ∷ []) = Goes (scalar_of (TPrim q (Some us) None))
  type_beta us _ = Lost

  -- `i-beta` with the values of the indices
  abbrev pub index_beta_at : List IndexValue → List (Cell N) → Move (Term N)
  index_beta_at vs (TIndexFn ss t ∷ []) = Goes (term_put O (O.put_indices vs) kept t)
  index_beta_at vs (TPrim q us None ∷ []) = Goes (scalar_of (TPrim q us (Some (each O.valued vs))))
  index_beta_at vs _ = Lost

  -- `i-beta`
  abbrev pub index_beta : List N.index → List (Cell N) → Move (Term N)
  index_beta is xs = elim (all_fit (each O.index_value is)) [ true ↦ index_beta_at (each O.index_value is) xs | false ↦ Trapped trap.Size ]

  -- `unbox`
  abbrev pub unbox_one : Term N → List (Cell N) → Move (Term N)
  unbox_one body (TBoxed is t b ∷ []) = Goes (term_put O (O.put_indices (each O.index_value is)) (put_first (t ∷ [])) body)
  unbox_one body _ = Lost

  -- the `size` of a frame whose first cell is a value, and else a later move
  abbrev pub if_room : List ℕ → Move (Term N) → Move (Term N)
  if_room dims later = elim (forms dims) [ true ↦ later | false ↦ Trapped trap.Size ]

  -- `collapse`
  abbrev pub collapse : List ℕ → Term N → List (Term N) → N.frame → Term N
  collapse F t ts n = array_term (O.frame_atom n) (array (F ++ dims_of t) (joined (each atoms_of (t ∷ ts))))

  -- `box-index`
  abbrev pub box_rests : List N.index → Move (Cell N)
  box_rests is = elim (all_fit (each O.index_value is)) [ true ↦ Rests | false ↦ Trapped trap.Size ]
