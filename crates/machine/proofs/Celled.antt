-- How arrays fit the cells of an application.
use Rattle.std.proofs.Common.{◌≡◌, ℕ, ◌-◌, ◌<◌, ◌≤◌, ◌^◌, ◌&&◌, not, refl, ap, sym, subst, ◌∙◌, arith, Bool, true, false, List, ◌∷◌, length, drop, Option, Some, None}
use Rattle.std.specs.List.{All}
use Rattle.std.proofs.lemmas.Bool.{lt-ltb, le-ltb}
use Rattle.std.proofs.lemmas.List.{length-drop}
use Rattle.std.proofs.lemmas.List.Elements.{All-cons, All-drop}
use Rattle.core_syntax.specs.Arrays.{frame_before}
use Rattle.core_syntax.specs.Fits.{all_below}
use Rattle.core_syntax.specs.Lists.{each, same_numbers}
use Rattle.core_syntax.specs.Rules.{and_list}
use Rattle.array_values.specs.Arrays.{IsArray}
use Rattle.machine_table.specs.Instructions.{ranks_fit}
use Rattle.machine_table.specs.Values.{frames_of}
use Rattle.machine.specs.Applied.{FitsCell, IsCelled, Fitting, array_of, both_fit}
use Rattle.machine.specs.declared.applied.Fit.{Fit}
use Rattle.machine.specs.declared.applied.Fit.TheVariants as fit
use Rattle.machine.specs.declared.state.Argument.{Argument}
use Rattle.machine.specs.declared.shapes.Shape.{Shape}
use Rattle.machine.specs.declared.shapes.Shape.TheVariants as shape
use Rattle.machine.specs.Shapes.{IsShape}
use Rattle.machine.proofs.Fronts.{front_is, other_front}
use Rattle.machine.proofs.Gathered.{same_self}
use Rattle.machine.proofs.Rooms.{all_below_is, same_is}

apart : false ≡ true → ⊥
apart e = cc

-- ---- one array

module _ (cell dims : List ℕ) (le : length cell ≤ length dims) where
  -- dims that end in those of the cell
  pub same_end : same_numbers (drop (length dims - length cell) dims) cell ≡ true → FitsCell fit.Fits (length cell) cell dims
  same_end same = (le, same_is (drop (length dims - length cell) dims) cell same)

  -- and that end otherwise
  pub other_end : same_numbers (drop (length dims - length cell) dims) cell ≡ false → FitsCell fit.OtherDims (length cell) cell dims
  other_end other = (le, other_front cell dims (λ same. apart (sym other ∙ ap (λ l. same_numbers l cell) same ∙ same_self cell)))

  -- no array's dims end in numbers of which one is no dim
  pub unfit_end : All (λ d. d < 2 ^ 32) dims → all_below (2 ^ 32) cell ≡ false → FitsCell fit.OtherDims (length cell) cell dims
  unfit_end all unfit =
      let k = length dims - length cell in
      (le, other_front cell dims (λ same. apart (sym unfit ∙ ap (all_below (2 ^ 32)) (sym same) ∙ all_below_is (2 ^ 32) (drop k dims) (All-drop (λ d. d < 2 ^ 32) k dims all))))

-- the same of a shape's value
pub unfit_fits : (s : Shape) (rank : ℕ) (value dims seen : List ℕ) → s ≡ shape.Unfit rank → IsShape s value → seen ≡ dims → All (λ d. d < 2 ^ 32) dims → rank ≤ length seen → FitsCell fit.OtherDims rank value dims
unfit_fits s rank value dims seen at is same all le =
    let no : IsShape (shape.Unfit rank) value = subst (λ x. IsShape x value) at is in
    unfit_end value dims (omega (arith, no.0, le, ap (λ (l : List ℕ). length l) same)) all no.1

-- ---- one array more

module _ (v : List ℕ) (vs : List (List ℕ)) (a : Argument) (as' : List Argument) where
  low : length a.array.dims < length v → ranks_fit (v ∷ vs) (each array_of (a ∷ as')) ≡ false
  low lt = ap (λ (b : Bool). not b && ranks_fit vs (each array_of as')) (lt-ltb (length a.array.dims) (length v) lt)

  high : (b : Bool) → length v ≤ length a.array.dims → ranks_fit vs (each array_of as') ≡ b → ranks_fit (v ∷ vs) (each array_of (a ∷ as')) ≡ b
  high b le e = ap (λ (x : Bool). not x && ranks_fit vs (each array_of as')) (le-ltb (length a.array.dims) (length v) le) ∙ e

  first_none : frame_before v a.array.dims ≡ None → frames_of (v ∷ vs) (each array_of (a ∷ as')) ≡ None
  first_none e = ap (λ o. and_list o (frames_of vs (each array_of as'))) e

  later_none : frames_of vs (each array_of as') ≡ None → frames_of (v ∷ vs) (each array_of (a ∷ as')) ≡ None
  later_none e = ap (and_list (frame_before v a.array.dims)) e ∙ none (frame_before v a.array.dims)
    where
      none : (o : Option (List ℕ)) → and_list o None ≡ None
      none None = refl
      none (Some f) = refl

  long_dims : FitsCell fit.Fits a.rank v a.array.dims → length v ≤ length a.array.dims
  long_dims own = omega (arith, ap (λ (l : List ℕ). length l) own.1, length-drop (length a.array.dims - a.rank) a.array.dims)

  pub fitting_more : (g f : Fit) → IsArray a.array → FitsCell g a.rank v a.array.dims → Fitting f vs as' → Fitting (both_fit g f) (v ∷ vs) (a ∷ as')
  fitting_more fit.Fits fit.Fits whole own others = record {
    ranks = high true (long_dims own) others.ranks;
    frames = (λ i. and_list (front_is v a.array.dims (length a.array.dims - a.rank) own.1 i) (others.frames i));
    cells = (λ i. own.1 i ∷ others.cells i);
    each = All-cons IsCelled a as' (record { whole = whole; ranked = own.0 }) others.each;
  }
  fitting_more fit.Fits fit.OtherRank whole own others = high false (long_dims own) others
  fitting_more fit.Fits fit.OtherDims whole own others = (high true (long_dims own) others.0, later_none others.1)
  fitting_more fit.OtherRank f whole own others = low own
  fitting_more fit.OtherDims fit.OtherRank whole own others = high false own.0 others
  fitting_more fit.OtherDims fit.OtherDims whole own others = (high true own.0 others.0, first_none own.1)
  fitting_more fit.OtherDims fit.Fits whole own others = (high true own.0 others.ranks, first_none own.1)
