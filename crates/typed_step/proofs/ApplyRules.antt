-- The rules of an application of trees: its frames, `map` and `lift`.
use Rattle.std.proofs.Common.{◌≡◌, refl, sym, ap, ◌∙◌, ℕ, ◌+◌, ◌^◌, ◌≤◌, min, Bool, true, false, List, [], ◌∷◌, ◌++◌, length, Option, Some, arith}
use Rattle.std.proofs.lemmas.Bool.{false≢true, le-ltb, ne_eqb}
use Rattle.std.specs.Prelude.{◌==◌}
use Rattle.core_syntax.specs.declared.errors.TrapKind.TheVariants as trap
use Rattle.core_syntax.specs.declared.index.Index.{Index as Tree}
use Rattle.core_syntax.specs.Arrays.{greatest, all_frames_are, columns}
use Rattle.core_syntax.specs.Lists.{each, product}
use Rattle.core_syntax.specs.Move.{Move, Goes, Trapped, if_there}
use Rattle.core_syntax.specs.Refine.{index_of}
use Rattle.core_syntax.specs.Rules.{dims_of, atoms_of, frames_of, goes_empty, apply, apply_at, apply_over, lifted, all_lifted, all_cells, apps}
use Rattle.core_syntax.specs.Syntax.{Ty}
use Rattle.core_syntax.specs.Terms.{TFrame, TApp, term_list}
use Rattle.core_syntax.specs.Typed.{closed, shape_of, atom_type, typed_rules, TypedTerm}
use Rattle.core_syntax.specs.Value.{shape_val}

each_of : {A B C : Type 0} (f : B → C) (g : A → B) (xs : List A) → each (λ x. f (g x)) xs ≡ each f (each g xs)
each_of f g [] = refl
each_of f g (x ∷ xs) = ap (λ l. f (g x) ∷ l) (each_of f g xs)

-- the dims of the cells' shapes
abbrev pub cell_dims : List Tree → List (List ℕ)
cell_dims cs = each (λ c. shape_val closed (index_of c)) cs

module _ (f : TypedTerm) (ts : List TypedTerm) (cs : List Tree) (r : Ty) where
  abbrev over_frames : Option (List (List ℕ)) → Move TypedTerm
  over_frames o =
      if_there o (λ frames. if_there (greatest (dims_of typed_rules f ∷ frames)) (λ F. apply_at typed_rules F frames f ts (each index_of cs) r))

  -- the frames of the arguments are these
  pub frames_are : (o : Option (List (List ℕ))) → o ≡ frames_of typed_rules (cell_dims cs) ts → over_frames o ≡ apply typed_rules f ts (each index_of cs) r
  frames_are o e = ap over_frames (e ∙ ap (λ ds. frames_of typed_rules ds ts) (each_of (shape_val closed) index_of cs))

  -- and the principal frame is this one
  pub frame_is : (frames : List (List ℕ)) (F : Option (List ℕ)) → Some frames ≡ frames_of typed_rules (cell_dims cs) ts → F ≡ greatest (dims_of typed_rules f ∷ frames)
      → if_there F (λ F. apply_at typed_rules F frames f ts (each index_of cs) r) ≡ apply typed_rules f ts (each index_of cs) r
  frame_is frames F e g = ap (λ F. if_there F (λ F. apply_at typed_rules F frames f ts (each index_of cs) r)) g ∙ frames_are (Some frames) e

  -- `map` over a frame of arguments with these cells
  abbrev pub mapped : List ℕ → List (List ℕ) → TypedTerm
  mapped F cells = TFrame F (term_list (apps typed_rules (atoms_of typed_rules f) (columns (product F) (all_cells typed_rules F cells ts)) (each index_of cs) r)) r

  -- `lift` to it
  abbrev pub replicated : List ℕ → List (List ℕ) → List (List ℕ) → TypedTerm
  replicated F frames cells = TApp (lifted typed_rules F (dims_of typed_rules f) [] f) (term_list (all_lifted typed_rules F frames cells ts)) (each index_of cs) r

  abbrev chosen : List ℕ → List (List ℕ) → Bool → Move TypedTerm
  chosen F frames b =
      let cells = each (shape_val closed) (each index_of cs) in
      elim b [ true ↦ Goes (mapped F cells) | false ↦ Goes (replicated F frames cells) ]

  over_some : (F : List ℕ) (frames : List (List ℕ)) (b : Bool) → false ≡ (length F == 0) → b ≡ all_frames_are F (dims_of typed_rules f ∷ frames) → chosen F frames b ≡ apply_over typed_rules F frames f ts (each index_of cs) r
  over_some [] frames b some e = absurd (false≢true some)
  over_some (n ∷ F) frames b some e = ap (chosen (n ∷ F) frames) e

  module _ (F : List ℕ) (frames : List (List ℕ)) (n : ℕ) (is : n ≡ min (product F) (2 ^ 24 + 1)) (few : n ≤ 2 ^ 24) (cells : n ≡ 0 → ⊥) where
    abbrev at_frame : Move TypedTerm
    at_frame = apply_at typed_rules F frames f ts (each index_of cs) r

    abbrev by_count : Bool → Bool → Move TypedTerm
    by_count large none =
        elim large [
          | true ↦ Trapped trap.Size
          | false ↦ elim none [ true ↦ goes_empty typed_rules (F ++ shape_val closed (shape_of r)) (atom_type r) | false ↦ apply_over typed_rules F frames f ts (each index_of cs) r ]
        ]

    full_frame : apply_over typed_rules F frames f ts (each index_of cs) r ≡ at_frame
    full_frame =
        let few' : product F ≤ 2 ^ 24 = omega (arith, is, few) in
        let same : n ≡ product F = omega (arith, is, few) in
        sym (λ i. by_count (le-ltb (2 ^ 24) (product F) few' i) (ne_eqb (product F) 0 (λ z. cells (same ∙ z)) i))

    module _ (dims : false ≡ (length F == 0)) (b : Bool) (all : b ≡ all_frames_are F (dims_of typed_rules f ∷ frames)) (backs : List (List ℕ)) (shapes : backs ≡ cell_dims cs) (t : TypedTerm) where
      of_backs : backs ≡ each (shape_val closed) (each index_of cs)
      of_backs = shapes ∙ each_of (shape_val closed) index_of cs

      -- all frames are this one
      pub map_goes : b ≡ true → t ≡ mapped F backs → Goes t ≡ at_frame
      map_goes h e = ap (λ (u : TypedTerm). Goes u) (e ∙ ap (mapped F) of_backs) ∙ sym (ap (chosen F frames) h) ∙ over_some F frames b dims all ∙ full_frame

      -- and one is another
      pub lift_goes : b ≡ false → t ≡ replicated F frames backs → Goes t ≡ at_frame
      lift_goes h e = ap (λ (u : TypedTerm). Goes u) (e ∙ ap (replicated F frames) of_backs) ∙ sym (ap (chosen F frames) h) ∙ over_some F frames b dims all ∙ full_frame
