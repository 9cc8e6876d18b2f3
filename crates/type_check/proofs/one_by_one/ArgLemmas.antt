-- An argument's type against its input type: its frame, or that it doesn't fit.
use Rattle.std.proofs.Common.{◌≡◌, refl, sym, ap, ◌∙◌, subst, Result, Ok, Err, None, Some, ℕ, List, [], ◌∷◌, ◌++◌, append-nil, length, take, inl, inr}
use Rattle.std.proofs.Math.Seq.{take-append_seam}
use Rattle.core_syntax.specs.declared.span.Span.{Span}
use Rattle.core_syntax.specs.declared.index.Sort.{Sort}
use Rattle.core_syntax.specs.declared.index.Sort.TheVariants as sort
use Rattle.core_syntax.specs.Syntax.{Index, Ty, Arr, Tys, no_tys, more_tys, Expr, expr_at, Exprs, no_exprs, more_exprs}
use Rattle.core_syntax.specs.Sorts.{IsSorted}
use Rattle.core_syntax.specs.Kinds.{IsWellFormed}
use Rattle.core_syntax.specs.Value.{SameShape, IndexEqual, then_shape}
use Rattle.core_syntax.specs.TypeEqual.{Same}
use Rattle.core_syntax.specs.Word.{Word}
use Rattle.core_syntax.specs.Norm.{norm_word}
use Rattle.core_syntax.specs.NormTypes.{norm_ty}
use Rattle.core_syntax.specs.Prims.{array_of}
use Rattle.core_syntax.specs.Typing.{Context, Has}
use Rattle.core_syntax.specs.Blame.{FitsInput, args_premises}
use Rattle.core_syntax.specs.Notes.{NodeNote}
use Rattle.core_syntax.proofs.Equality.{same_refl}
use Rattle.core_syntax.proofs.NormTyLemmas.{same_words, same_normal}
use Rattle.core_syntax.proofs.Closed.{has_same}
use Rattle.type_check.specs.Contexts.{IsSound}
use Rattle.type_check.specs.Found.{Found}
use Rattle.type_check.specs.declared.refusal.TypeRefusal.{TypeRefusal}
use Rattle.type_check.specs.declared.refusal.TypeRefusal.TheVariants.{Refused, Memory}
use Rattle.type_check.specs.FoundParts.{FoundArgs, TestsArg}
use Rattle.type_check.specs.Forms.{SplitsAt}
use Rattle.shape_words.proofs.SameLemmas.{indices_split}
use Rattle.type_check.proofs.one_by_one.PartsTested.{not_same}

-- the element of a normal array type is normal
pub element_normal : (at : Span) (a : Ty) (s : Index) → norm_ty (Arr at a s) ≡ Arr at a s → norm_ty a ≡ a
element_normal at a s e = cc

-- the word of the frame in front of a cell
frame_word : (f c s : Index) (n : ℕ) → SameShape (then_shape f c) s → length (norm_word f) ≡ n → norm_word f ≡ take n (norm_word s)
frame_word f c s n h e =
    sym (take-append_seam (norm_word f) (norm_word c ++ [])) ∙ ap (take (length (norm_word f))) (same_words (then_shape f c) s h) ∙ ap (λ n. take n (norm_word s)) e

-- the input type is an array of a of shape c, the argument's type one of b of shape s
module _ (Γ : Context) (e : Expr) (at at' : Span) (a b : Ty) (c s : Index) (ns : List NodeNote) (found : Found Γ e (Arr at' b s) ns)
    (input : IsWellFormed Γ.types Γ.sorts (Arr at a c)) where
  pub arg_fits : (n : ℕ) (w : Word) → b ≡ a → (f : Index) × IndexEqual Γ.sorts sort.Shape (then_shape f c) s × (length (norm_word f) ≡ n) → w ≡ take n (norm_word s) →
      FoundArgs Γ (more_tys (Arr at a c) no_tys) (more_exprs e no_exprs) (w ∷ []) ns
  arg_fits n w same (f, equal, len) is = record {
    met = (found.met, ((Arr at' b s, found.has, (subst (Same b) same (same_refl b), (f, equal))), tt));
    frames = f ∷ [];
    have = (has_same Γ e (Arr at' b s) (array_of a (then_shape f c)) found.has (subst (Same b) same (same_refl b), λ v. sym (equal.2 v)) (input.0, equal.0, input.2), tt);
    sorted = (equal.0.1.0, tt);
    normal = ap (λ w. w ∷ []) (frame_word f c s n equal.2 len ∙ sym is);
    notes = (ns, [], sym (append-nil ns), found.notes, refl);
  }

  pub arg_other : ¬ FitsInput Γ (Arr at a c) (Arr at' b s) → (ts : Tys) (es : Exprs) → (args_premises Γ (more_exprs e es) (more_tys (Arr at a c) ts)).blames (21, expr_at e)
  arg_other not ts es = inr (found.met, inl (Arr at' b s, found.has, (not, refl)))

  pub arg_element : norm_ty (Arr at a c) ≡ Arr at a c → norm_ty (Arr at' b s) ≡ Arr at' b s → ¬ (b ≡ a) → ¬ FitsInput Γ (Arr at a c) (Arr at' b s)
  arg_element p q ne h = not_same b a (element_normal at' b s q) (element_normal at a c p) ne h.0

  pub arg_cell : ((f : Index) → ¬ IndexEqual Γ.sorts sort.Shape (then_shape f c) s) → ¬ FitsInput Γ (Arr at a c) (Arr at' b s)
  arg_cell none h = none h.1.0 h.1.1

  -- where the atom types are one, by the words of the shapes
  pub arg_tested : (at'' : Span) → expr_at e ≡ at'' → b ≡ a → (r : Result Word TypeRefusal) → SplitsAt at'' (norm_word s) (norm_word c) r → TestsArg Γ (Arr at a c) e ns r
  arg_tested at'' is same (Ok w) (n, split, word) =
      arg_fits n w same (indices_split (Some n) (norm_word s) (norm_word c) split Γ.sorts c s input.1 found.sound.formed.1 refl refl) word
  arg_tested at'' is same (Err (Refused n at₃)) (number, place, split) = λ ts es.
      subst (λ n. (args_premises Γ (more_exprs e es) (more_tys (Arr at a c) ts)).blames (n, at₃)) (sym number)
      (subst (λ at₄. (args_premises Γ (more_exprs e es) (more_tys (Arr at a c) ts)).blames (21, at₄)) (is ∙ sym place)
      (arg_other (arg_cell (indices_split None (norm_word s) (norm_word c) split Γ.sorts c s input.1 found.sound.formed.1 refl refl)) ts es))
  arg_tested at'' is same (Err Memory) h = λ ts es. tt

  -- where they are two
  pub arg_differs : (at'' : Span) → expr_at e ≡ at'' → norm_ty (Arr at a c) ≡ Arr at a c → norm_ty (Arr at' b s) ≡ Arr at' b s → ¬ (b ≡ a) →
      (ts : Tys) (es : Exprs) → (args_premises Γ (more_exprs e es) (more_tys (Arr at a c) ts)).blames (21, at'')
  arg_differs at'' is p q ne ts es =
      subst (λ at₃. (args_premises Γ (more_exprs e es) (more_tys (Arr at a c) ts)).blames (21, at₃)) is (arg_other (arg_element p q ne) ts es)

-- the same where the two types are known by their parts
module _ (Γ : Context) (e : Expr) (t u : Ty) (at at' at'' : Span) (a b : Ty) (c s : Index) (ns : List NodeNote) (input : t ≡ Arr at a c) (other : u ≡ Arr at' b s)
    (is : expr_at e ≡ at'') (formed : IsWellFormed Γ.types Γ.sorts t) (found : Found Γ e u ns) where
  found' : Found Γ e (Arr at' b s) ns
  found' = subst (λ u. Found Γ e u ns) other found

  formed' : IsWellFormed Γ.types Γ.sorts (Arr at a c)
  formed' = subst (IsWellFormed Γ.types Γ.sorts) input formed

  pub argument_tested : b ≡ a → (r : Result Word TypeRefusal) → SplitsAt at'' (norm_word s) (norm_word c) r → TestsArg Γ t e ns r
  argument_tested same r h = subst (λ t. TestsArg Γ t e ns r) (sym input) (arg_tested Γ e at at' a b c s ns found' formed' at'' is same r h)

  pub argument_differs : norm_ty t ≡ t → norm_ty u ≡ u → ¬ (b ≡ a) → (ts : Tys) (es : Exprs) → (args_premises Γ (more_exprs e es) (more_tys t ts)).blames (21, at'')
  argument_differs p q ne ts es =
      subst (λ t. (args_premises Γ (more_exprs e es) (more_tys t ts)).blames (21, at'')) (sym input)
      (arg_differs Γ e at at' a b c s ns found' formed' at'' is (subst (λ t. norm_ty t ≡ t) input p) (subst (λ t. norm_ty t ≡ t) other q) ne ts es)

-- the element types of normal array types that are known by their parts are normal
pub part_normal : (t : Ty) (at : Span) (a : Ty) (c : Index) → t ≡ Arr at a c → norm_ty t ≡ t → norm_ty a ≡ a
part_normal t at a c e p = element_normal at a c (subst (λ t. norm_ty t ≡ t) e p)
