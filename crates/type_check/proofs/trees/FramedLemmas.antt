-- Results: a frame before cells of a type.
use Rattle.std.proofs.Common.{◌≡◌, ◌⊎◌, ◌∙◌, refl, sym, ap, subst, ℕ, ◌+◌, ◌≤◌, arith, List, [], ◌∷◌, ◌++◌, append-nil, Bool, true, false, ◌||◌, nat_lt, if◌then◌else◌, Some, None, inl, inr}
use Rattle.core_syntax.specs.declared.index.Sort.{Sort}
use Rattle.core_syntax.specs.declared.index.Sort.TheVariants as sort
use Rattle.core_syntax.specs.declared.norm.Letter.{Letter}
use Rattle.core_syntax.specs.declared.norm.Letter.TheVariants as letter
use Rattle.core_syntax.specs.Syntax.{Index, Ty, BaseTy, TyVar, Fun, Forall, Pi, Sigma, Arr}
use Rattle.core_syntax.specs.Sorts.{IsSorted}
use Rattle.core_syntax.specs.Made.{IsArray}
use Rattle.core_syntax.specs.Limits.{largest_size, largest_depth}
use Rattle.core_syntax.specs.Value.{SameShape, then_shape}
use Rattle.core_syntax.specs.TypeEqual.{Same}
use Rattle.core_syntax.specs.Word.{letters_size}
use Rattle.core_syntax.specs.Norm.{norm_word, has_large, is_large, measured}
use Rattle.core_syntax.specs.NormTypes.{norm_ty, measure_ty, ty_has_large, ty_size, ty_depth}
use Rattle.core_syntax.specs.Notes.{shape_word, cell_note, unbox_note}
use Rattle.core_syntax.specs.Prims.{array_of}
use Rattle.core_syntax.specs.Typing.{Context, Takes, OnArr}
use Rattle.core_syntax.proofs.Unique.{wholes_agree}
use Rattle.core_syntax.proofs.NormTyLemmas.{norm_same, same_normal, norm_again, word_again, measure_again}
use Rattle.core_syntax.proofs.Equality.{same_sym}
use Rattle.type_equal.specs.declared.measuring.NormRefusal.{NormRefusal}
use Rattle.type_equal.specs.declared.measuring.NormRefusal.TheVariants as norm
use Rattle.type_equal.specs.Refusal.{number_of}
use Rattle.type_check.specs.Contexts.{IsSound}
use Rattle.std.specs.Prelude.{Result, Ok, Err}
use Rattle.core_syntax.specs.declared.span.Span.{Span}
use Rattle.core_syntax.specs.declared.ty.Ty.{Ty as Tree}
use Rattle.core_syntax.specs.Syntax.{ty_at}
use Rattle.core_syntax.specs.Refine.{ty_of}
use Rattle.core_syntax.specs.Blame.{measure}
use Rattle.core_syntax.proofs.TyRows.{at_ty_form}
use Rattle.type_check.specs.declared.refusal.TypeRefusal.{TypeRefusal}
use Rattle.type_check.specs.Written.{Tells}
use Rattle.type_check.specs.Framed.{framed}

-- what a rule says of a result by its parts
pub framed_takes : (Γ : Context) (p : Index) (r t : Ty) → IsArray r → Takes Γ (framed p r) t → OnArr r (λ a c. Takes Γ (array_of a (then_shape p c)) t)
framed_takes Γ p (Arr at a c) t array h = h
framed_takes Γ p (BaseTy at b) t array h = absurd (cc)
framed_takes Γ p (TyVar at k) t array h = absurd (cc)
framed_takes Γ p (Fun at ts r) t array h = absurd (cc)
framed_takes Γ p (Forall at n r) t array h = absurd (cc)
framed_takes Γ p (Pi at ss r) t array h = absurd (cc)
framed_takes Γ p (Sigma at ss r) t array h = absurd (cc)

pub framed_same : (p q : Index) (r u : Ty) → IsArray r → SameShape p q → Same r u → Same (framed p r) (framed q u)
framed_same p q (Arr at a c) (Arr at' b d) array s h = (h.0, wholes_agree p q c d s h.1)
framed_same p q (Arr at a c) _ array s h = absurd h
framed_same p q (BaseTy at b) u array s h = absurd (cc)
framed_same p q (TyVar at k) u array s h = absurd (cc)
framed_same p q (Fun at ts r) u array s h = absurd (cc)
framed_same p q (Forall at n r) u array s h = absurd (cc)
framed_same p q (Pi at ss r) u array s h = absurd (cc)
framed_same p q (Sigma at ss r) u array s h = absurd (cc)

pub framed_sound : (types : ℕ) (sorts : List Sort) (p : Index) (r : Ty) → IsSorted sorts sort.Shape p → IsSound types sorts r → IsSound types sorts (framed p r)
framed_sound types sorts p (Arr at a c) s h = record { formed = (h.formed.0, (refl, (s, (h.formed.1, tt))), h.formed.2); top = refl; inside = h.inside }
framed_sound types sorts p (BaseTy at b) s h = h
framed_sound types sorts p (TyVar at k) s h = h
framed_sound types sorts p (Fun at ts r) s h = h
framed_sound types sorts p (Forall at n r) s h = h
framed_sound types sorts p (Pi at ss r) s h = h
framed_sound types sorts p (Sigma at ss r) s h = h

-- ---- measures

-- equal types have one measure
pub measure_same : (t u : Ty) → Same t u → measure_ty t ≡ measure_ty u
measure_same t u h = sym (measure_again t) ∙ ap measure_ty (same_normal t u h) ∙ measure_again u

or_true : (a b : Bool) → b ≡ true → (a || b) ≡ true
or_true true b e = refl
or_true false b e = e

or_first : (a b : Bool) → a ≡ true → (a || b) ≡ true
or_first true b e = refl
or_first false b e = cc

lt_more : (n a b : ℕ) → a ≤ b → nat_lt n a ≡ true → nat_lt n b ≡ true
lt_more n a b le h = grind arith

or_more : (a b c : Bool) → (a ≡ true → b ≡ true) → (a || c) ≡ true → (b || c) ≡ true
or_more true b c f e = or_first b c (f refl)
or_more false b c f e = or_true b c e

-- a greater size is refused too
measured_more : (large : Bool) (size size' depth n : ℕ) → size ≤ size' → measured large size depth ≡ Some n → measured large size' depth ≡ Some n
measured_more true size size' depth n le h = h
measured_more false size size' depth n le h = by (nat_lt largest_size size || nat_lt largest_depth depth) refl h
  where
    by : (b : Bool) → (nat_lt largest_size size || nat_lt largest_depth depth) ≡ b → (if b then Some 16 else None) ≡ Some n → (if nat_lt largest_size size' || nat_lt largest_depth depth then Some 16 else None) ≡ Some n
    by true e h = ap (λ b. if b then Some 16 else None) (or_more (nat_lt largest_size size) (nat_lt largest_size size') (nat_lt largest_depth depth) (lt_more largest_size size size' le) e) ∙ h
    by false e h = cc

letters_append : (xs ys : List Letter) → letters_size (xs ++ ys) ≡ letters_size xs + letters_size ys
letters_append [] ys = omega arith
letters_append (x ∷ xs) ys = omega (arith, letters_append xs ys)

or_assoc : (a b c : Bool) → ((a || b) || c) ≡ (a || (b || c))
or_assoc true b c = refl
or_assoc false b c = refl

large_append : (xs ys : List Letter) → has_large (xs ++ ys) ≡ (has_large xs || has_large ys)
large_append [] ys = refl
large_append (letter.Var k ∷ xs) ys = large_append xs ys
large_append (letter.Dim d ∷ xs) ys = ap (λ b. is_large d || b) (large_append xs ys) ∙ sym (or_assoc (is_large d) (has_large xs) (has_large ys))

-- where the frame has no large constant, a refusal of the cells' type is one of the result's
pub cell_refused : (p : Index) (r : Ty) (n : ℕ) → IsArray r → has_large (norm_word p) ≡ false → measure_ty r ≡ Some n → measure_ty (framed p r) ≡ Some n
cell_refused p (Arr at a c) n array small h =
    ap (λ b. measured (ty_has_large a || b) (ty_size (framed p (Arr at a c))) (1 + ty_depth a)) large
    ∙ measured_more (ty_has_large a || has_large (norm_word c)) (ty_size (Arr at a c)) (ty_size (framed p (Arr at a c))) (1 + ty_depth a) n larger h
  where
    whole : norm_word (then_shape p c) ≡ norm_word p ++ norm_word c
    whole = ap (λ w. norm_word p ++ w) (append-nil (norm_word c))

    large : has_large (norm_word (then_shape p c)) ≡ has_large (norm_word c)
    large = ap has_large whole ∙ large_append (norm_word p) (norm_word c) ∙ ap (λ b. b || has_large (norm_word c)) small

    larger : ty_size (Arr at a c) ≤ ty_size (framed p (Arr at a c))
    larger = let e : letters_size (norm_word (then_shape p c)) ≡ letters_size (norm_word p) + letters_size (norm_word c) = ap letters_size whole ∙ letters_append (norm_word p) (norm_word c) in omega arith
cell_refused p (BaseTy at b) n array small h = absurd (cc)
cell_refused p (TyVar at k) n array small h = absurd (cc)
cell_refused p (Fun at ts r) n array small h = absurd (cc)
cell_refused p (Forall at m r) n array small h = absurd (cc)
cell_refused p (Pi at ss r) n array small h = absurd (cc)
cell_refused p (Sigma at ss r) n array small h = absurd (cc)

-- ---- notes

shape_again : (t : Ty) → shape_word (norm_ty t) ≡ shape_word t
shape_again (Arr at t i) = word_again i
shape_again (BaseTy at b) = refl
shape_again (TyVar at k) = refl
shape_again (Fun at ts r) = refl
shape_again (Forall at n t) = refl
shape_again (Pi at ss t) = refl
shape_again (Sigma at ss t) = refl

-- the note of a normal type is that of the type
pub note_again : (t : Ty) → cell_note (norm_ty t) ≡ cell_note t
note_again t = λ i. record { cells = []; cell = Some (norm_again t i); shape = shape_again t i; sorts = [] }

pub unbox_note_again : (ss : List Sort) (t : Ty) → unbox_note ss (norm_ty t) ≡ unbox_note ss t
unbox_note_again ss t = λ i. record { cells = []; cell = Some (norm_again t i); shape = shape_again t i; sorts = ss }

-- ---- refusals of instances

-- a refusal of an instance r is one of the result with its normal type
pub instance_refused : (p : Index) (r : Ty) (refusal : NormRefusal) → IsArray r → has_large (norm_word p) ≡ false → (refusal ≡ norm.Memory) ⊎ (number_of (Some refusal) ≡ measure_ty r)
    → (refusal ≡ norm.Memory) ⊎ (number_of (Some refusal) ≡ measure_ty (framed p (norm_ty r)))
instance_refused p r refusal array small (inl e) = inl e
instance_refused p r norm.Memory array small (inr e) = inl refl
instance_refused p r norm.TooLarge array small (inr e) = inr (sym (cell_refused p r 13 array small (sym e)) ∙ measure_same (framed p r) (framed p (norm_ty r)) (framed_same p p r (norm_ty r) array (λ v. refl) (same_sym (norm_ty r) r (norm_same r))))
instance_refused p r norm.TooBig array small (inr e) = inr (sym (cell_refused p r 16 array small (sym e)) ∙ measure_same (framed p r) (framed p (norm_ty r)) (framed_same p p r (norm_ty r) array (λ v. refl) (same_sym (norm_ty r) r (norm_same r))))

-- ---- the tree of a result

pub tree_told : (at : Span) (tree : Tree) (p : Index) (cell : Ty) (place : Span) (t : Ty) (c : Index) → cell ≡ Arr place t c → ty_of tree ≡ Arr at t (then_shape p c) → (r : Result Tree TypeRefusal)
    → Tells (measure (measure_ty (ty_of tree)) tree.at) (λ n. ty_of n ≡ norm_ty (ty_of tree)) r → Tells (measure (measure_ty (framed p cell)) at) (λ n. ty_of n ≡ norm_ty (framed p cell)) r
tree_told at tree p cell place t c e f r told =
    subst (λ cell. Tells (measure (measure_ty (framed p cell)) at) (λ n. ty_of n ≡ norm_ty (framed p cell)) r) (sym e) (by r
    (subst (λ x. Tells (measure (measure_ty x) at) (λ n. ty_of n ≡ norm_ty x) r) f (subst (λ here. Tells (measure (measure_ty (ty_of tree)) here) (λ n. ty_of n ≡ norm_ty (ty_of tree)) r) at_is told)))
  where
    at_is : tree.at ≡ at
    at_is = sym (at_ty_form tree.at tree.form) ∙ ap ty_at f

    by : (r : Result Tree TypeRefusal) → Tells (measure (measure_ty (Arr at t (then_shape p c))) at) (λ n. ty_of n ≡ norm_ty (Arr at t (then_shape p c))) r
        → Tells (measure (measure_ty (framed p (Arr place t c))) at) (λ n. ty_of n ≡ norm_ty (framed p (Arr place t c))) r
    by (Ok n) h = h
    by (Err x) h = h
