-- Texts put one behind another, and the text of a normal type.
use Rattle.std.proofs.Common.{◌≡◌, ◌∙◌, refl, sym, ap, ℕ, ◌+◌, List, [], ◌∷◌, ◌++◌, append_assoc, append-nil, length, Result, Ok, Err, OnOk}
use Rattle.std.specs.Prelude.{codes}
use Rattle.core_syntax.specs.declared.errors.Memory.{Memory}
use Rattle.core_syntax.specs.Syntax.{Index, Ty, BaseTy, TyVar, Fun, Forall, Pi, Sigma, Arr}
use Rattle.core_syntax.specs.Nodes.{number}
use Rattle.core_syntax.specs.Norm.{index_text, bracketed}
use Rattle.core_syntax.specs.NormTypes.{norm_ty, ty_text_under, list_text, binder_texts}
use Rattle.type_equal.specs.SameTree.{ty_inner}
use Rattle.type_equal.specs.Shown.{text_under}

-- a part behind a head, and the bracket
pub one_part : (r : Result (Unit {0}) Memory) (old a b e head part whole : List ℕ) → a ≡ old ++ head → b ≡ a ++ part → head ++ (part ++ 41 ∷ []) ≡ whole →
    OnOk r (e ≡ b ++ 41 ∷ []) → OnOk r (e ≡ old ++ whole)
one_part (Err n) old a b e head part whole p q w s = tt
one_part (Ok x) old a b e head part whole p q w s =
    s ∙ ap (λ z. z ++ 41 ∷ []) q ∙ append_assoc a part (41 ∷ []) ∙ ap (λ z. z ++ (part ++ 41 ∷ [])) p ∙ append_assoc old head (part ++ 41 ∷ []) ∙ ap (λ z. old ++ z) w

-- two parts with a space between them
pub two_parts : (r : Result (Unit {0}) Memory) (old a b d f e head x y whole : List ℕ) → a ≡ old ++ head → b ≡ a ++ x → d ≡ b ++ 32 ∷ [] → f ≡ d ++ y →
    head ++ ((x ++ 32 ∷ (y ++ [])) ++ 41 ∷ []) ≡ whole → OnOk r (e ≡ f ++ 41 ∷ []) → OnOk r (e ≡ old ++ whole)
two_parts r old a b d f e head x y whole p q u v w s =
    one_part r old a f e head (x ++ 32 ∷ (y ++ [])) whole p
    (v ∙ ap (λ z. z ++ y) (u ∙ ap (λ z. z ++ 32 ∷ []) q) ∙ ap (λ z. z ++ y) (append_assoc a x (32 ∷ [])) ∙ append_assoc a (x ++ 32 ∷ []) y
    ∙ ap (λ z. a ++ z) (append_assoc x (32 ∷ []) y ∙ ap (λ z. x ++ 32 ∷ z) (sym (append-nil y))))
    w s

abbrev shape_in : Ty → Index
shape_in (Arr at t i) = i
shape_in _ = number 0

-- a normal type's shapes stand in it as they are written
pub shown : (binders : ℕ) (t : Ty) → norm_ty t ≡ t → text_under binders t ≡ ty_text_under binders t
shown binders (BaseTy at b) e = refl
shown binders (TyVar at k) e = refl
shown binders (Fun at ts r) e = refl
shown binders (Forall at n t) e = refl
shown binders (Pi at ss t) e = refl
shown binders (Sigma at ss t) e = ap (λ x. bracketed (codes "Sigma") (list_text (binder_texts binders ss) ∷ x ∷ [])) (shown (length ss + binders) t (ap ty_inner e))
shown binders (Arr at t i) e = λ j. bracketed (codes "A") (shown binders t (ap ty_inner e) j ∷ index_text binders (sym (ap shape_in e) j) ∷ [])
