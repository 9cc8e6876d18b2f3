-- The text of the types of inputs as a reader meets it.
use Rattle.std.proofs.Common.{◌≡◌, ℕ, suc, List, [], ◌∷◌, ◌++◌, length, ap, ◌∙◌, refl, append_assoc}
use Rattle.std.specs.Prelude.{codes}
use Rattle.std.specs.Fmt.{decimal}
use Rattle.core_syntax.specs.declared.index.Sort.{Sort}
use Rattle.core_syntax.specs.declared.ty.Base.{Base}
use Rattle.core_syntax.specs.NormTypes.{base_text, sort_text}
use Rattle.core_syntax.specs.Word.{Word}
use Rattle.machine_table.specs.Codes.{Param, Boxes}
use Rattle.machine_table.specs.IndexBounds.{Under, under}
use Rattle.code_text.specs.Spelling.{spaced, separated}
use Rattle.code_text.specs.IndexText.{shape_text}
use Rattle.code_text.specs.ParamText.{binder_text, numbered, around_text, param_text}
use Rattle.code_text.proofs.forms.Lists.{beside}
use Rattle.code_text.proofs.forms.IndexForms.{shape_form, shape_is}

-- a binder, by its number from outside
abbrev pub binder_form : ℕ → Sort → List ℕ
binder_form n s = codes "(i" ++ (decimal n ++ 32 ∷ (sort_text s ++ 41 ∷ []))

-- binders after the first, numbered from n, and the end of their list
abbrev pub more_binders_form : ℕ → List Sort → List ℕ
more_binders_form n [] = 41 ∷ []
more_binders_form n (s ∷ ss) = 32 ∷ (binder_form n s ++ more_binders_form (suc n) ss)

-- binders behind their parenthesis, numbered from n
abbrev pub binders_form : ℕ → List Sort → List ℕ
binders_form n [] = 41 ∷ []
binders_form n (s ∷ ss) = binder_form n s ++ more_binders_form (suc n) ss

-- boxes around a type, under these binders
abbrev pub around_form : List Sort → List Boxes → Base → Word → List ℕ
around_form binders [] b shape = codes "(A " ++ (base_text b ++ 32 ∷ (shape_form (Under binders) shape ++ 41 ∷ []))
around_form binders (x ∷ xs) b shape =
    codes "(A (Sigma (" ++ (binders_form (length binders) x.sorts ++ 32 ∷ (around_form (under x.sorts binders) xs b shape ++ (codes ") " ++ (shape_form (Under binders) x.shape ++ 41 ∷ []))))

-- the type of an input
abbrev pub param_form : Param → List ℕ
param_form p = around_form [] p.boxes p.base p.shape

binder_is : (n : ℕ) (s : Sort) → binder_text (record { number = n; sort = s }) ≡ binder_form n s
binder_is n s = ap (λ v. codes "(i" ++ v) (beside (decimal n) (sort_text s) (codes ")"))

-- a binder, and the others
one_more : (n : ℕ) (s : Sort) (ss : List Sort) → spaced binder_text (numbered (suc n) ss) ++ 41 ∷ [] ≡ more_binders_form (suc n) ss → (binder_text (record { number = n; sort = s }) ++ spaced binder_text (numbered (suc n) ss)) ++ 41 ∷ [] ≡ binder_form n s ++ more_binders_form (suc n) ss
one_more n s ss e =
    append_assoc (binder_text (record { number = n; sort = s })) (spaced binder_text (numbered (suc n) ss)) (41 ∷ [])
    ∙ ap (λ v. v ++ (spaced binder_text (numbered (suc n) ss) ++ 41 ∷ [])) (binder_is n s)
    ∙ ap (λ v. binder_form n s ++ v) e

more_is : (n : ℕ) (ss : List Sort) → spaced binder_text (numbered n ss) ++ 41 ∷ [] ≡ more_binders_form n ss
more_is n [] = refl
more_is n (s ∷ ss) = ap (λ v. 32 ∷ v) (one_more n s ss (more_is (suc n) ss))

binders_is : (n : ℕ) (ss : List Sort) → separated binder_text (numbered n ss) ++ 41 ∷ [] ≡ binders_form n ss
binders_is n [] = refl
binders_is n (s ∷ ss) = one_more n s ss (more_is (suc n) ss)

regroup : (bs r s : List ℕ) → (bs ++ (32 ∷ (r ++ codes ")"))) ++ (32 ∷ s) ≡ bs ++ (32 ∷ (r ++ (codes ") " ++ s)))
regroup bs r s = append_assoc bs (32 ∷ (r ++ codes ")")) (32 ∷ s) ∙ ap (λ v. bs ++ (32 ∷ v)) (append_assoc r (codes ")") (32 ∷ s))

around_is : (binders : List Sort) (xs : List Boxes) (b : Base) (shape : Word) → around_text binders xs b shape ≡ around_form binders xs b shape
around_is binders [] b shape =
    ap (λ v. codes "(A " ++ v) (beside (base_text b) (shape_text (Under binders) shape) (codes ")"))
    ∙ ap (λ v. codes "(A " ++ (base_text b ++ 32 ∷ (v ++ 41 ∷ []))) (shape_is (Under binders) shape)
around_is binders (x ∷ xs) b shape =
    let bs = separated binder_text (numbered (length binders) x.sorts) ++ 41 ∷ [] in
    let r = around_text (under x.sorts binders) xs b shape in
    let s = shape_text (Under binders) x.shape ++ 41 ∷ [] in
    ap (λ v. codes "(A " ++ v) (beside (codes "(Sigma " ++ (((40 ∷ bs) ++ codes " ") ++ r) ++ codes ")") (shape_text (Under binders) x.shape) (codes ")"))
    ∙ ap (λ v. codes "(A (Sigma " ++ (v ++ 32 ∷ s)) (beside (40 ∷ bs) r (codes ")"))
    ∙ ap (λ v. codes "(A (Sigma (" ++ v) (regroup bs r s)
    ∙ ap (λ v. codes "(A (Sigma (" ++ (v ++ 32 ∷ (r ++ (codes ") " ++ s)))) (binders_is (length binders) x.sorts)
    ∙ ap (λ v. codes "(A (Sigma (" ++ (binders_form (length binders) x.sorts ++ 32 ∷ (v ++ (codes ") " ++ s)))) (around_is (under x.sorts binders) xs b shape)
    ∙ ap (λ v. codes "(A (Sigma (" ++ (binders_form (length binders) x.sorts ++ 32 ∷ (around_form (under x.sorts binders) xs b shape ++ (codes ") " ++ (v ++ 41 ∷ []))))) (shape_is (Under binders) x.shape)

pub param_is : (p : Param) → param_text p ≡ param_form p
param_is p = around_is [] p.boxes p.base p.shape
