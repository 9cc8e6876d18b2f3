-- The text of indices as a reader meets it.
use Rattle.std.proofs.Common.{◌≡◌, ℕ, List, [], ◌∷◌, ◌++◌, ap, sym, ◌∙◌, refl, lit<}
use Rattle.std.specs.Prelude.{codes}
use Rattle.std.specs.Fmt.{decimal}
use Rattle.std.proofs.lemmas.Fmt.{decimal_digit}
use Rattle.core_syntax.specs.Linear.{Linear}
use Rattle.core_syntax.specs.Word.{Word}
use Rattle.machine_table.specs.IndexBounds.{Scope}
use Rattle.code_text.specs.IndexText.{name_text, SumPart, sum_parts, part_text, sum_text, dim_text, Run, Side, Single, runs, run_text, word_text, shape_text}
use Rattle.code_text.proofs.forms.Lists.{until, headed_is}

module _ (scope : Scope) where
  abbrev pub sum_form : List SumPart → List ℕ
  sum_form [] = decimal 0
  sum_form (p ∷ []) = part_text scope p
  sum_form (p ∷ (q ∷ ps)) = codes "(+ " ++ (part_text scope p ++ until 41 (part_text scope) (q ∷ ps))

  abbrev pub dim_form : Linear → List ℕ
  dim_form d = sum_form (sum_parts d)

  abbrev pub run_form : Run → List ℕ
  run_form (Side ds) = codes "(shape" ++ until 41 dim_form ds
  run_form (Single k) = name_text scope k

  abbrev pub word_form : List Run → List ℕ
  word_form [] = codes "(shape)"
  word_form (r ∷ []) = run_form r
  word_form (r ∷ (q ∷ rs)) = codes "(++ " ++ (run_form r ++ until 41 run_form (q ∷ rs))

  abbrev pub shape_form : Word → List ℕ
  shape_form w = word_form (runs w)

  sum_is : (ps : List SumPart) → sum_text scope ps ≡ sum_form ps
  sum_is [] = sym (decimal_digit 0 (lit< tt))
  sum_is (p ∷ []) = refl
  sum_is (p ∷ (q ∷ ps)) = headed_is (part_text scope) (codes "+") (p ∷ (q ∷ ps))

  pub dim_is : (d : Linear) → dim_text scope d ≡ dim_form d
  dim_is d = sum_is (sum_parts d)

  run_is : (r : Run) → run_text scope r ≡ run_form r
  run_is (Side ds) =
      let each : dim_text scope ≡ dim_form = λ i d. dim_is d i in headed_is (dim_text scope) (codes "shape") ds ∙ ap (λ (t : Linear → List ℕ). codes "(shape" ++ until 41 t ds) each
  run_is (Single k) = refl

  word_is : (rs : List Run) → word_text scope rs ≡ word_form rs
  word_is [] = refl
  word_is (r ∷ []) = run_is r
  word_is (r ∷ (q ∷ rs)) =
      let each : run_text scope ≡ run_form = λ i r. run_is r i in
      headed_is (run_text scope) (codes "++") (r ∷ (q ∷ rs)) ∙ ap (λ (t : Run → List ℕ). codes "(++" ++ until 41 t (r ∷ (q ∷ rs))) each

  pub shape_is : (w : Word) → shape_text scope w ≡ shape_form w
  shape_is w = word_is (runs w)
