-- The text of a type whose shapes have the form of the text.
use Rattle.std.specs.Prelude.{ℕ, ◌+◌, List, [], ◌∷◌, ◌++◌, length, codes}
use Rattle.std.specs.Fmt.{decimal}
use Rattle.core_syntax.specs.declared.index.Sort.{Sort}
use Rattle.core_syntax.specs.Syntax.{Ty, BaseTy, Sigma, Arr}
use Rattle.core_syntax.specs.Norm.{bracketed, index_text}
use Rattle.core_syntax.specs.NormTypes.{sort_text, base_text, list_text, binder_texts}

-- the binder with this number
abbrev pub binder_text : ℕ → Sort → List ℕ
binder_text n s = codes "(i" ++ decimal n ++ codes " " ++ sort_text s ++ codes ")"

-- the text of a printable type under so many binders, with its shapes as they stand
abbrev pub text_under : ℕ → Ty → List ℕ
text_under binders (BaseTy at b) = base_text b
text_under binders (Sigma at ss t) = bracketed (codes "Sigma") (list_text (binder_texts binders ss) ∷ text_under (length ss + binders) t ∷ [])
text_under binders (Arr at t i) = bracketed (codes "A") (text_under binders t ∷ index_text binders i ∷ [])
text_under binders _ = []
