-- A word: linear forms and Shape variables in order.
use Rattle.std.specs.Prelude.{ℕ, ◌≡◌, ◌+◌, List, [], ◌∷◌, ◌++◌, ⊤}
use Rattle.core_syntax.specs.declared.norm.Letter.{Letter}
use Rattle.core_syntax.specs.declared.norm.Letter.TheVariants as letter
use Rattle.core_syntax.specs.Linear.{IsNormal, dim_size}

-- the letters in order
abbrev pub Word : Type 0
Word = List Letter

-- a letter that is a linear form has each variable once
abbrev pub IsNormalLetter : Letter → Type 0
IsNormalLetter (letter.Dim d) = IsNormal d
IsNormalLetter (letter.Var k) = ⊤

-- and so has each letter of a word
abbrev pub AreNormal : List Letter → Type 0
AreNormal [] = ⊤
AreNormal (l ∷ ls) = IsNormalLetter l × AreNormal ls

-- the second word begins with the first
abbrev pub Begins : List Letter → List Letter → Type 0
Begins a b = (rest : List Letter) × (a ++ rest ≡ b)

-- the size of a letter, a variable being 1
abbrev pub letter_size : Letter → ℕ
letter_size (letter.Dim d) = dim_size d
letter_size (letter.Var k) = 1

-- the sizes of the letters, added up
abbrev pub letters_size : List Letter → ℕ
letters_size [] = 0
letters_size (l ∷ ls) = letter_size l + letters_size ls

-- the size of a word: 1, and its letters
abbrev pub word_size : List Letter → ℕ
word_size w = 1 + letters_size w
