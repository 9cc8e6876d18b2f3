-- Rows of words, by computation: s is variable 0.
use Rattle.std.proofs.Common.{◌≡◌, [], ◌∷◌, ℕ, refl, ap, arith, Some, None}
use Rattle.core_syntax.specs.declared.norm.Letter.TheVariants.{Dim}
use Rattle.core_syntax.specs.Nodes.{number, var, vector, joined_shape}
use Rattle.core_syntax.specs.Word.{Word, Begins}
use Rattle.core_syntax.specs.Norm.{norm_word}
use Rattle.index_dims.specs.declared.refusal.DimRefusal.TheVariants.{TooLarge}
use Rattle.shape_words.specs.Refusal.{word_refusal}
use Rattle.shape_words.specs.Split.{Splits}

abbrev two_three : Word
two_three = norm_word (vector (number 2 ∷ number 3 ∷ []))

abbrev two : Word
two = norm_word (vector (number 2 ∷ []))

abbrev three : Word
three = norm_word (vector (number 3 ∷ []))

-- (shape) is a prefix of every word
empty_begins : (w : Word) → Begins (norm_word (vector [])) w
empty_begins w = (w, refl)

-- the cell (shape 3) of (shape 2 3) leaves a frame of one letter, and so it does of (++ s (shape 3))
cell_at_the_end : Splits (Some 1) two_three three
cell_at_the_end = (omega arith, refl)

cell_behind_a_variable : Splits (Some 1) (norm_word (joined_shape (var 0 ∷ vector (number 3 ∷ []) ∷ []))) three
cell_behind_a_variable = (omega arith, refl)

-- the constant of the second letter
abbrev second : Word → ℕ
second (x ∷ Dim d ∷ w) = d.constant
second _ = 0

-- no frame in front of (shape 2) gives (shape 2 3)
no_cell_in_front : Splits None two_three two
no_cell_in_front [] e = cc
no_cell_in_front (x ∷ []) e = let two_is_three : ◌≡◌ {A = ℕ} 2 3 = ap second e in omega arith
no_cell_in_front (x ∷ y ∷ []) e = cc
no_cell_in_front (x ∷ y ∷ z ∷ frame) e = cc

-- the first number that is too large is told, not the last or the largest
first_too_large : word_refusal (norm_word (joined_shape (vector (number 7 ∷ number 1099511627778 ∷ []) ∷ vector (number 1099511627779 ∷ []) ∷ []))) ≡ Some (TooLarge 1099511627778)
first_too_large = refl

-- numbers in different places are not added up
largest_twice : word_refusal (norm_word (vector (number 1099511627776 ∷ number 1099511627776 ∷ []))) ≡ None
largest_twice = refl
