-- The values of normal forms under a valuation.
use Rattle.std.specs.Prelude.{ℕ, ◌+◌, ◌*◌, List, [], ◌∷◌, ◌++◌}
use Rattle.core_syntax.specs.declared.norm.Coef.{Coef}
use Rattle.core_syntax.specs.declared.norm.Letter.{Letter}
use Rattle.core_syntax.specs.declared.norm.Letter.TheVariants as letter
use Rattle.core_syntax.specs.Linear.{Linear}
use Rattle.core_syntax.specs.Value.{Valuation}

-- each variable as often as it is added
abbrev pub coefs_value : Valuation → List Coef → ℕ
coefs_value v [] = 0
coefs_value v (c ∷ cs) = c.times * v.dim c.var + coefs_value v cs

-- the value of a linear form
abbrev pub form_value : Valuation → Linear → ℕ
form_value v d = d.constant + coefs_value v d.coefs

-- the list that a letter stands for
abbrev pub letter_value : Valuation → Letter → List ℕ
letter_value v (letter.Dim d) = form_value v d ∷ []
letter_value v (letter.Var k) = v.shape k

-- the lists of the letters, joined
abbrev pub word_value_under : Valuation → List Letter → List ℕ
word_value_under v [] = []
word_value_under v (l ∷ ls) = letter_value v l ++ word_value_under v ls
