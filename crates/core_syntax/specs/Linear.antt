-- A linear form: a number, and how often each variable is added to it.
use Rattle.std.specs.Prelude.{ℕ, ◌+◌, ◌<◌, ◌≤◌, List, [], ◌∷◌, ⊤}
use Rattle.core_syntax.specs.declared.norm.Coef.{Coef}

-- the constant, and the variables
pub record Linear : Type 0 where
  pub constant : ℕ
  pub coefs : List Coef

-- the variables rise, the first is not below `low`, and each is added at least once
abbrev pub IsAscending : ℕ → List Coef → Type 0
IsAscending low [] = ⊤
IsAscending low (c ∷ cs) = (low ≤ c.var) × (0 < c.times) × IsAscending (c.var + 1) cs

-- each variable stands once, in the order of the numbers
abbrev pub IsNormal : Linear → Type 0
IsNormal d = IsAscending 0 d.coefs

-- how many variables are added
abbrev pub coefs_total : List Coef → ℕ
coefs_total [] = 0
coefs_total (c ∷ cs) = c.times + coefs_total cs

-- the size of a linear form: 1, and what it counts of its variables
abbrev pub dim_size : Linear → ℕ
dim_size d = 1 + coefs_total d.coefs
