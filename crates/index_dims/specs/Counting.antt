-- The variables of an index, counted one by one.
use Rattle.std.specs.Prelude.{ℕ, ◌≤◌, List, [], ◌∷◌, ◌++◌, ⊤}
use Rattle.core_syntax.specs.declared.norm.Coef.{Coef}
use Rattle.core_syntax.specs.Syntax.{Index, Num, Var, Sum, Dims, Join, Indices, end, more}
use Rattle.core_syntax.specs.Norm.{add_coef}

-- the variables of an index of sort Dim in reading order, each as often as it stands there
abbrev mutual
  pub variables_of : Index → List ℕ
  variables_of (Num at n) = []
  variables_of (Var at k) = k ∷ []
  variables_of (Sum at is) = variables_in is
  variables_of (Dims at is) = []
  variables_of (Join at is) = []

  -- those of each of a list
  pub variables_in : Indices → List ℕ
  variables_in end = []
  variables_in (more i is) = variables_of i ++ variables_in is

-- one more of each
abbrev pub count_all : List ℕ → List Coef → List Coef
count_all [] cs = cs
count_all (k ∷ ks) cs = count_all ks (add_coef k 1 cs)

-- no variable is greater
abbrev pub AreAtMost : ℕ → List Coef → Type 0
AreAtMost k [] = ⊤
AreAtMost k (c ∷ cs) = (c.var ≤ k) × AreAtMost k cs
