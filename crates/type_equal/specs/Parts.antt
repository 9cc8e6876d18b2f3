-- The variables of a linear form as indices, the outermost first.
use Rattle.std.specs.Prelude.{List, [], ◌∷◌, ◌++◌, replicate}
use Rattle.core_syntax.specs.declared.norm.Coef.{Coef}
use Rattle.core_syntax.specs.Syntax.{Index}
use Rattle.core_syntax.specs.Nodes.{var}

abbrev pub vars_of : List Coef → List Index
vars_of [] = []
vars_of (c ∷ cs) = vars_of cs ++ replicate c.times (var c.var)
