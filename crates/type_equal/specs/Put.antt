-- Normal forms put in the places of variables.
use Rattle.std.specs.Prelude.{ℕ, List}
use Rattle.core_syntax.specs.declared.norm.NormIndex.{NormIndex}
use Rattle.core_syntax.specs.declared.norm.NormIndex.TheVariants as norm
use Rattle.core_syntax.specs.declared.ty.Ty.{Ty as Tree}
use Rattle.core_syntax.specs.Syntax.{Index, Ty}
use Rattle.core_syntax.specs.Lists.{each}
use Rattle.core_syntax.specs.Made.{IndexMade}
use Rattle.core_syntax.specs.Norm.{dim_tree, word_tree}
use Rattle.core_syntax.specs.Refine.{ty_of}
use Rattle.core_syntax.specs.Subst.{Fates, put_all, under_n, indices_under, ty_under_type, fates_under_index, ty_put}
use Rattle.type_equal.specs.Moved.{IsFreeBelow, free_limit}

-- the tree of a normal form
abbrev pub index_tree : NormIndex → Index
index_tree (norm.Dim d) = dim_tree d
index_tree (norm.Shape w) = word_tree w

-- the fates of index variables under so many index binders, where these normal forms are put
abbrev pub indices_at : ℕ → List NormIndex → Fates Index
indices_at n is = indices_under n (put_all (each index_tree is))

-- the fates of type variables under so many type binders and index binders, where these types are put
abbrev pub types_at : ℕ → ℕ → List Tree → Fates Ty
types_at n m ts = fates_under_index m (under_n n ty_under_type (put_all (each ty_of ts)))

-- the numbers of its free variables are below the limit
abbrev pub IsTreeSmall : Tree → Type 0
IsTreeSmall t = IsFreeBelow free_limit free_limit (ty_of t)

abbrev pub IsIndexSmall : NormIndex → Type 0
IsIndexSmall i = IndexMade free_limit (index_tree i)

-- a type with types and normal forms in the places of its variables
abbrev pub put_in : List Tree → List NormIndex → Ty → Ty
put_in ts is t = ty_put (put_all (each index_tree is)) (put_all (each ty_of ts)) t
