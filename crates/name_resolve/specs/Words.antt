-- The words of the language, each list of them reserved in a space of names.
use Rattle.std.specs.Prelude.{ℕ, ◌||◌, List, codes, Option, Some, None, if◌then◌else◌, Bool, is_some}
use Rattle.std.specs.Str.{bytes_eq}
use Rattle.core_syntax.specs.declared.index.Sort.{Sort}
use Rattle.core_syntax.specs.declared.index.Sort.TheVariants as sort
use Rattle.core_syntax.specs.declared.ty.Base.{Base}
use Rattle.core_syntax.specs.declared.ty.Base.TheVariants as base
use Rattle.name_resolve.specs.declared.words.NameSpace.{NameSpace}
use Rattle.name_resolve.specs.declared.words.NameSpace.TheVariants as space
use Rattle.name_resolve.specs.declared.words.IndexWord.{IndexWord}
use Rattle.name_resolve.specs.declared.words.IndexWord.TheVariants as index
use Rattle.name_resolve.specs.declared.words.TypeWord.{TypeWord}
use Rattle.name_resolve.specs.declared.words.TypeWord.TheVariants as type
use Rattle.name_resolve.specs.declared.words.AtomWord.{AtomWord}
use Rattle.name_resolve.specs.declared.words.AtomWord.TheVariants as atom
use Rattle.name_resolve.specs.declared.words.ExprWord.{ExprWord}
use Rattle.name_resolve.specs.declared.words.ExprWord.TheVariants as expr
use Rattle.name_resolve.specs.declared.words.TopWord.{TopWord}
use Rattle.name_resolve.specs.declared.words.TopWord.TheVariants as top

-- a word of the index forms
abbrev pub index_word : List ℕ → Option IndexWord
index_word x =
    if bytes_eq x (codes "shape") then Some index.Shape else
    if bytes_eq x (codes "+") then Some index.Plus else
    if bytes_eq x (codes "++") then Some index.Join else None

-- a base type
abbrev pub base_word : List ℕ → Option Base
base_word x =
    if bytes_eq x (codes "Int") then Some base.Int else
    if bytes_eq x (codes "Bool") then Some base.Bool else
    if bytes_eq x (codes "Char") then Some base.Char else None

-- a word of the type forms
abbrev pub type_word : List ℕ → Option TypeWord
type_word x =
    if bytes_eq x (codes "A") then Some type.Arr else
    if bytes_eq x (codes "->") then Some type.Arrow else
    if bytes_eq x (codes "Forall") then Some type.Forall else
    if bytes_eq x (codes "Pi") then Some type.Pi else
    if bytes_eq x (codes "Sigma") then Some type.Sigma else None

-- a word of the atoms that are lists
abbrev pub atom_word : List ℕ → Option AtomWord
atom_word x =
    if bytes_eq x (codes "fn") then Some atom.Fn else
    if bytes_eq x (codes "tfn") then Some atom.TypeFn else
    if bytes_eq x (codes "ifn") then Some atom.IndexFn else
    if bytes_eq x (codes "box") then Some atom.Box else None

-- a word of the other expressions
abbrev pub expr_word : List ℕ → Option ExprWord
expr_word x =
    if bytes_eq x (codes "array") then Some expr.Array else
    if bytes_eq x (codes "frame") then Some expr.Frame else
    if bytes_eq x (codes "unbox") then Some expr.Unbox else
    if bytes_eq x (codes "t-app") then Some expr.TypeApp else
    if bytes_eq x (codes "i-app") then Some expr.IndexApp else None

-- a word of the top forms
abbrev pub top_word : List ℕ → Option TopWord
top_word x =
    if bytes_eq x (codes "define") then Some top.Define else
    if bytes_eq x (codes "main") then Some top.Main else None

-- a word of a space is reserved in it
abbrev pub reserved : NameSpace → List ℕ → Bool
reserved space.Terms x = is_some (atom_word x) || is_some (expr_word x) || is_some (top_word x)
reserved space.Types x = is_some (base_word x) || is_some (type_word x)
reserved space.Indices x = is_some (index_word x)

-- the sort of this name
abbrev pub sort_named : List ℕ → Option Sort
sort_named x =
    if bytes_eq x (codes "Dim") then Some sort.Dim else
    if bytes_eq x (codes "Shape") then Some sort.Shape else None
