-- What primitives answer on values of the program.
use Rattle.std.specs.Prelude.{⊤, List, [], ◌∷◌, Option, None}
use Rattle.core_syntax.specs.declared.primitive.Primitive.{Primitive}
use Rattle.core_syntax.specs.declared.primitive.Primitive.TheVariants as p
use Rattle.core_syntax.specs.declared.term.TermExpr.{TermExpr}
use Rattle.core_syntax.specs.Lists.{each}
use Rattle.core_syntax.specs.Syntax.{Ty, Index}
use Rattle.core_syntax.specs.Terms.{IndexValue, TInt, TBool, TChar, TPrim}
use Rattle.core_syntax.specs.Arrays.{Arrayed, array, single}
use Rattle.core_syntax.specs.Answer.{Look, AnInt, ABool, AChar, Other, Answer, Gives, Traps, Unfit}
use Rattle.core_syntax.specs.Delta.{delta}
use Rattle.core_syntax.specs.Move.{Move}
use Rattle.core_syntax.specs.Rules.{dims_of, atoms_of, atom_rules, answered, look, values_of}
use Rattle.core_syntax.specs.Typed.{typed_rules, closed_value, TypedTerm}
use Rattle.core_syntax.specs.RefineTerms.{term_of, TypedCell}
use Rattle.typed_prims.specs.declared.deltas.Look.{Look as Seen}
use Rattle.typed_prims.specs.declared.deltas.Look.TheVariants as seen
use Rattle.typed_prims.specs.declared.deltas.Given.{Given}
use Rattle.typed_prims.specs.declared.deltas.Given.TheVariants as given

-- the array of a value
abbrev pub array_of : TermExpr → Arrayed TypedCell
array_of t = array (dims_of typed_rules (term_of t)) (atoms_of typed_rules (term_of t))

-- what a primitive answers on values where the result's cell has this type
abbrev pub answer_on : Ty → Primitive → List IndexValue → List TermExpr → Answer TypedCell
answer_on r q is ts = delta (atom_rules typed_rules r) q is (each array_of ts)

-- where an application of a primitive with its types and its indices to values goes
abbrev pub move_on : Ty → Primitive → Option (List Ty) → Option (List Index) → List TermExpr → Move TypedTerm
move_on r q us is ts = answered typed_rules r us is (answer_on r q (values_of closed_value is) ts)

-- what a look at an atom shows
abbrev pub look_of : Seen → Look
look_of (seen.Int z) = AnInt z
look_of (seen.Bool b) = ABool b
look_of (seen.Char c) = AChar c
look_of seen.Other = Other

-- what a primitive sees of an array of these atoms where it takes a scalar
abbrev pub seen_of : List TypedCell → Look
seen_of (a ∷ []) = look typed_rules a
seen_of _ = Other

-- an atom that is seen so
abbrev pub cell_seen : Look → TypedCell
cell_seen (AnInt z) = TInt z
cell_seen (ABool b) = TBool b
cell_seen (AChar c) = TChar c
cell_seen Other = TPrim p.Add None None

-- what a primitive answers on scalars that are seen so
abbrev pub answer_on_looks : Ty → Primitive → List Look → Answer TypedCell
answer_on_looks r q xs = delta (atom_rules typed_rules r) q [] (each (λ x. single (cell_seen x)) xs)

-- what a primitive gives on scalars
abbrev pub answer_given : Given → Answer TypedCell
answer_given (given.Int z) = Gives (single (TInt z))
answer_given (given.Bool b) = Gives (single (TBool b))
answer_given (given.Trap k) = Traps k
answer_given given.Unfit = Unfit

-- a primitive of scalars without types and indices
abbrev pub IsPlain : Primitive → Type 0
IsPlain p.Select = ⊥
IsPlain p.Append = ⊥
IsPlain p.Reverse = ⊥
IsPlain p.Take = ⊥
IsPlain p.Drop = ⊥
IsPlain p.Transpose = ⊥
IsPlain p.Replicate = ⊥
IsPlain p.Length = ⊥
IsPlain p.Positions = ⊥
IsPlain p.IndexOr = ⊥
IsPlain p.Reduce = ⊥
IsPlain p.Fold = ⊥
IsPlain p.Iota = ⊥
IsPlain p.Reshape = ⊥
IsPlain p.Ravel = ⊥
IsPlain p.Filter = ⊥
IsPlain _ = ⊤
