-- Indices of sort Dim, read and spelled.
use Rattle.std.proofs.Common.{◌≡◌, ◌⊎◌, inl, inr, ℕ, zero, suc, ◌+◌, ◌-◌, ◌^◌, ◌≤◌, Bool, true, false, List, [], ◌∷◌, ◌++◌, length, Err, ap, sym, ◌∙◌, refl, arith, lit<, lit≤, Option, Some, None}
use Rattle.std.specs.Prelude.{codes}
use Rattle.std.specs.Fmt.{decimal}
use Rattle.std.proofs.lemmas.Bool.{false≢true}
use Rattle.core_syntax.specs.declared.index.Sort.{Sort}
use Rattle.core_syntax.specs.declared.index.Sort.TheVariants as sort
use Rattle.machine_table.specs.IndexBounds.{Scope, InBlock, Under, IsVar, IsDim}
use Rattle.code_text.specs.IndexText.{name_text, SumPart, Variable, Number, constants, sum_parts, part_text}
use Rattle.code_text.specs.Reading.{Reader, is_hex, number_at, plainly, behind, made, both_at, either_at, some_items}
use Rattle.code_text.specs.IndexReading.{lead, largest, var_at, has_var, sum_room, sum_item, sum_next, sum_first, sum_others, sum_at, alone, constant_at, parts_among, parts_at, linear_of, dim_at}
use Rattle.code_text.proofs.codecs.Codec.{Codec, loosen, forget, made_codec, both_codec}
use Rattle.code_text.proofs.codecs.Parts.{behind_codec, number_codec, positive_codec}
use Rattle.code_text.proofs.codecs.Either.{either_codec}
use Rattle.code_text.proofs.codecs.Many.{same_codec, fronted_codec, agree, respell_where, SomeItems, EachItem, some_codec}
use Rattle.code_text.proofs.indices.Sums.{IsVarUpTo, IsPart, Falling, parts_linear, linear_is, linear_parts, parts_fall}
use Rattle.code_text.proofs.forms.IndexForms.{sum_form, dim_form}
use Rattle.code_text.proofs.forms.Lists.{listed}

-- a variable behind its first byte
abbrev pub number_text : Scope → ℕ → List ℕ
number_text InBlock k = decimal k
number_text (Under binders) k = decimal (length binders - suc k)

-- some variable with a number of at most top
abbrev pub AnyVar : Scope → Sort → ℕ → Type 0
AnyVar scope s top = (k : ℕ) × IsVarUpTo scope s top k

-- A scope whose variables are read and spelled.
pub record Scoped (scope : Scope) : Type 0 where
  pub var : (s : Sort) (top : ℕ) → top ≤ largest → AnyVar scope s top → Codec false true (var_at scope s top) (number_text scope) (IsVarUpTo scope s top)
  pub any : (s : Sort) → has_var scope s ≡ true → AnyVar scope s largest
  pub known : (s : Sort) (k : ℕ) → IsVar scope s k → k ≤ largest
  pub has : (s : Sort) (k : ℕ) → IsVar scope s k → has_var scope s ≡ true

pub name_is : (scope : Scope) (k : ℕ) → name_text scope k ≡ lead scope ∷ number_text scope k
name_is InBlock k = refl
name_is (Under binders) k = refl

pub lead_other : (scope : Scope) → is_hex (lead scope) ≡ false
lead_other InBlock = refl
lead_other (Under binders) = refl

pub no_number : (high n : ℕ) (b : Bool) → plainly (number_at b high) n [] ≡ Err 0
unfolding number_at
no_number high n b = refl

lead_no_number : (scope : Scope) (high : ℕ) (b : Bool) (z : List ℕ) → number_at b high (lead scope ∷ z) ≡ Err (length z + 1)
unfolding number_at
lead_no_number InBlock high b z = refl
lead_no_number (Under binders) high b z = refl

bracket_no_number : (high : ℕ) (b : Bool) (z : List ℕ) → number_at b high (40 ∷ z) ≡ Err (length z + 1)
unfolding number_at
bracket_no_number high b z = refl

-- what is made of a refusal
pub made_err : {A B : Type 0} (f : A → B) (p : Reader A) (n m : ℕ) (s : List ℕ) → p n s ≡ Err m → made f p n s ≡ Err m
made_err f p n m s e = ap (λ r. made f (λ _ _. r) n s) e

-- ---- parts of a sum

-- a part that is a variable, behind its first byte, and one that is a number
var_text : Scope → SumPart → List ℕ
var_text scope (Variable k) = number_text scope k
var_text scope (Number n) = []

num_text : SumPart → List ℕ
num_text (Variable k) = []
num_text (Number n) = decimal n

IsVariable : Scope → ℕ → SumPart → Type 0
IsVariable scope top (Variable k) = IsVarUpTo scope sort.Dim top k
IsVariable scope top (Number n) = ⊥

IsNumber : SumPart → Type 0
IsNumber (Variable k) = ⊥
IsNumber (Number n) = (1 ≤ n) × (n ≤ 2 ^ 40)

module _ (scope : Scope) (S : Scoped scope) where
  variable_codec : (top : ℕ) → top ≤ largest → AnyVar scope sort.Dim top → Codec false true (made Variable (var_at scope sort.Dim top)) (var_text scope) (IsVariable scope top)
  unfolding var_text IsVariable
  variable_codec top le some = made_codec Variable (var_at scope sort.Dim top) (number_text scope) (IsVarUpTo scope sort.Dim top) (var_text scope) (IsVariable scope top) (λ k is. refl) (λ k is. is) from false true (S.var sort.Dim top le some)
    where
      from : (p : SumPart) → IsVariable scope top p → (k : ℕ) × IsVarUpTo scope sort.Dim top k × (Variable k ≡ p)
      from (Variable k) is = (k, is, refl)
      from (Number n) is = absurd is

  constant_part : Codec false true (made Number (plainly (number_at false (2 ^ 40)))) num_text IsNumber
  unfolding num_text IsNumber
  constant_part = made_codec Number (plainly (number_at false (2 ^ 40))) decimal (λ n. (1 ≤ n) × (n ≤ 2 ^ 40)) num_text IsNumber (λ n is. refl) (λ n is. is) from false true (positive_codec (2 ^ 40) (lit≤ tt) (lit< tt))
    where
      from : (p : SumPart) → IsNumber p → (n : ℕ) × ((1 ≤ n) × (n ≤ 2 ^ 40)) × (Number n ≡ p)
      from (Variable k) is = absurd is
      from (Number n) is = (n, is, refl)

  -- a state from which something may come
  abbrev Usable : Option ℕ → Type 0
  Usable None = Unit {0}
  Usable (Some top) = (top ≤ largest) × AnyVar scope sort.Dim top

  item_codec : (s : Option ℕ) → Usable s → sum_room s ≡ true → Codec false true (sum_item scope s) (part_text scope) (IsPart scope s)
  unfolding var_text IsVariable num_text IsNumber
  item_codec None v e = absurd (false≢true e)
  item_codec (Some top) v e =
      same_codec false true (sum_item scope (Some top)) (either_at (lead scope) (made Variable (var_at scope sort.Dim top)) (made Number (plainly (number_at false (2 ^ 40))))) (part_text scope) (IsPart scope (Some top)) (λ n s. refl)
      (either_codec (lead scope) (made Variable (var_at scope sort.Dim top)) (made Number (plainly (number_at false (2 ^ 40))))
      (λ n. made_err Number (plainly (number_at false (2 ^ 40))) n 0 [] (no_number (2 ^ 40) n false))
      (λ n z. made_err Number (plainly (number_at false (2 ^ 40))) n (length z + 1) (lead scope ∷ z) (lead_no_number scope (2 ^ 40) false z))
      (var_text scope) num_text (IsVariable scope top) IsNumber (part_text scope) (IsPart scope (Some top)) true (variable_codec top v.0 v.1) constant_part up also down)
    where
      up : (p : SumPart) → IsVariable scope top p → IsPart scope (Some top) p × (part_text scope p ≡ lead scope ∷ var_text scope p)
      up (Variable k) is = (is, name_is scope k)
      up (Number n) is = absurd is

      also : (p : SumPart) → IsNumber p → IsPart scope (Some top) p × (part_text scope p ≡ num_text p)
      also (Variable k) is = absurd is
      also (Number n) is = (is, refl)

      down : (p : SumPart) → IsPart scope (Some top) p → IsVariable scope top p ⊎ IsNumber p
      down (Variable k) is = inl is
      down (Number n) is = inr is

  item_later : (s : Option ℕ) (p : SumPart) → Usable s → IsPart scope s p → Usable (sum_next s p)
  item_later None p v is = absurd is
  item_later (Some top) (Variable k) v is = (omega (arith, is.1, v.0), (k, (is.0, omega arith)))
  item_later (Some top) (Number n) v is = tt

  abbrev Others : Option ℕ → List SumPart → Type 0
  Others s ps = SomeItems 41 refl refl sum_room (sum_item scope) sum_next (part_text scope) Usable (IsPart scope) item_codec item_later s ps

  abbrev Rest : Option ℕ → List SumPart → Type 0
  Rest s ps = EachItem 41 refl refl sum_room (sum_item scope) sum_next (part_text scope) Usable (IsPart scope) item_codec item_later s ps

  rest_falls : (s : Option ℕ) (ps : List SumPart) → Rest s ps → Falling scope s ps
  rest_falls s [] is = tt
  rest_falls s (p ∷ ps) is = (is.1, rest_falls (sum_next s p) ps is.2)

  falls_rest : (s : Option ℕ) (ps : List SumPart) → Falling scope s ps → Rest s ps
  falls_rest s [] is = tt
  falls_rest None (p ∷ ps) is = absurd is.0
  falls_rest (Some top) (p ∷ ps) is = (refl, is.0, falls_rest (sum_next (Some top) p) ps is.1)

  -- the parts of a sum, at least two, behind `(+ `
  abbrev pub IsSum : List SumPart → Type 0
  IsSum [] = ⊥
  IsSum (p ∷ []) = ⊥
  IsSum (p ∷ (q ∷ qs)) = Falling scope (Some largest) (p ∷ (q ∷ qs))

  abbrev pub sum_rest : List SumPart → List ℕ
  sum_rest [] = []
  sum_rest (p ∷ ps) = part_text scope p ++ 32 ∷ listed 41 (part_text scope) ps

  first_codec : AnyVar scope sort.Dim largest → Codec true true (sum_first scope) (part_text scope) (IsVariable scope largest)
  unfolding var_text IsVariable
  first_codec some =
      respell_where true true (sum_first scope) (λ p. (lead scope ∷ []) ++ var_text scope p) (part_text scope) (IsVariable scope largest) same
      (behind_codec (lead scope ∷ []) (made Variable (var_at scope sort.Dim largest)) (var_text scope) (IsVariable scope largest) true false true (lead_other scope) (variable_codec largest (omega arith) some))
    where
      same : (p : SumPart) → IsVariable scope largest p → part_text scope p ≡ (lead scope ∷ []) ++ var_text scope p
      same (Variable k) is = name_is scope k
      same (Number n) is = absurd is

  others_codec : (p : SumPart) → IsVariable scope largest p → Codec true false (sum_others scope p) (λ ps. 32 ∷ listed 41 (part_text scope) ps) (Others (sum_next None p))
  unfolding IsVariable
  others_codec (Variable k) is =
      behind_codec (32 ∷ []) (some_items 41 sum_room (sum_item scope) sum_next (Some k)) (listed 41 (part_text scope)) (Others (Some k)) true false false refl
      (some_codec 41 refl refl sum_room (sum_item scope) sum_next (part_text scope) Usable (IsPart scope) item_codec item_later (Some k) (is.1, (k, (is.0, omega arith))) refl)
  others_codec (Number n) is = absurd is

  -- a sum behind `(+ `
  pub sum_codec : AnyVar scope sort.Dim largest → Codec false false (sum_at scope) sum_rest IsSum
  unfolding IsVariable
  sum_codec some =
      fronted_codec false false (sum_first scope) (sum_others scope) sum_rest IsSum
      (made_codec (λ x. x.0 ∷ x.1) (both_at (sum_first scope) (sum_others scope)) (λ x. part_text scope x.0 ++ 32 ∷ listed 41 (part_text scope) x.1) (λ x. IsVariable scope largest x.0 × Others (sum_next None x.0) x.1) sum_rest IsSum
      (λ x is. refl) (λ x is. to x.0 x.1 is) from false false
      (forget true false (both_at (sum_first scope) (sum_others scope)) _ _
      (both_codec (sum_first scope) (part_text scope) (IsVariable scope largest) (sum_others scope) (λ p ps. 32 ∷ listed 41 (part_text scope) ps) (λ p. Others (sum_next None p)) true true true false refl (first_codec some) others_codec)))
    where
      to : (p : SumPart) (ps : List SumPart) → IsVariable scope largest p × Others (sum_next None p) ps → IsSum (p ∷ ps)
      to (Number n) ps is = absurd is.0
      to (Variable k) [] is = absurd is.1
      to (Variable k) (q ∷ qs) is = (is.0, (is.1.0, rest_falls (sum_next (Some k) q) qs is.1.1))

      from : (ps : List SumPart) → IsSum ps → (x : SumPart × List SumPart) × (IsVariable scope largest x.0 × Others (sum_next None x.0) x.1) × (x.0 ∷ x.1 ≡ ps)
      from [] is = absurd is
      from (p ∷ []) is = absurd is
      from (Variable k ∷ (q ∷ qs)) is = ((Variable k, q ∷ qs), (is.0, (is.1.0, falls_rest (sum_next (Some k) q) qs is.1.1)), refl)
      from (Number n ∷ (q ∷ qs)) is = absurd is.1.0

  -- ---- the parts of an index

  abbrev IsParts : List SumPart → Type 0
  IsParts ps = Falling scope (Some largest) ps

  -- no variable
  unfoldable pub IsConstant : List SumPart → Type 0
  IsConstant [] = Unit {0}
  IsConstant (Number n ∷ []) = (1 ≤ n) × (n ≤ 2 ^ 40)
  IsConstant (Number n ∷ (q ∷ qs)) = ⊥
  IsConstant (Variable k ∷ ps) = ⊥

  pub constants_codec : Codec false true constant_at (sum_form scope) IsConstant
  unfolding IsConstant
  constants_codec = made_codec constants (plainly (number_at true (2 ^ 40))) decimal (λ n. n ≤ 2 ^ 40) (sum_form scope) IsConstant spelled holds from false true (number_codec (2 ^ 40) (lit< tt))
    where
      spelled : (n : ℕ) → n ≤ 2 ^ 40 → sum_form scope (constants n) ≡ decimal n
      spelled zero is = refl
      spelled (suc n) is = refl

      holds : (n : ℕ) → n ≤ 2 ^ 40 → IsConstant (constants n)
      holds zero is = tt
      holds (suc n) is = (omega arith, is)

      from : (ps : List SumPart) → IsConstant ps → (n : ℕ) × (n ≤ 2 ^ 40) × (constants n ≡ ps)
      from [] is = (0, omega arith, refl)
      from (Number zero ∷ []) is = absurd (omega (arith, is.0))
      from (Number (suc n) ∷ []) is = (suc n, is.1, refl)
      from (Number n ∷ (q ∷ qs)) is = absurd is
      from (Variable k ∷ ps) is = absurd is

  -- a variable alone, behind its first byte
  alone_text : List SumPart → List ℕ
  alone_text [] = []
  alone_text (p ∷ ps) = var_text scope p

  IsAlone : List SumPart → Type 0
  IsAlone [] = ⊥
  IsAlone (Variable k ∷ []) = IsVarUpTo scope sort.Dim largest k
  IsAlone (Number n ∷ []) = ⊥
  IsAlone (p ∷ (q ∷ qs)) = ⊥

  alone_codec : AnyVar scope sort.Dim largest → Codec false true (made alone (var_at scope sort.Dim largest)) alone_text IsAlone
  unfolding alone_text IsAlone var_text
  alone_codec some = made_codec alone (var_at scope sort.Dim largest) (number_text scope) (IsVarUpTo scope sort.Dim largest) alone_text IsAlone (λ k is. refl) (λ k is. is) from false true (S.var sort.Dim largest (omega arith) some)
    where
      from : (ps : List SumPart) → IsAlone ps → (k : ℕ) × IsVarUpTo scope sort.Dim largest k × (alone k ≡ ps)
      from [] is = absurd is
      from (Variable k ∷ []) is = (k, is, refl)
      from (Number n ∷ []) is = absurd is
      from (p ∷ (q ∷ qs)) is = absurd is

  abbrev bracketed_at : Reader (List SumPart)
  bracketed_at = behind (codes "+ ") (sum_at scope)

  -- not a variable alone
  NotAlone : List SumPart → Type 0
  NotAlone ps = IsSum ps ⊎ IsConstant ps

  constant_none : (n : ℕ) → constant_at n [] ≡ Err 0
  constant_none n = made_err constants (plainly (number_at true (2 ^ 40))) n 0 [] (no_number (2 ^ 40) n true)

  either_none : (n : ℕ) → either_at 40 bracketed_at constant_at n [] ≡ Err 0
  unfolding either_at
  either_none n = refl

  either_lead : (n : ℕ) (z : List ℕ) → either_at 40 bracketed_at constant_at n (lead scope ∷ z) ≡ Err (length z + 1)
  unfolding either_at
  either_lead n z = go scope n z
    where
      go : (s : Scope) (n : ℕ) (z : List ℕ) → either_at 40 bracketed_at constant_at n (lead s ∷ z) ≡ Err (length z + 1)
      go InBlock n z = made_err constants (plainly (number_at true (2 ^ 40))) n (length z + 1) (37 ∷ z) (lead_no_number InBlock (2 ^ 40) true z)
      go (Under binders) n z = made_err constants (plainly (number_at true (2 ^ 40))) n (length z + 1) (105 ∷ z) (lead_no_number (Under binders) (2 ^ 40) true z)

  bracket_text : List SumPart → List ℕ
  bracket_text ps = codes "+ " ++ sum_rest ps

  bracket_up : (ps : List SumPart) → IsSum ps → sum_form scope ps ≡ 40 ∷ bracket_text ps
  unfolding bracket_text
  bracket_up [] is = absurd is
  bracket_up (p ∷ []) is = absurd is
  bracket_up (p ∷ (q ∷ qs)) is = refl

  other_codec : AnyVar scope sort.Dim largest → Codec false true (either_at 40 bracketed_at constant_at) (sum_form scope) NotAlone
  unfolding NotAlone bracket_text
  other_codec some =
      either_codec 40 bracketed_at constant_at constant_none (λ n z. made_err constants (plainly (number_at true (2 ^ 40))) n (length z + 1) (40 ∷ z) (bracket_no_number (2 ^ 40) true z))
      bracket_text (sum_form scope) IsSum IsConstant (sum_form scope) NotAlone true
      (loosen false bracketed_at bracket_text IsSum (behind_codec (codes "+ ") (sum_at scope) sum_rest IsSum false false false tt (sum_codec some)))
      constants_codec (λ ps is. (inl is, bracket_up ps is)) (λ ps is. (inr is, refl)) (λ ps is. is)

  -- the parts of an index where there are variables
  some_parts : AnyVar scope sort.Dim largest → Codec false true (parts_among scope true) (sum_form scope) IsParts
  unfolding NotAlone IsAlone alone_text IsConstant var_text
  some_parts some =
      either_codec (lead scope) (made alone (var_at scope sort.Dim largest)) (either_at 40 bracketed_at constant_at) either_none either_lead
      alone_text (sum_form scope) IsAlone NotAlone (sum_form scope) IsParts true (alone_codec some) (other_codec some) up also down
    where
      up : (ps : List SumPart) → IsAlone ps → IsParts ps × (sum_form scope ps ≡ lead scope ∷ alone_text ps)
      up [] is = absurd is
      up (Variable k ∷ []) is = ((is, tt), name_is scope k)
      up (Number n ∷ []) is = absurd is
      up (p ∷ (q ∷ qs)) is = absurd is

      of_sum : (ps : List SumPart) → IsSum ps → IsParts ps
      of_sum [] is = absurd is
      of_sum (p ∷ []) is = absurd is
      of_sum (p ∷ (q ∷ qs)) is = is

      of_constant : (ps : List SumPart) → IsConstant ps → IsParts ps
      of_constant [] is = tt
      of_constant (Number n ∷ []) is = (is, tt)
      of_constant (Number n ∷ (q ∷ qs)) is = absurd is
      of_constant (Variable k ∷ ps) is = absurd is

      also : (ps : List SumPart) → NotAlone ps → IsParts ps × (sum_form scope ps ≡ sum_form scope ps)
      also ps (inl is) = (of_sum ps is, refl)
      also ps (inr is) = (of_constant ps is, refl)

      down : (ps : List SumPart) → IsParts ps → IsAlone ps ⊎ NotAlone ps
      down [] is = inr (inr tt)
      down (Variable k ∷ []) is = inl is.0
      down (Number n ∷ []) is = inr (inr is.0)
      down (p ∷ (q ∷ qs)) is = inr (inl is)

  -- and where there are none
  no_parts : has_var scope sort.Dim ≡ false → Codec false true constant_at (sum_form scope) IsParts
  unfolding IsConstant
  no_parts none = agree false true constant_at (sum_form scope) IsConstant IsParts to from constants_codec
    where
      to : (ps : List SumPart) → IsConstant ps → IsParts ps
      to [] is = tt
      to (Number n ∷ []) is = (is, tt)
      to (Number n ∷ (q ∷ qs)) is = absurd is
      to (Variable k ∷ ps) is = absurd is

      from : (ps : List SumPart) → IsParts ps → IsConstant ps
      from [] is = tt
      from (Variable k ∷ ps) is = absurd (false≢true (sym none ∙ S.has sort.Dim k is.0.0))
      from (Number n ∷ []) is = is.0
      from (Number n ∷ (q ∷ qs)) is = absurd is.1.0

  parts_codec : (b : Bool) → has_var scope sort.Dim ≡ b → Codec false true (parts_among scope b) (sum_form scope) IsParts
  parts_codec true e = some_parts (S.any sort.Dim e)
  parts_codec false e = no_parts e

  -- an index of sort Dim
  pub dim_codec : Codec false true (dim_at scope) (dim_form scope) (IsDim scope)
  dim_codec =
      made_codec linear_of (parts_at scope) (sum_form scope) IsParts (dim_form scope) (IsDim scope)
      (λ ps is. ap (sum_form scope) (parts_linear scope (Some largest) ps is)) (λ ps is. linear_is scope (Some largest) ps is)
      (λ d is. (sum_parts d, parts_fall scope (S.known sort.Dim) d is, linear_parts d is.normal)) false true
      (parts_codec (has_var scope sort.Dim) refl)
