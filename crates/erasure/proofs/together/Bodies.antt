-- The entering rules and erasure: the body with arguments, types, indices or a box's content in place, erased, is the erased body with these in place.
use Rattle.std.proofs.Common.{◌≡◌, refl, sym, ◌∙◌, ap, ℕ, zero, suc, arith, List, [], ◌∷◌, true}
use mathlib.Core.Path.{fun_ext}
use Rattle.core_syntax.specs.declared.index.Sort.{Sort}
use Rattle.core_syntax.specs.declared.norm.NormIndex.TheVariants as norm
use Rattle.core_syntax.specs.Data.{HasSort}
use Rattle.core_syntax.specs.Kinds.{is_atom_kind}
use Rattle.core_syntax.specs.Lists.{Each, EachTwo, each, onto}
use Rattle.core_syntax.specs.Norm.{norm_dim}
use Rattle.core_syntax.specs.Sorts.{IsSorted}
use Rattle.core_syntax.specs.Subst.{put_first, put_all, Fate, Keep, Put, kept}
use Rattle.core_syntax.specs.Syntax.{Index, Num, Var, Sum, Dims, Join, Ty}
use Rattle.core_syntax.specs.TermPut.{term_put}
use Rattle.core_syntax.specs.TermTyping.{HasTerm}
use Rattle.core_syntax.specs.Terms.{DimValue, ShapeValue, IndexValue}
use Rattle.core_syntax.specs.Typed.{closed, closed_value, value_index, typed_rules, TypedTerm}
use Rattle.core_syntax.specs.Typing.{defs_only}
use Rattle.core_syntax.specs.Value.{dim_val}
use Rattle.core_syntax.proofs.NormValues.{norm_dim_value}
use Rattle.erasure.specs.Erased.{erased_rules}
use Rattle.erasure.specs.Erasure.{er, norm_in}
use Rattle.core_syntax.specs.NormPut.{norm_value, value_norm}
use Rattle.erasure.proofs.together.Applied.{no_coefs, erased_dims}
use Rattle.reduction_laws.proofs.steps.Parts.{nowhere}
use Rattle.reduction_laws.proofs.putting.Binders.{each-onto}
use Rattle.reduction_laws.proofs.steps.Bodies.{two_onto}
use Rattle.reduction_laws.proofs.putting.ClosedValues.{each_reversed}
use Rattle.erasure.proofs.together.Closed.{er_closed}
use Rattle.erasure.proofs.together.NormPuts.{as_index, numeral_letters}
use Rattle.erasure.proofs.together.Puts.{SortFate, ErPuts, AtomFate, ErFates, er_put}

-- ---- values of closed indices

pub erased_value : (q : Sort) (i : Index) → IsSorted [] q i → norm_value (norm_in [] i) ≡ closed_value i
erased_value q (Num at n) h = refl
erased_value q (Var at k) h = absurd (nowhere k q h)
erased_value q (Sum at is) h =
    ap DimValue (let z = no_coefs (norm_dim (Sum at is)).coefs in let e = norm_dim_value closed (Sum at is) in let c : (norm_dim (Sum at is)).constant ≡ dim_val closed (Sum at is) = omega arith in c)
erased_value q (Dims at is) h = ap ShapeValue (erased_dims (Dims at is))
erased_value q (Join at is) h = ap ShapeValue (erased_dims (Join at is))

pub erased_values : (ss : List Sort) (is : List Index) → EachTwo (IsSorted []) ss is → each norm_value (each (norm_in []) is) ≡ each closed_value is
erased_values [] [] h = refl
erased_values (s ∷ ss) (i ∷ is) h = λ j. erased_value s i h.0 j ∷ erased_values ss is h.1 j
erased_values [] (i ∷ is) h = absurd h
erased_values (s ∷ ss) [] h = absurd h

-- an index with a value, erased
er_value : (v : IndexValue) → norm_in [] (value_index v) ≡ value_norm v
er_value (DimValue n) = refl
er_value (ShapeValue ns) = ap (λ z. norm.Shape z) (numeral_letters ns)

pub er_values : (vs : List IndexValue) → each (norm_in []) (each value_index vs) ≡ each value_norm vs
er_values [] = refl
er_values (v ∷ vs) = λ i. er_value v i ∷ er_values vs i

-- ---- what is put

first_values : (vs : List IndexValue) (k : ℕ) → put_first (each value_index vs) k ≡ as_index (put_first vs k)
first_values [] k = refl
first_values (v ∷ vs) zero = refl
first_values (v ∷ vs) (suc k) = first_values vs k

all_values : (vs : List IndexValue) → put_all (each value_index vs) ≡ (λ (k : ℕ). as_index (put_all vs k))
all_values vs = ap put_first (sym (each-onto value_index vs [])) ∙ fun_ext (first_values (onto vs []))

first_sorts : (ss : List Sort) (vs : List IndexValue) → EachTwo HasSort ss vs → (k : ℕ) → SortFate ss [] k (put_first vs k)
first_sorts [] [] h k = refl
first_sorts (s ∷ ss) (v ∷ vs) h zero = (s, refl, h.0)
first_sorts (s ∷ ss) (v ∷ vs) h (suc k) = later (put_first vs k) (first_sorts ss vs h.1 k)
  where
    later : (f : Fate IndexValue) → SortFate ss [] k f → SortFate (s ∷ ss) [] (suc k) f
    later (Keep j) h = h
    later (Put v) h = h
first_sorts [] (v ∷ vs) h k = absurd h
first_sorts (s ∷ ss) [] h k = absurd h

indices_er : (ss : List Sort) (vs : List IndexValue) → EachTwo HasSort ss vs → ErPuts (onto ss []) [] (record { indices = put_all (each value_index vs); types = kept }) (put_all vs)
indices_er ss vs h = record { indices = all_values vs; sorts = first_sorts (onto ss []) (onto vs []) (two_onto HasSort ss vs [] [] h tt); types = λ k. tt }

first_atoms : (us : List Ty) → Each (λ u. is_atom_kind u ≡ true) us → (k : ℕ) → AtomFate (put_first us k)
first_atoms [] h k = tt
first_atoms (u ∷ us) h zero = h.0
first_atoms (u ∷ us) h (suc k) = first_atoms us h.1 k

pub nothing_er : ErPuts [] [] typed_rules.put_none kept
nothing_er = record { indices = refl; sorts = λ k. refl; types = λ k. tt }

kept_er : ErFates kept kept
kept_er k = refl

module _ (D : List Ty) where
  -- closed typed terms
  abbrev pub Closed : TypedTerm → Type 0
  Closed v = (t : Ty) × HasTerm (defs_only D) v t

  first_er : (vs : List TypedTerm) → Each Closed vs → ErFates (put_first vs) (put_first (each (er []) vs))
  first_er [] h k = refl
  first_er (v ∷ vs) h zero = (er [] v, refl, λ rs. er_closed D rs v h.0.0 h.0.1)
  first_er (v ∷ vs) h (suc k) = first_er vs h.1 k

  -- `beta`
  pub er_beta : (vs : List TypedTerm) (e : TypedTerm) → Each Closed vs → er [] (term_put typed_rules typed_rules.put_none (put_all vs) e) ≡ term_put erased_rules erased_rules.put_none (put_all (each (er []) vs)) (er [] e)
  er_beta vs e h =
      er_put [] [] typed_rules.put_none kept (put_all vs) (put_first (each (er []) (onto vs []))) nothing_er (first_er (onto vs []) (each_reversed Closed vs [] h tt)) e
      ∙ ap (λ ws. term_put erased_rules kept (put_first ws) (er [] e)) (each-onto (er []) vs [])

  -- `t-beta`
  pub er_type_beta : (us : List Ty) (e : TypedTerm) → Each (λ u. is_atom_kind u ≡ true) us → er [] (term_put typed_rules (typed_rules.put_types us) kept e) ≡ term_put erased_rules (erased_rules.put_types tt) kept (er [] e)
  er_type_beta us e h =
      er_put [] [] (typed_rules.put_types us) kept kept kept
      (record { indices = refl; sorts = λ k. refl; types = first_atoms (onto us []) (each_reversed (λ u. is_atom_kind u ≡ true) us [] h tt) }) kept_er e

  -- `i-beta`
  pub er_index_beta : (ss : List Sort) (vs : List IndexValue) (e : TypedTerm) → EachTwo HasSort ss vs
      → er [] (term_put typed_rules (typed_rules.put_indices vs) kept e) ≡ term_put erased_rules (erased_rules.put_indices vs) kept (er (onto ss []) e)
  er_index_beta ss vs e h = er_put (onto ss []) [] (typed_rules.put_indices vs) (put_all vs) kept kept (indices_er ss vs h) kept_er e

  -- `unbox`
  pub er_unbox : (ss : List Sort) (vs : List IndexValue) (x e : TypedTerm) → EachTwo HasSort ss vs → Closed x
      → er [] (term_put typed_rules (typed_rules.put_indices vs) (put_first (x ∷ [])) e) ≡ term_put erased_rules (erased_rules.put_indices vs) (put_first (er [] x ∷ [])) (er (onto ss []) e)
  er_unbox ss vs x e h c = er_put (onto ss []) [] (typed_rules.put_indices vs) (put_all vs) (put_first (x ∷ [])) (put_first (er [] x ∷ [])) (indices_er ss vs h) (first_er (x ∷ []) (c, tt)) e
