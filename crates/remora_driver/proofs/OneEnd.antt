-- A code ends once, and so do the steps of a program.
use Rattle.std.proofs.Common.{◌≡◌, refl, sym, ap, ◌∙◌, subst, ℕ, zero, suc, ◌≤◌, List}
use Rattle.std.proofs.Math.Logic.{∥∥₁_elim, ∥∥₁_map}
use Rattle.std.specs.Coded.{Coded, Coded-set, code_by, coded_list, coded_ℕ}
use Rattle.core_syntax.specs.declared.errors.StuckKind.{StuckKind}
use Rattle.core_syntax.specs.declared.errors.StuckKind.TheVariants.{Operand, Kind, Rank, Shape}
use Rattle.core_syntax.specs.declared.errors.TrapKind.{TrapKind}
use Rattle.core_syntax.specs.declared.errors.TrapKind.TheVariants.{Overflow, Zero, Size}
use Rattle.core_syntax.specs.Data.{Data, FitsValues, array_of_value}
use Rattle.core_syntax.specs.Lists.{each}
use Rattle.core_syntax.specs.Notes.{NodeNote}
use Rattle.core_syntax.specs.Start.{def_terms, start_term, Reaches, SourceTraps, SourceGoes}
use Rattle.core_syntax.specs.Syntax.{Ty, Program}
use Rattle.core_syntax.specs.Typed.{typed_rules, TypedTerm}
use Rattle.array_values.specs.Data.{array_data}
use Rattle.array_values.specs.Values.{Array}
use Rattle.array_values.specs.declared.value.Value.{Value}
use Rattle.machine_table.specs.Codes.{Code}
use Rattle.machine_table.specs.Ends.{Ends}
use Rattle.machine_table.specs.Machine.{Outcome, Done, Trap, Stuck}
use Rattle.machine_table.specs.ValueRules.{value_rules}
use Rattle.reduction_laws.proofs.runs.Once.{one_value, one_trap, not_both}
use Rattle.value_text.specs.ValueText.{array_text}
use Rattle.value_text.proofs.DataTexts.{text_by_data}
use Rattle.remora_driver.specs.declared.telling.Telling.{Telling}
use Rattle.remora_driver.specs.Due.{Answer, written, trapped, stuck, outcome_answer, StillRuns, HasCodeEnd, ends, goes_on, HasEnd, reaches, traps, keeps_going}
use Rattle.remora_driver.specs.Texts.{line, told_text}
use Rattle.remora_driver.proofs.DataArrays.{same_arrays}
use Rattle.compiled_laws.proofs.Results.{code_ends_once}

-- ---- kinds

abbrev kind_number : TrapKind → ℕ
kind_number Overflow = 0
kind_number Zero = 1
kind_number Size = 2

abbrev numbered : ℕ → TrapKind
numbered zero = Overflow
numbered (suc zero) = Zero
numbered (suc (suc n)) = Size

kind_numbered : (k : TrapKind) → numbered (kind_number k) ≡ k
kind_numbered Overflow = refl
kind_numbered Zero = refl
kind_numbered Size = refl

pub coded_kind : Coded TrapKind
coded_kind = code_by ℕ coded_ℕ kind_number numbered kind_numbered

abbrev stuck_number : StuckKind → ℕ
stuck_number Operand = 0
stuck_number Kind = 1
stuck_number Rank = 2
stuck_number Shape = 3

abbrev stuck_numbered : ℕ → StuckKind
stuck_numbered zero = Operand
stuck_numbered (suc zero) = Kind
stuck_numbered (suc (suc zero)) = Rank
stuck_numbered (suc (suc (suc n))) = Shape

stuck_kind_numbered : (k : StuckKind) → stuck_numbered (stuck_number k) ≡ k
stuck_kind_numbered Operand = refl
stuck_kind_numbered Kind = refl
stuck_kind_numbered Rank = refl
stuck_kind_numbered Shape = refl

coded_stuck : Coded StuckKind
coded_stuck = code_by ℕ coded_ℕ stuck_number stuck_numbered stuck_kind_numbered

-- ---- runs

-- what there is some proof of isn't refuted
pub not_so : {A : Type 0} → ∥ A ∥₁ → (A → ⊥) → ⊥
not_so h f = ∥∥₁_elim h (λ x y. absurd x) f

done_or_trap : (x : Array) (k : TrapKind) → ◌≡◌ {A = Outcome Value} (Done x) (Trap k) → ⊥
done_or_trap x k e = absurd (cc)

done_or_stuck : (x : Array) (k : StuckKind) → ◌≡◌ {A = Outcome Value} (Done x) (Stuck k) → ⊥
done_or_stuck x k e = absurd (cc)

trap_or_stuck : (k : TrapKind) (l : StuckKind) → ◌≡◌ {A = Outcome Value} (Trap k) (Stuck l) → ⊥
trap_or_stuck k l e = absurd (cc)

done_same : (x y : Array) → ◌≡◌ {A = Outcome Value} (Done x) (Done y) → x ≡ y
done_same x y e = cc

trap_same : (k l : TrapKind) → ◌≡◌ {A = Outcome Value} (Trap k) (Trap l) → k ≡ l
trap_same k l e = cc

stuck_same : (k l : StuckKind) → ◌≡◌ {A = Outcome Value} (Stuck k) (Stuck l) → k ≡ l
stuck_same k l e = cc

-- an end at a step stands for one answer
module _ (how : Telling) where
  told_same : (n m : ℕ) (x y : Array) → n ≡ m → x ≡ y → told_text how n (array_text x) ≡ told_text how m (array_text y)
  told_same n m x y same are = ap (λ (k : ℕ). told_text how k (array_text x)) same ∙ ap (λ (z : Array). told_text how m (array_text z)) are

  one_outcome : (n m : ℕ) (o p : Outcome Value) → ∥ (n ≡ m) × (o ≡ p) ∥₁ → outcome_answer how n o ≡ outcome_answer how m p
  one_outcome n m (Done x) (Done y) same =
      ap (λ (text : List ℕ). written (line text))
      (∥∥₁_elim same (Coded-set (coded_list coded_ℕ) (told_text how n (array_text x)) (told_text how m (array_text y))) (λ e. told_same n m x y e.0 (done_same x y e.1)))
  one_outcome n m (Done x) (Trap k) same = absurd (not_so same (λ e. done_or_trap x k e.1))
  one_outcome n m (Done x) (Stuck k) same = absurd (not_so same (λ e. done_or_stuck x k e.1))
  one_outcome n m (Trap k) (Done x) same = absurd (not_so same (λ e. done_or_trap x k (sym e.1)))
  one_outcome n m (Trap k) (Trap l) same = ap trapped (∥∥₁_elim same (Coded-set coded_kind k l) (λ e. trap_same k l e.1))
  one_outcome n m (Trap k) (Stuck l) same = absurd (not_so same (λ e. trap_or_stuck k l e.1))
  one_outcome n m (Stuck k) (Done x) same = absurd (not_so same (λ e. done_or_stuck x k (sym e.1)))
  one_outcome n m (Stuck k) (Trap l) same = absurd (not_so same (λ e. trap_or_stuck l k (sym e.1)))
  one_outcome n m (Stuck k) (Stuck l) same = ap stuck (∥∥₁_elim same (Coded-set coded_stuck k l) (λ e. stuck_same k l e.1))

-- two ends of a code on arrays with the same values, which fit
module _ (how : Telling) (c d : Code) (same : ∥ c ≡ d ∥₁) (budget : ℕ) (types : List Ty) (xs : List Data) (fits : FitsValues types xs) where
  inputs_same : (i j : List Array) → each array_data i ≡ xs → each array_data j ≡ xs → i ≡ j
  inputs_same i j e f = same_arrays types i j (subst (FitsValues types) (sym e) fits) (e ∙ sym f)

  -- an end of one code on some arrays is that of the other on the same
  moved : (i j : List Array) (n : ℕ) (o : Outcome Value) → i ≡ j → c ≡ d → Ends value_rules c i n o → Ends value_rules d j n o
  moved i j n o are s e = subst (λ (l : List Array). Ends value_rules d l n o) are (subst (λ (code : Code). Ends value_rules code i n o) s e)

  moved_back : (i j : List Array) (n : ℕ) (o : Outcome Value) → i ≡ j → c ≡ d → Ends value_rules d j n o → Ends value_rules c i n o
  moved_back i j n o are s e = subst (λ (l : List Array). Ends value_rules c l n o) (sym are) (subst (λ (code : Code). Ends value_rules code j n o) (sym s) e)

  ends_once : (i j : List Array) (n m : ℕ) (o p : Outcome Value) → i ≡ j → Ends value_rules c i n o → Ends value_rules d j m p → ∥ (n ≡ m) × (o ≡ p) ∥₁
  ends_once i j n m o p are e f = ∥∥₁_map same (λ s. code_ends_once d j n m o p (moved i j n o are s e) f)

  ends_late : (i j : List Array) (n : ℕ) (o : Outcome Value) → i ≡ j → n ≤ budget → Ends value_rules c i n o → StillRuns d j budget → ⊥
  ends_late i j n o are le e going = not_so same (λ s. going n o le (moved i j n o are s e))

  goes_late : (i j : List Array) (n : ℕ) (o : Outcome Value) → i ≡ j → n ≤ budget → Ends value_rules d j n o → StillRuns c i budget → ⊥
  goes_late i j n o are le e going = not_so same (λ s. going n o le (moved_back i j n o are s e))

  pub one_code_end : (a b : Answer) → HasCodeEnd how c budget xs a → HasCodeEnd how d budget xs b → a ≡ b
  one_code_end a b (ends i n o seen le end p) (ends j m o' seen' le' end' q) = p ∙ one_outcome how n m o o' (ends_once i j n m o o' (inputs_same i j seen seen') end end') ∙ sym q
  one_code_end a b (ends i n o seen le end p) (goes_on j seen' going q) = absurd (ends_late i j n o (inputs_same i j seen seen') le end going)
  one_code_end a b (goes_on i seen going p) (ends j n o seen' le end q) = absurd (goes_late i j n o (inputs_same i j seen seen') le end going)
  one_code_end a b (goes_on i seen going p) (goes_on j seen' going' q) = p ∙ sym q

-- ---- reductions

-- two ends of the steps of one program
module _ (P : Program) (ns ms : List NodeNote) (same : ∥ ns ≡ ms ∥₁) (xs : List Data) where
  pub values_agree : (k l : ℕ) (v w : TypedTerm) (x y : Array) → Reaches P ns xs k v → Reaches P ms xs l w → array_data x ≡ array_of_value typed_rules v → array_data y ≡ array_of_value typed_rules w → array_text x ≡ array_text y
  values_agree k l v w x y r s is is' =
      ∥∥₁_elim same (Coded-set (coded_list coded_ℕ) (array_text x) (array_text y)) (λ e.
      let one : v ≡ w = (one_value typed_rules (def_terms P ms) k l (start_term P ms xs) v w (subst (λ (os : List NodeNote). Reaches P os xs k v) e r) s).1 in
      text_by_data x y (is ∙ ap (array_of_value typed_rules) one ∙ sym is'))

  pub kinds_agree : (k l : ℕ) (kind kind' : TrapKind) → SourceTraps P ns xs k kind → SourceTraps P ms xs l kind' → kind ≡ kind'
  kinds_agree k l kind kind' r s =
      ∥∥₁_elim same (Coded-set coded_kind kind kind') (λ e. (one_trap typed_rules (def_terms P ms) k l (start_term P ms xs) kind kind' (subst (λ (os : List NodeNote). SourceTraps P os xs k kind) e r) s).1)

  pub value_or_trap : (k l : ℕ) (v : TypedTerm) (kind : TrapKind) → Reaches P ns xs k v → SourceTraps P ms xs l kind → ⊥
  value_or_trap k l v kind r s =
      ∥∥₁_elim same (λ x y. absurd x) (λ e. not_both typed_rules (def_terms P ms) k l (start_term P ms xs) v kind (subst (λ (os : List NodeNote). Reaches P os xs k v) e r) s)

  pub trap_or_value : (k l : ℕ) (kind : TrapKind) (w : TypedTerm) → SourceTraps P ns xs k kind → Reaches P ms xs l w → ⊥
  trap_or_value k l kind w r s =
      ∥∥₁_elim same (λ x y. absurd x) (λ e. not_both typed_rules (def_terms P ms) l k (start_term P ms xs) w kind s (subst (λ (os : List NodeNote). SourceTraps P os xs k kind) e r))

-- and within one budget
module _ (P : Program) (ns ms : List NodeNote) (same : ∥ ns ≡ ms ∥₁) (xs : List Data) (budget : ℕ) where
  -- what goes on has no end
  no_value : (k : ℕ) (v : TypedTerm) → k ≤ budget → Reaches P ns xs k v → SourceGoes P ms xs budget → ⊥
  no_value k v le r going = ∥∥₁_elim same (λ x y. absurd x) (λ e. (going k le).0 v (subst (λ (os : List NodeNote). Reaches P os xs k v) e r))

  no_trap : (k : ℕ) (kind : TrapKind) → k ≤ budget → SourceTraps P ns xs k kind → SourceGoes P ms xs budget → ⊥
  no_trap k kind le r going = ∥∥₁_elim same (λ x y. absurd x) (λ e. (going k le).1 kind (subst (λ (os : List NodeNote). SourceTraps P os xs k kind) e r))

  going_or_value : (l : ℕ) (w : TypedTerm) → l ≤ budget → SourceGoes P ns xs budget → Reaches P ms xs l w → ⊥
  going_or_value l w le going s = ∥∥₁_elim same (λ x y. absurd x) (λ e. (going l le).0 w (subst (λ (os : List NodeNote). Reaches P os xs l w) (sym e) s))

  going_or_trap : (l : ℕ) (kind : TrapKind) → l ≤ budget → SourceGoes P ns xs budget → SourceTraps P ms xs l kind → ⊥
  going_or_trap l kind le going s = ∥∥₁_elim same (λ x y. absurd x) (λ e. (going l le).1 kind (subst (λ (os : List NodeNote). SourceTraps P os xs l kind) (sym e) s))

  pub one_end : (a b : Answer) → HasEnd P ns budget xs a → HasEnd P ms budget xs b → a ≡ b
  one_end a b (reaches k v x le r is p) (reaches l w y le' s is' q) = p ∙ ap (λ (text : List ℕ). written (line text)) (values_agree P ns ms same xs k l v w x y r s is is') ∙ sym q
  one_end a b (reaches k v x le r is p) (traps l kind le' s q) = absurd (value_or_trap P ns ms same xs k l v kind r s)
  one_end a b (reaches k v x le r is p) (keeps_going going q) = absurd (no_value k v le r going)
  one_end a b (traps k kind le r p) (reaches l w y le' s is' q) = absurd (trap_or_value P ns ms same xs k l kind w r s)
  one_end a b (traps k kind le r p) (traps l kind' le' s q) = p ∙ ap trapped (kinds_agree P ns ms same xs k l kind kind' r s) ∙ sym q
  one_end a b (traps k kind le r p) (keeps_going going q) = absurd (no_trap k kind le r going)
  one_end a b (keeps_going going p) (reaches l w y le' s is' q) = absurd (going_or_value l w le' going s)
  one_end a b (keeps_going going p) (traps l kind le' s q) = absurd (going_or_trap l kind le' going s)
  one_end a b (keeps_going going p) (keeps_going going' q) = p ∙ sym q
