-- How primitives look at a machine's atoms is how the machine's table does.
use Rattle.std.proofs.Common.{◌≡◌, ◌∙◌, ap, sym, List, Option, Some, None, Bool}
use Rattle.core_syntax.specs.declared.errors.StuckKind.{StuckKind}
use Rattle.core_syntax.specs.declared.primitive.Primitive.{Primitive}
use Rattle.core_syntax.specs.Delta.{delta}
use Rattle.core_syntax.specs.DeltaStuck.{delta_stuck, given_values}
use Rattle.core_syntax.specs.Terms.{IndexValue}
use Rattle.array_values.specs.Values.{Array}
use Rattle.array_values.specs.declared.value.Value.{Value}
use Rattle.array_values.specs.declared.value.Value.TheVariants as atom
use Rattle.array_values.specs.declared.value.Value.TheVariants.{outs-Int, outs-Bool, outs-Char, outs-Prim, outs-Closure', outs-Boxed'}
use Rattle.machine_table.specs.Begins.{Entry, Refuses, answer_entry, prim_entry}
use Rattle.machine_table.specs.Values.{look, atom_rules}
use Rattle.machine_table.specs.ValueRules.{open_parts, value_parts, value_rules}
use Rattle.prim_kernels.specs.Kernels.{look_at, machine_atoms}

-- by the variant of an atom
look_is : (v : Value) → look (value_parts v) ≡ look_at v
look_is (atom.Int z) = ap (λ o. look (open_parts o)) (outs-Int z)
look_is (atom.Bool b) = ap (λ o. look (open_parts o)) (outs-Bool b)
look_is (atom.Char c) = ap (λ o. look (open_parts o)) (outs-Char c)
look_is (atom.Prim p) = ap (λ o. look (open_parts o)) (outs-Prim p)
look_is (atom.Closure' s c) = ap (λ o. look (open_parts o)) (outs-Closure' s c)
look_is (atom.Boxed' s b) = ap (λ o. look (open_parts o)) (outs-Boxed' s b)

pub table_rules : machine_atoms ≡ atom_rules value_rules
table_rules = λ i. record { look = λ v. sym (look_is v) i; int = machine_atoms.int; bool = machine_atoms.bool; box = machine_atoms.box }

-- what a primitive on arrays begins, by either
abbrev entry_by : Option StuckKind → Entry Value → Entry Value
entry_by stuck e = elim stuck as (λ o. Entry Value) [ Some k ↦ Refuses k | None ↦ e ]

module _ (q : Primitive) (typed : Bool) (is : Option (List IndexValue)) (xs : List Array) where
  pub table_entry : entry_by (delta_stuck machine_atoms q typed is xs) (answer_entry (delta machine_atoms q (given_values is) xs)) ≡ prim_entry value_rules q typed is xs
  table_entry = λ i. entry_by (delta_stuck (table_rules i) q typed is xs) (answer_entry (delta (table_rules i) q (given_values is) xs))

  -- a primitive that makes a machine stuck, and one that doesn't
  pub wrong_entry : (k : StuckKind) → delta_stuck machine_atoms q typed is xs ≡ Some k → Refuses k ≡ prim_entry value_rules q typed is xs
  wrong_entry k h = sym (ap (λ o. entry_by o (answer_entry (delta machine_atoms q (given_values is) xs))) h) ∙ table_entry

  pub given_entry : (e : Entry Value) → delta_stuck machine_atoms q typed is xs ≡ None → e ≡ answer_entry (delta machine_atoms q (given_values is) xs) → e ≡ prim_entry value_rules q typed is xs
  given_entry e h g = g ∙ sym (ap (λ o. entry_by o (answer_entry (delta machine_atoms q (given_values is) xs))) h) ∙ table_entry
