-- An accepted program is typed.
use Rattle.std.proofs.Common.{◌≡◌, ℕ, suc, List, [], ◌∷◌, ◌++◌, true, None}
use Rattle.core_syntax.specs.Syntax.{Ty, Def, Program}
use Rattle.core_syntax.specs.Lists.{Each}
use Rattle.core_syntax.specs.Kinds.{IsWellFormed, kind_blame}
use Rattle.core_syntax.specs.Made.{ArrayMade, behind_defs, DefsMade, IsWellMade}
use Rattle.core_syntax.specs.Typing.{is_printable, defs_only, DefsTyped, Typed}
use Rattle.core_syntax.specs.Blame.{defs_premises, inputs_premises, IsAccepted}
use Rattle.core_syntax.proofs.Closed.{has_same}
use Rattle.kind_check.proofs.FormedLemmas.{formed_from}
use Rattle.kind_check.proofs.MadeLemmas.{array_in_scope}

-- a closed type in which nothing is blamed is well formed
closed_formed : (defs : ℕ) (t : Ty) → ArrayMade (behind_defs defs) t → kind_blame [] t ≡ None → IsWellFormed 0 [] t
closed_formed defs t made e = formed_from 0 [] t (array_in_scope (behind_defs defs) t made) e

defs_typed : (earlier : List Ty) (n : ℕ) (ds : List Def) → DefsMade n ds → (defs_premises earlier ds).met → DefsTyped earlier ds
defs_typed earlier n [] made m = tt
defs_typed earlier n (d ∷ ds) made m =
    let formed : IsWellFormed 0 [] d.ty = closed_formed n d.ty made.0 m.0.0.0 in
    let found = m.0.1.1.1 in
    ((formed, m.0.1.0, has_same (defs_only earlier) d.value found.0 d.ty found.1 found.2 formed), defs_typed (earlier ++ d.ty ∷ []) (suc n) ds made.2 m.1)

inputs_typed : (ts : List Ty) → Each (ArrayMade (behind_defs 0)) ts → (inputs_premises ts).met → Each (λ t. IsWellFormed 0 [] t × (is_printable t ≡ true)) ts
inputs_typed [] made m = tt
inputs_typed (t ∷ ts) made m = ((closed_formed 0 t made.0 m.0.0.0, m.0.1), inputs_typed ts made.1 m.1)

-- a well-made program whose premises are all met is typed
pub accepted_typed : (P : Program) → IsWellMade P → IsAccepted P → Typed P
accepted_typed P made m = record {
  defs = defs_typed [] 0 P.defs made.defs m.0;
  inputs = inputs_typed P.inputs made.inputs m.1.0;
  body = let found = m.1.1.1 in (found.0, found.2, found.1);
}
