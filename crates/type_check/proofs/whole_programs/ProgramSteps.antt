-- One definition and one input more: what is behind the state then, and the first that isn't as it should be.
use Rattle.std.proofs.Common.{◌≡◌, refl, sym, ◌∙◌, ap, subst, ℕ, suc, ◌+◌, arith, List, [], ◌∷◌, ◌++◌, length, append_assoc, append-nil}
use Rattle.core_syntax.specs.Syntax.{Ty, Def}
use Rattle.core_syntax.specs.Lists.{EachTwo}
use Rattle.core_syntax.specs.Made.{DefsMade, ArrayMade, ExprMade, behind_defs}
use Rattle.core_syntax.specs.Typing.{defs_only}
use Rattle.core_syntax.specs.Blame.{def_premises, defs_premises, inputs_premises}
use Rattle.core_syntax.specs.Notes.{NodeNote, NotesAre, DefsNotesAre}
use Rattle.type_check.specs.declared.refusal.TypeRefusal.{TypeRefusal}
use Rattle.type_check.specs.Found.{Refuses}
use Rattle.type_check.specs.ProgramState.{input_premises}
use Rattle.type_check.proofs.whole_programs.ProgramStates.{types_of}
use Rattle.type_check.proofs.exits.Refusing.{in_first, in_later}

pub two_more : {A B : Type 0} (R : A → B → Type 0) (xs : List A) (ys : List B) (x : A) (y : B) → EachTwo R xs ys → R x y → EachTwo R (xs ++ x ∷ []) (ys ++ y ∷ [])
two_more R [] [] x y h r = (r, tt)
two_more R [] (b ∷ ys) x y h r = absurd h
two_more R (a ∷ xs) [] x y h r = absurd h
two_more R (a ∷ xs) (b ∷ ys) x y h r = (h.0, two_more R xs ys x y h.1 r)

-- behind a definition more, the types of the others are as they were
types_behind : (F : List Ty → Type 0) (earlier : List Ty) (d : Def) (ds : List Def) → F (earlier ++ types_of (d ∷ ds)) → F ((earlier ++ d.ty ∷ []) ++ types_of ds)
types_behind F earlier d ds h = subst F (sym (append_assoc earlier (d.ty ∷ []) (types_of ds))) h

-- ---- definitions

pub defs_met_more : (earlier : List Ty) (ds : List Def) (d : Def) → (defs_premises earlier ds).met → (def_premises (earlier ++ types_of ds) d).met → (defs_premises earlier (ds ++ d ∷ [])).met
defs_met_more earlier [] d h m = (subst (λ ts. (def_premises ts d).met) (append-nil earlier) m, tt)
defs_met_more earlier (b ∷ ds) d h m =
    (h.0, defs_met_more (earlier ++ b.ty ∷ []) ds d h.1 (types_behind (λ ts. (def_premises ts d).met) earlier b ds m))

pub defs_refused : (earlier : List Ty) (ds : List Def) (d : Def) (rest : List Def) (r : TypeRefusal) → (defs_premises earlier ds).met → Refuses (def_premises (earlier ++ types_of ds) d) r
    → Refuses (defs_premises earlier (ds ++ d ∷ rest)) r
defs_refused earlier [] d rest r h m =
    in_first (def_premises earlier d) (defs_premises (earlier ++ d.ty ∷ []) rest) r (subst (λ ts. Refuses (def_premises ts d) r) (append-nil earlier) m)
defs_refused earlier (b ∷ ds) d rest r h m =
    in_later (def_premises earlier b) (defs_premises (earlier ++ b.ty ∷ []) (ds ++ d ∷ rest)) r h.0
    (defs_refused (earlier ++ b.ty ∷ []) ds d rest r h.1 (types_behind (λ ts. Refuses (def_premises ts d) r) earlier b ds m))

pub defs_notes_more : (earlier : List Ty) (ds : List Def) (d : Def) (ms ns : List NodeNote) → DefsNotesAre earlier ds ms → NotesAre (defs_only (earlier ++ types_of ds)) d.value ns
    → DefsNotesAre earlier (ds ++ d ∷ []) (ms ++ ns)
defs_notes_more earlier [] d ms ns h n =
    (ns, [], ap (λ ls. ls ++ ns) h ∙ sym (append-nil ns), subst (λ ts. NotesAre (defs_only ts) d.value ns) (append-nil earlier) n, refl)
defs_notes_more earlier (b ∷ ds) d ms ns h n = (
  h.0,
  h.1 ++ ns,
  ap (λ ls. ls ++ ns) h.2 ∙ append_assoc h.0 h.1 ns,
  h.3,
  defs_notes_more (earlier ++ b.ty ∷ []) ds d h.1 ns h.4 (types_behind (λ ts. NotesAre (defs_only ts) d.value ns) earlier b ds n),
)

-- a definition is made where those before it are in scope
pub def_made : (n : ℕ) (ds : List Def) (d : Def) (rest : List Def) → DefsMade n (ds ++ d ∷ rest) → ArrayMade (behind_defs (length ds + n)) d.ty × ExprMade (behind_defs (length ds + n)) d.value
def_made n [] d rest h = let e : n ≡ 0 + n = omega arith in subst (λ k. ArrayMade (behind_defs k) d.ty × ExprMade (behind_defs k) d.value) e (h.0, h.1)
def_made n (b ∷ ds) d rest h =
    let e : length ds + suc n ≡ suc (length ds) + n = omega arith in
    subst (λ k. ArrayMade (behind_defs k) d.ty × ExprMade (behind_defs k) d.value) e (def_made (suc n) ds d rest h.2)

-- ---- inputs

pub inputs_met_more : (ts : List Ty) (t : Ty) → (inputs_premises ts).met → (input_premises t).met → (inputs_premises (ts ++ t ∷ [])).met
inputs_met_more [] t h m = (m, tt)
inputs_met_more (u ∷ ts) t h m = (h.0, inputs_met_more ts t h.1 m)

pub inputs_refused : (ts : List Ty) (t : Ty) (rest : List Ty) (r : TypeRefusal) → (inputs_premises ts).met → Refuses (input_premises t) r → Refuses (inputs_premises (ts ++ t ∷ rest)) r
inputs_refused [] t rest r h m = in_first (input_premises t) (inputs_premises rest) r m
inputs_refused (u ∷ ts) t rest r h m = in_later (input_premises u) (inputs_premises (ts ++ t ∷ rest)) r h.0 (inputs_refused ts t rest r h.1 m)
