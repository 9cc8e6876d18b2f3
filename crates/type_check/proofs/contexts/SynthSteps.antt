-- A definition, a sort or a term variable more.
use Rattle.std.proofs.Common.{◌≡◌, sym, ◌∙◌, ap, subst, ℕ, ◌+◌, ◌-◌, ◌<◌, arith, List, [], ◌∷◌, ◌++◌, length, take, drop, get_or, append_assoc, Ok, Err, Result}
use Rattle.std.specs.Prelude.{OnOk}
use Rattle.std.proofs.lemmas.List.{take_more, drop_more}
use Rattle.core_syntax.specs.declared.index.Sort.{Sort}
use Rattle.core_syntax.specs.declared.ty.Ty.{Ty as Tree}
use Rattle.core_syntax.specs.Syntax.{Ty}
use Rattle.core_syntax.specs.Lists.{onto, each, EachTwo}
use Rattle.core_syntax.specs.Refine.{ty_of}
use Rattle.type_check.specs.declared.refusal.TypeRefusal.{TypeRefusal}
use Rattle.type_check.specs.declared.state.Bound.{Bound}
use Rattle.type_check.specs.State.{State}
use Rattle.type_check.specs.Synth.{IsNormal, IsKnown}
use Rattle.type_check.proofs.contexts.Binding.{onto_append}
use Rattle.type_check.proofs.whole_programs.ProgramSteps.{two_more}
use Rattle.type_check.proofs.trees.TreesMade.{each_append}

-- these definitions were added
abbrev pub Added : List Ty → State → State → Type 0
Added ts old now = (ns : List Tree) × (now ≡ record old { defs = old.defs ++ ns }) × EachTwo IsNormal ts ns

pub added_more : (xs : List Tree) (k : ℕ) (x : Tree) → k < length xs → x ≡ get_or xs k x → (old mid now : State) → Added (each ty_of (take k xs)) old mid
    → (n : Tree) × (now ≡ record mid { defs = mid.defs ++ n ∷ [] }) × IsNormal (ty_of x) n → Added (each ty_of (take (k + 1) xs)) old now
added_more xs k x lt is old mid now a f = (
  a.0 ++ f.0 ∷ [],
  f.1 ∙ ap (λ (s : State). record s { defs = s.defs ++ f.0 ∷ [] }) a.1 ∙ ap (λ (ns : List Tree). record old { defs = ns }) (append_assoc old.defs a.0 (f.0 ∷ [])),
  subst (λ ts. EachTwo IsNormal ts (a.0 ++ f.0 ∷ [])) (sym (ap (each ty_of) (take_more xs k x lt ∙ ap (λ y. take k xs ++ y ∷ []) (sym is)) ∙ each_append ty_of (take k xs) (x ∷ [])))
      (two_more IsNormal (each ty_of (take k xs)) a.0 (ty_of x) f.0 a.2 f.2),
)

-- these sorts were entered, the outermost first
abbrev pub SortsEntered : List Sort → State → State → Type 0
SortsEntered rs old now = (ss : List Sort) × (now ≡ record old { sorts = old.sorts ++ ss }) × (onto ss [] ≡ rs)

sorts_more : (rs : List Sort) (x : Sort) (old mid now : State) → SortsEntered rs old mid → now ≡ record mid { sorts = mid.sorts ++ x ∷ [] } → SortsEntered (x ∷ rs) old now
sorts_more rs x old mid now a f = (
  a.0 ++ x ∷ [],
  f ∙ ap (λ (s : State). record s { sorts = s.sorts ++ x ∷ [] }) a.1 ∙ ap (λ (ss : List Sort). record old { sorts = ss }) (append_assoc old.sorts a.0 (x ∷ [])),
  onto_append a.0 (x ∷ []) [] ∙ ap (λ ss. x ∷ ss) a.2,
)

-- term variables of these types were entered, the outermost first
abbrev pub TermsEntered : List Ty → State → State → Type 0
TermsEntered ts old now = (bs : List Bound) × (now ≡ record old { terms = old.terms ++ bs }) × EachTwo (IsKnown old.types (length old.sorts)) ts (onto bs [])

terms_more : (ts : List Ty) (t : Ty) (old mid now : State) → TermsEntered ts old mid
    → (b : Bound) × (now ≡ record mid { terms = mid.terms ++ b ∷ [] }) × IsKnown mid.types (length mid.sorts) t b → TermsEntered (t ∷ ts) old now
terms_more ts t old mid now a f = (
  a.0 ++ f.0 ∷ [],
  f.1 ∙ ap (λ (s : State). record s { terms = s.terms ++ f.0 ∷ [] }) a.1 ∙ ap (λ (bs : List Bound). record old { terms = bs }) (append_assoc old.terms a.0 (f.0 ∷ [])),
  subst (EachTwo (IsKnown old.types (length old.sorts)) (t ∷ ts)) (sym (onto_append a.0 (f.0 ∷ []) []))
      (subst (λ (s : State). IsKnown s.types (length s.sorts) t f.0) a.1 f.2, a.2),
)

behind_place : {A : Type 0} (xs : List A) (k : ℕ) (x : A) → k < length xs → x ≡ get_or xs k x → drop k xs ≡ x ∷ drop (k + 1) xs
behind_place xs k x lt is = drop_more xs k x lt ∙ ap (λ y. y ∷ drop (k + 1) xs) (sym is)

-- what follows of an answer that isn't a refusal
pub on_ok : {V : Type 0} (r : Result V TypeRefusal) (P Q : Type 0) → (P → Q) → OnOk r P → OnOk r Q
on_ok (Ok v) P Q f h = f h
on_ok (Err e) P Q f h = h

-- the places of a list in the other order
pub sorts_back : (xs : List Sort) (k : ℕ) (x : Sort) → 0 < k → k - 1 < length xs → x ≡ get_or xs (k - 1) x → (old mid now : State) → SortsEntered (drop k xs) old mid
    → now ≡ record mid { sorts = mid.sorts ++ x ∷ [] } → SortsEntered (drop (k - 1) xs) old now
sorts_back xs k x some lt is old mid now a f =
    let e : k - 1 + 1 ≡ k = omega (arith, some) in
    subst (λ rs. SortsEntered rs old now) (sym (behind_place xs (k - 1) x lt is ∙ ap (λ n. x ∷ drop n xs) e)) (sorts_more (drop k xs) x old mid now a f)

pub terms_back : (xs : List Tree) (k : ℕ) (x : Tree) → 0 < k → k - 1 < length xs → x ≡ get_or xs (k - 1) x → (old mid now : State) → TermsEntered (each ty_of (drop k xs)) old mid
    → (b : Bound) × (now ≡ record mid { terms = mid.terms ++ b ∷ [] }) × IsKnown mid.types (length mid.sorts) (ty_of x) b → TermsEntered (each ty_of (drop (k - 1) xs)) old now
terms_back xs k x some lt is old mid now a f =
    let e : k - 1 + 1 ≡ k = omega (arith, some) in
    subst (λ ts. TermsEntered (each ty_of ts) old now) (sym (behind_place xs (k - 1) x lt is ∙ ap (λ n. x ∷ drop n xs) e)) (terms_more (each ty_of (drop k xs)) (ty_of x) old mid now a f)
