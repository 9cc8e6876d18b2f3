-- A list whose items are tested one by one: what is left of it tells what the whole tells.
use Rattle.std.proofs.Common.{◌≡◌, ◌∙◌, refl, sym, ap, subst, ℕ, zero, suc, ◌+◌, ◌<◌, arith, List, [], ◌∷◌, ◌++◌, length, drop, get_or, append_assoc}
use Rattle.std.proofs.lemmas.List.{drop_more}
use Rattle.core_syntax.specs.Lists.{each, Each}
use Rattle.core_syntax.specs.Syntax.{Ty}
use Rattle.core_syntax.specs.Made.{HoldsArrays}
use Rattle.core_syntax.specs.Blame.{Premises}
use Rattle.type_check.specs.Written.{IsWritten}
use Rattle.type_check.specs.declared.refusal.TypeRefusal.{TypeRefusal}
use Rattle.type_check.specs.Found.{Refuses}

-- the premises left, and what is said of the values for them, give the whole's
pub record Leaves {V : Type 0} (whole left : Premises) (Q R : List V → Type 0) (done : List V) : Type 0 where
  pub pass : (ns : List V) → left.met → R ns → whole.met × Q (done ++ ns)
  pub fail : (r : TypeRefusal) → Refuses left r → Refuses whole r

pub start : {V : Type 0} (whole : Premises) (Q : List V → Type 0) → Leaves whole whole Q Q []
start whole Q = record { pass = λ ns m q. (m, q); fail = λ r h. h }

-- one item more
pub next : {V : Type 0} (whole left rest : Premises) (Q R S : List V → Type 0) (done now : List V) (n : V) → now ≡ done ++ n ∷ [] → Leaves whole left Q R done
    → (rest.met → left.met) → ((ns : List V) → S ns → R (n ∷ ns)) → ((r : TypeRefusal) → Refuses rest r → Refuses left r) → Leaves whole rest Q S now
next whole left rest Q R S done now n e l met more fail = record {
  pass = λ ns m s. let all = l.pass (n ∷ ns) (met m) (more ns s) in
      (all.0, subst Q (sym (append_assoc done (n ∷ []) ns) ∙ ap (λ xs. xs ++ ns) (sym e)) all.1);
  fail = λ r h. l.fail r (fail r h);
}

each_behind : {A B : Type 0} (f : A → B) (P : B → Type 0) (xs : List A) (k : ℕ) → Each P (each f xs) → Each P (each f (drop k xs))
each_behind f P xs zero h = h
each_behind f P [] (suc k) h = h
each_behind f P (x ∷ xs) (suc k) h = each_behind f P xs k h.1

-- the item at a place
pub each_item : {A B : Type 0} (f : A → B) (P : B → Type 0) (xs : List A) (k : ℕ) (x : A) → k < length xs → x ≡ get_or xs k x → Each P (each f xs) → P (f x)
each_item f P xs k x lt is h =
    (subst (λ ys. Each P (each f ys)) (drop_more xs k x lt ∙ ap (λ y. y ∷ drop (k + 1) xs) (sym is)) (each_behind f P xs k h)).0

own_item_from : {A : Type 0} (xs : List A) (k : ℕ) (d e : A) → k < length xs → get_or xs k d ≡ get_or xs k e
own_item_from [] k d e lt = absurd (omega arith)
own_item_from (x ∷ xs) zero d e lt = refl
own_item_from (x ∷ xs) (suc k) d e lt = own_item_from xs k d e (omega arith)

pub own_item : {A : Type 0} (xs : List A) (k : ℕ) (d : A) → k < length xs → get_or xs k d ≡ get_or xs k (get_or xs k d)
own_item [] k d lt = absurd (omega arith)
own_item (x ∷ xs) zero d lt = refl
own_item (x ∷ xs) (suc k) d lt = own_item_from xs k d (get_or xs k d) (omega arith)

pub each_inside : (types indices : ℕ) (ts : List Ty) → Each (IsWritten types indices) ts → Each HoldsArrays ts
each_inside types indices [] h = tt
each_inside types indices (t ∷ ts) h = (h.0.inside, each_inside types indices ts h.1)
