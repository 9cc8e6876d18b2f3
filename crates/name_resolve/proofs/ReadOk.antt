-- What a reading that isn't refused was made of.
use Rattle.std.proofs.Common.{◌≡◌, refl, sym, ℕ, suc, ◌+◌, ◌<◌, arith, List, [], ◌∷◌, length, Bool, true, false, Option, Some, None, Ok, Err, if◌then◌else◌}
use Rattle.std.specs.Str.{bytes_eq}
use Rattle.core_syntax.specs.declared.span.Span.{Span}
use Rattle.name_resolve.specs.Reading.{Read, mapped, with, both, three, asked, tested}
use Rattle.name_resolve.specs.Scopes.{Name, number_of, looked_up}

pub record MappedOk {A B : Type 0} (f : A → B) (r : Read A) (c : B) : Type 0 where
  pub part : A
  pub read : r ≡ Ok part
  pub made : c ≡ f part

pub mapped_ok : {A B : Type 0} (f : A → B) (r : Read A) (c : B) → mapped f r ≡ Ok c → MappedOk f r c
mapped_ok f (Ok a) c h = record { part = a; read = refl; made = cc }
mapped_ok f (Err e) c h = absurd (cc)

pub record WithOk {A B : Type 0} (r : Read A) (f : A → Read B) (c : B) : Type 0 where
  pub part : A
  pub read : r ≡ Ok part
  pub rest : f part ≡ Ok c

pub with_ok : {A B : Type 0} (r : Read A) (f : A → Read B) (c : B) → with r f ≡ Ok c → WithOk r f c
with_ok (Ok a) f c h = record { part = a; read = refl; rest = h }
with_ok (Err e) f c h = absurd (cc)

pub record AskedOk {A B : Type 0} (o : Option A) (f : A → Read B) (c : B) : Type 0 where
  pub part : A
  pub is : o ≡ Some part
  pub rest : f part ≡ Ok c

pub asked_ok : {A B : Type 0} (at : Span) (o : Option A) (f : A → Read B) (c : B) → asked at o f ≡ Ok c → AskedOk o f c
asked_ok at (Some a) f c h = record { part = a; is = refl; rest = h }
asked_ok at None f c h = absurd (cc)

pub record BothOk {A B C : Type 0} (f : A → B → C) (r : Read A) (s : Read B) (c : C) : Type 0 where
  pub left : A
  pub right : B
  pub read : r ≡ Ok left
  pub later : s ≡ Ok right
  pub made : c ≡ f left right

pub both_ok : {A B C : Type 0} (f : A → B → C) (r : Read A) (s : Read B) (c : C) → both f r s ≡ Ok c → BothOk f r s c
both_ok f (Ok a) (Ok b) c h = record { left = a; right = b; read = refl; later = refl; made = cc }
both_ok f (Ok a) (Err e) c h = absurd (cc)
both_ok f (Err e) s c h = absurd (cc)

pub record ThreeOk {A B C D : Type 0} (f : A → B → C → D) (r : Read A) (s : Read B) (t : Read C) (d : D) : Type 0 where
  pub left : A
  pub right : B
  pub last : C
  pub read : r ≡ Ok left
  pub later : s ≡ Ok right
  pub latest : t ≡ Ok last
  pub made : d ≡ f left right last

pub three_ok : {A B C D : Type 0} (f : A → B → C → D) (r : Read A) (s : Read B) (t : Read C) (d : D) → three f r s t ≡ Ok d → ThreeOk f r s t d
three_ok f (Ok a) (Ok b) (Ok c) d h = record { left = a; right = b; last = c; read = refl; later = refl; latest = refl; made = cc }
three_ok f (Ok a) (Ok b) (Err e) d h = absurd (cc)
three_ok f (Ok a) (Err e) t d h = absurd (cc)
three_ok f (Err e) s t d h = absurd (cc)

pub tested_ok : {A : Type 0} (at : Span) (b : Bool) (r : Read A) (c : A) → tested at b r ≡ Ok c → (b ≡ true) × (r ≡ Ok c)
tested_ok at true r c h = (refl, h)
tested_ok at false r c h = absurd (cc)

abbrev one_later : Option ℕ → Option ℕ
one_later o = elim o [ Some k ↦ Some (k + 1) | None ↦ None ]

pub number_within : (x : Name) (ys : List Name) (k : ℕ) → number_of x ys ≡ Some k → k < length ys
number_within x [] k h = absurd (cc)
number_within x (y ∷ ys) k h = go (bytes_eq x y) (number_of x ys) h (number_within x ys)
  where
    go : (b : Bool) (o : Option ℕ) → (if b then Some 0 else one_later o) ≡ Some k → ((j : ℕ) → o ≡ Some j → j < length ys) → k < suc (length ys)
    go true o h ih = let e : 0 ≡ k = cc in omega arith
    go false (Some j) h ih = let e : j + 1 ≡ k = cc in omega (arith, ih j refl)
    go false None h ih = absurd (cc)

pub record LookedOk {A : Type 0} (f : ℕ → A) (ys : List Name) (c : A) : Type 0 where
  pub number : ℕ
  pub within : number < length ys
  pub made : c ≡ f number

pub looked_ok : {A : Type 0} (at : Span) (f : ℕ → A) (x : Name) (ys : List Name) (c : A) → looked_up at f x ys ≡ Ok c → LookedOk f ys c
looked_ok {A} at f x ys c h = go (number_of x ys) refl h
  where
    go : (o : Option ℕ) → o ≡ number_of x ys → ◌≡◌ {A = Read A} (elim o [ Some k ↦ Ok (f k) | None ↦ Err (8, at) ]) (Ok c) → LookedOk f ys c
    go (Some k) e h = record { number = k; within = number_within x ys k (sym e); made = cc }
    go None e h = absurd (cc)
