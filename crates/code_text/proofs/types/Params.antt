-- The types of inputs, read and spelled.
use Rattle.std.proofs.Common.{◌≡◌, ℕ, zero, suc, ◌+◌, ◌^◌, ◌≤◌, ◌<◌, cond, Bool, true, false, List, [], ◌∷◌, ◌++◌, length, map, Ok, Err, ap, sym, subst, ◌∙◌, refl, arith, append_assoc}
use Rattle.std.specs.Prelude.{codes}
use Rattle.std.specs.Fmt.{decimal}
use Rattle.std.proofs.lemmas.Bool.{ltb-true, lt-ltb}
use Rattle.core_syntax.specs.declared.index.Sort.{Sort}
use Rattle.core_syntax.specs.declared.index.Sort.TheVariants as sort
use Rattle.core_syntax.specs.declared.ty.Base.{Base}
use Rattle.core_syntax.specs.Word.{Word}
use Rattle.core_syntax.specs.NormTypes.{base_text, sort_text}
use Rattle.machine_table.specs.Codes.{Param, Boxes}
use Rattle.machine_table.specs.IndexBounds.{Under, IsShape, under}
use Rattle.machine_table.specs.CodeBounds.{IsAround}
use Rattle.code_text.specs.Reading.{Read, ◌>>=◌, Reader, common, byte_at, end_at, behind, made, choice, items, items_from, some_items}
use Rattle.code_text.specs.IndexReading.{shape_at}
use Rattle.code_text.specs.ParamReading.{binder_room, sort_words, sort_of, binder_at, binder_next, binders_at, of_base, last_shape, of_base_at}
use Rattle.code_text.proofs.goes.PickGoes.{At}
use Rattle.code_text.proofs.codecs.Codec.{Codec, forget, made_codec, bind_same}
use Rattle.code_text.proofs.codecs.Parts.{behind_codec, before_codec, choice_codec}
use Rattle.code_text.proofs.codecs.Many.{with_first, as_list, fronted_same, same_codec, respell_where, known_codec, SomeItems, EachItem, some_codec}
use Rattle.code_text.proofs.indices.Shapes.{shape_codec}
use Rattle.code_text.proofs.types.Scopes.{under_scope}
use Rattle.code_text.proofs.forms.IndexForms.{shape_form}
use Rattle.code_text.proofs.forms.Lists.{until, listed}
use Rattle.code_text.proofs.forms.ParamForms.{binder_form, more_binders_form, binders_form, around_form}

-- ---- binders

sort_tail : Sort → List ℕ
sort_tail s = sort_text s ++ 41 ∷ []

IsSort : ℕ → Sort → Type 0
IsSort zero s = s ≡ sort.Dim
IsSort (suc j) s = s ≡ sort.Shape

sort_branch : (j : ℕ) (w : List ℕ) → At sort_words j w → Codec false true (sort_of j) (λ _. []) (IsSort j)
unfolding IsSort
sort_branch zero w at = known_codec true sort.Dim
sort_branch (suc j) w at = known_codec true sort.Shape

sort_up : (j : ℕ) (w : List ℕ) (s : Sort) → At sort_words j w → IsSort j s → Unit {0} × (sort_tail s ≡ w ++ [])
unfolding IsSort sort_tail
sort_up zero w s at is = (tt, ap (λ (r : Sort). sort_text r ++ 41 ∷ []) is ∙ ap (λ v. v ++ []) at)
sort_up (suc zero) w s at is = (tt, ap (λ (r : Sort). sort_text r ++ 41 ∷ []) is ∙ ap (λ v. v ++ []) at)
sort_up (suc (suc j)) w s at is = absurd at

sort_down : (s : Sort) → Unit {0} → (j : ℕ) × (w : List ℕ) × At sort_words j w × IsSort j s
unfolding IsSort
sort_down sort.Dim is = (0, codes "Dim)", refl, refl)
sort_down sort.Shape is = (1, codes "Shape)", refl, refl)

sort_codec : Codec false true (choice sort_words sort_of) sort_tail (λ s. Unit {0})
unfolding common
sort_codec = choice_codec sort_words (codes "Dim)") refl refl sort_of (λ j s. []) IsSort sort_tail (λ s. Unit {0}) true sort_branch sort_up sort_down

binder_codec : (n : ℕ) → Codec false true (binder_at n) (binder_form n) (λ s. Unit {0})
unfolding sort_tail
binder_codec n =
    respell_where false true (binder_at n) (λ s. (codes "(i" ++ (decimal n ++ 32 ∷ [])) ++ sort_tail s) (binder_form n) (λ s. Unit {0}) spelled
    (behind_codec (codes "(i" ++ (decimal n ++ 32 ∷ [])) (choice sort_words sort_of) sort_tail (λ s. Unit {0}) false false true tt sort_codec)
  where
    spelled : (s : Sort) → Unit {0} → binder_form n s ≡ (codes "(i" ++ (decimal n ++ 32 ∷ [])) ++ (sort_text s ++ 41 ∷ [])
    spelled s is = ap (λ v. codes "(i" ++ v) (sym (append_assoc (decimal n) (32 ∷ []) (sort_text s ++ 41 ∷ [])))

-- binders with their numbers

abbrev Numbered : Type 0
Numbered = ℕ × Sort

abbrev numbered_at : ℕ → Reader Numbered
numbered_at n = made (λ s. (n, s)) (binder_at n)

abbrev numbered_next : ℕ → Numbered → ℕ
numbered_next n x = suc n

abbrev numbered_text : Numbered → List ℕ
numbered_text x = binder_form x.0 x.1

abbrev HasNumber : ℕ → Numbered → Type 0
HasNumber n x = x.0 ≡ n

numbered_codec : (n : ℕ) → Unit {0} → binder_room n ≡ true → Codec false true (numbered_at n) numbered_text (HasNumber n)
numbered_codec n v e =
    made_codec (λ s. (n, s)) (binder_at n) (binder_form n) (λ s. Unit {0}) numbered_text (HasNumber n) (λ s is. refl) (λ s is. refl)
    (λ x is. (x.1, tt, ap (λ (m : ℕ). (m, x.1)) (sym is))) false true (binder_codec n)

numbered_later : (n : ℕ) (x : Numbered) → Unit {0} → HasNumber n x → Unit {0}
numbered_later n x v is = tt

abbrev SomeNumbered : ℕ → List Numbered → Type 0
SomeNumbered n xs = SomeItems 41 refl refl binder_room numbered_at numbered_next numbered_text (λ _. Unit {0}) HasNumber numbered_codec numbered_later n xs

abbrev EachNumbered : ℕ → List Numbered → Type 0
EachNumbered n xs = EachItem 41 refl refl binder_room numbered_at numbered_next numbered_text (λ _. Unit {0}) HasNumber numbered_codec numbered_later n xs

abbrev numbered_items : ℕ → Reader (List Numbered)
numbered_items n = some_items 41 binder_room numbered_at numbered_next n

bind_bind : {A B D : Type 0} (r : Read A) (f : A × List ℕ → Read B) (g : B × List ℕ → Read D) → ((r >>= f) >>= g) ≡ (r >>= λ x. f x >>= g)
bind_bind (Ok x) f g = refl
bind_bind (Err n) f g = refl

abbrev sorts_of : List Numbered → List Sort
sorts_of xs = map (λ x. x.1) xs

abbrev as_sorts : Read (List Numbered) → Read (List Sort)
as_sorts r = r >>= λ x. Ok (sorts_of x.0, x.1)

abbrev binders_from : ℕ → ℕ → ℕ → List ℕ → Read (List Sort)
binders_from most n k s = items_from 41 binder_room binder_at binder_next k most n s

abbrev numbered_from : ℕ → ℕ → ℕ → List ℕ → Read (List Numbered)
numbered_from most n k s = items_from 41 binder_room numbered_at numbered_next k most n s

-- what comes behind an end
same_behind : (most n k : ℕ) → ((s : List ℕ) → binders_from most n (suc k) s ≡ as_sorts (numbered_from most n (suc k) s)) → (b : Bool) (t : List ℕ) → cond b (binder_at k n t >>= λ y. binders_from most n (suc k) y.1 >>= λ ys. Ok (y.0 ∷ ys.0, ys.1)) (Ok ([], t)) ≡ as_sorts (cond b (numbered_at k n t >>= λ y. numbered_from most n (suc k) y.1 >>= λ ys. Ok (y.0 ∷ ys.0, ys.1)) (Ok ([], t)))
same_behind most n k same false t = refl
same_behind most n k same true t =
    bind_same (binder_at k n t) _ _ (λ y is. ap (λ (r : Read (List Sort)). r >>= λ ys. Ok (y.0 ∷ ys.0, ys.1)) (same y.1) ∙ moved y.0 (numbered_from most n (suc k) y.1))
    ∙ outside (binder_at k n t)
  where
    moved : (a : Sort) (r : Read (List Numbered)) → (as_sorts r >>= λ ys. Ok (a ∷ ys.0, ys.1)) ≡ as_sorts (r >>= λ ys. Ok ((k, a) ∷ ys.0, ys.1))
    moved a (Ok x) = refl
    moved a (Err m) = refl

    outside : (r : Read Sort) → (r >>= λ y. as_sorts (numbered_from most n (suc k) y.1 >>= λ ys. Ok ((k, y.0) ∷ ys.0, ys.1))) ≡ as_sorts ((r >>= λ x. Ok ((k, x.0), x.1)) >>= λ y. numbered_from most n (suc k) y.1 >>= λ ys. Ok (y.0 ∷ ys.0, ys.1))
    outside (Ok x) = refl
    outside (Err m) = refl

-- reading binders is reading binders with their numbers
same_items : (most n k : ℕ) (s : List ℕ) → binders_from most n k s ≡ as_sorts (numbered_from most n k s)
unfolding items_from
same_items zero n k s = sym (bind_bind (byte_at 41 s) (λ x. Ok ([], x.1)) (λ x. Ok (sorts_of x.0, x.1)))
same_items (suc most) n k s =
    bind_same (end_at 41 (binder_room k) s) _ _ (λ x is. same_behind most n k (same_items most n (suc k)) x.0 x.1)
    ∙ sym (bind_bind (end_at 41 (binder_room k) s) _ (λ x. Ok (sorts_of x.0, x.1)))

abbrev with_number : ℕ → Sort × List ℕ → Read Numbered
with_number n x = Ok ((n, x.0), x.1)

same_binders : (n most : ℕ) (s : List ℕ) → binders_at n most s ≡ made sorts_of (numbered_items n) most s
same_binders n most s =
    fronted_same (binder_at n) (λ a. items 41 binder_room binder_at binder_next (suc n)) most s
    ∙ go (binder_at n most s)
    ∙ ap as_sorts (sym (fronted_same (numbered_at n) (λ a. items 41 binder_room numbered_at numbered_next (suc n)) most s))
  where
    after : (a : Sort) (t : List ℕ) → (binders_from most most (suc n) t >>= λ ys. Ok (a ∷ ys.0, ys.1)) ≡ (numbered_from most most (suc n) t >>= λ ys. Ok (a ∷ sorts_of ys.0, ys.1))
    after a t = ap (λ (r : Read (List Sort)). r >>= λ ys. Ok (a ∷ ys.0, ys.1)) (same_items most most (suc n) t) ∙ bind_bind (numbered_from most most (suc n) t) (λ x. Ok (sorts_of x.0, x.1)) (λ ys. Ok (a ∷ ys.0, ys.1))

    pairs : (a : Sort) (r : Read (List Sort)) → ((r >>= with_first a) >>= as_list) ≡ (r >>= λ ys. Ok (a ∷ ys.0, ys.1))
    pairs a (Ok x) = refl
    pairs a (Err m) = refl

    numbered_pairs : (a : Sort) (r : Read (List Numbered)) → as_sorts ((r >>= with_first (n, a)) >>= as_list) ≡ (r >>= λ ys. Ok (a ∷ sorts_of ys.0, ys.1))
    numbered_pairs a (Ok x) = refl
    numbered_pairs a (Err m) = refl

    go : (r : Read Sort) → ((r >>= λ x. binders_from most most (suc n) x.1 >>= with_first x.0) >>= as_list) ≡ as_sorts (((r >>= with_number n) >>= λ x. numbered_from most most (suc n) x.1 >>= with_first x.0) >>= as_list)
    go (Ok x) = pairs x.0 (binders_from most most (suc n) x.1) ∙ after x.0 x.1 ∙ sym (numbered_pairs x.0 (numbered_from most most (suc n) x.1))
    go (Err m) = refl

-- the binders that are numbered from n
numbered : ℕ → List Sort → List Numbered
numbered n [] = []
numbered n (s ∷ ss) = (n, s) ∷ numbered (suc n) ss

numbered_sorts : (n : ℕ) (ss : List Sort) → sorts_of (numbered n ss) ≡ ss
unfolding numbered
numbered_sorts n [] = refl
numbered_sorts n (s ∷ ss) = ap (λ rs. s ∷ rs) (numbered_sorts (suc n) ss)

each_few : (n : ℕ) (xs : List Numbered) → n ≤ 2 ^ 32 → EachNumbered n xs → length (sorts_of xs) + n ≤ 2 ^ 32
each_few n [] le is = omega (arith, le)
each_few n (x ∷ xs) le is = let room = ltb-true n (2 ^ 32) is.0 in omega (arith, each_few (suc n) xs (omega (arith, room)) is.2)

few_each : (n : ℕ) (ss : List Sort) → length ss + n ≤ 2 ^ 32 → EachNumbered n (numbered n ss)
unfolding numbered
few_each n [] le = tt
few_each n (s ∷ ss) le = (lt-ltb n (2 ^ 32) (omega (arith, le)), refl, few_each (suc n) ss (omega (arith, le)))

more_spelled : (n : ℕ) (xs : List Numbered) → EachNumbered n xs → more_binders_form n (sorts_of xs) ≡ until 41 numbered_text xs
more_spelled n [] is = refl
more_spelled n (x ∷ xs) is =
    ap (λ (m : ℕ). 32 ∷ (binder_form m x.1 ++ more_binders_form (suc n) (sorts_of xs))) (sym is.1) ∙ ap (λ v. 32 ∷ (binder_form x.0 x.1 ++ v)) (more_spelled (suc n) xs is.2)

-- binders, at least one, and so few that each has a number
abbrev pub AreBinders : ℕ → List Sort → Type 0
AreBinders n ss = (0 < length ss) × (length ss + n ≤ 2 ^ 32)

pub binders_codec : (n : ℕ) → binder_room n ≡ true → Codec false false (binders_at n) (binders_form n) (AreBinders n)
unfolding numbered
binders_codec n room =
    same_codec false false (binders_at n) (made sorts_of (numbered_items n)) (binders_form n) (AreBinders n) (λ m s. same_binders n m s)
    (made_codec sorts_of (numbered_items n) (listed 41 numbered_text) (SomeNumbered n) (binders_form n) (AreBinders n) spelled holds from false false
    (some_codec 41 refl refl binder_room numbered_at numbered_next numbered_text (λ _. Unit {0}) HasNumber numbered_codec numbered_later n tt room))
  where
    spelled : (xs : List Numbered) → SomeNumbered n xs → binders_form n (sorts_of xs) ≡ listed 41 numbered_text xs
    spelled [] is = absurd is
    spelled (x ∷ xs) is = ap (λ (m : ℕ). binder_form m x.1 ++ more_binders_form (suc n) (sorts_of xs)) (sym is.0) ∙ ap (λ v. binder_form x.0 x.1 ++ v) (more_spelled (suc n) xs is.1)

    holds : (xs : List Numbered) → SomeNumbered n xs → AreBinders n (sorts_of xs)
    holds [] is = absurd is
    holds (x ∷ xs) is = let low = ltb-true n (2 ^ 32) room in (omega arith, omega (arith, each_few (suc n) xs (omega (arith, low)) is.1))

    from : (ss : List Sort) → AreBinders n ss → (xs : List Numbered) × SomeNumbered n xs × (sorts_of xs ≡ ss)
    from [] is = let none = is.0 in absurd (omega arith)
    from (s ∷ ss) is = (numbered n (s ∷ ss), (refl, few_each (suc n) ss (omega (arith, is.1))), numbered_sorts n (s ∷ ss))

-- ---- types

module _ (binders : List Sort) (few : length binders ≤ 2 ^ 32) where
  abbrev pub IsUnder : Word → Type 0
  IsUnder w = IsShape (Under binders) w

  pub last_codec : Codec false false (last_shape binders) (λ w. ((32 ∷ []) ++ shape_form (Under binders) w) ++ (41 ∷ [])) IsUnder
  last_codec =
      forget true false (last_shape binders) (λ w. ((32 ∷ []) ++ shape_form (Under binders) w) ++ (41 ∷ [])) IsUnder
      (before_codec (41 ∷ []) (behind (32 ∷ []) (shape_at (Under binders))) (λ w. (32 ∷ []) ++ shape_form (Under binders) w) IsUnder true true refl
      (behind_codec (32 ∷ []) (shape_at (Under binders)) (shape_form (Under binders)) IsUnder true false true refl (shape_codec (Under binders) (under_scope binders few))))

  -- a type behind the word of its atoms
  unfoldable pub tail_text : Param → List ℕ
  tail_text p = go p.boxes
    where
      go : List Boxes → List ℕ
      go [] = ((32 ∷ []) ++ shape_form (Under binders) p.shape) ++ (41 ∷ [])
      go (x ∷ xs) = binders_form (length binders) x.sorts ++ ((32 ∷ []) ++ (around_form (under x.sorts binders) xs p.base p.shape ++ ((41 ∷ []) ++ (((32 ∷ []) ++ shape_form (Under binders) x.shape) ++ (41 ∷ [])))))

  abbrev pub IsPlain : Base → Param → Type 0
  IsPlain b p = (w : Word) × IsUnder w × (of_base b w ≡ p)

  pub plain_codec : (b : Base) → Codec false false (of_base_at binders b) tail_text (IsPlain b)
  unfolding tail_text
  plain_codec b = made_codec (of_base b) (last_shape binders) (λ w. ((32 ∷ []) ++ shape_form (Under binders) w) ++ (41 ∷ [])) IsUnder tail_text (IsPlain b) (λ w is. refl) (λ w is. (w, is, refl)) (λ p is. is) false false last_codec

  -- a type behind its `(A `
  unfoldable pub elem_text : Param → List ℕ
  elem_text p = go p.boxes
    where
      go : List Boxes → List ℕ
      go [] = base_text p.base ++ 32 ∷ (shape_form (Under binders) p.shape ++ 41 ∷ [])
      go (x ∷ xs) = codes "(Sigma (" ++ (binders_form (length binders) x.sorts ++ 32 ∷ (around_form (under x.sorts binders) xs p.base p.shape ++ (codes ") " ++ (shape_form (Under binders) x.shape ++ 41 ∷ []))))

  abbrev pub around : Param → List ℕ
  around p = around_form binders p.boxes p.base p.shape

  pub around_first : (p : Param) → around p ≡ codes "(A " ++ elem_text p
  unfolding elem_text
  around_first p = go p.boxes refl
    where
      go : (xs : List Boxes) → p.boxes ≡ xs → around p ≡ codes "(A " ++ elem_text p
      go [] e = subst (λ (ys : List Boxes). around_form binders ys p.base p.shape ≡ codes "(A " ++ elem_text (record { boxes = ys; base = p.base; shape = p.shape })) (sym e) refl
      go (x ∷ xs) e = subst (λ (ys : List Boxes). around_form binders ys p.base p.shape ≡ codes "(A " ++ elem_text (record { boxes = ys; base = p.base; shape = p.shape })) (sym e) refl

  pub plain_up : (b : Base) (w : List ℕ) (p : Param) → base_text b ≡ w → IsPlain b p → elem_text p ≡ w ++ tail_text p
  unfolding elem_text tail_text
  plain_up b w p at is = subst (λ (q : Param). elem_text q ≡ w ++ tail_text q) is.2 (ap (λ v. v ++ (((32 ∷ []) ++ shape_form (Under binders) is.0) ++ (41 ∷ []))) at)

  -- a type with no boxes
  pub plain_is : (p : Param) → (xs : List Boxes) → p.boxes ≡ xs → xs ≡ [] → IsUnder p.shape → IsPlain p.base p
  plain_is p xs e none is = (p.shape, is, ap (λ (ys : List Boxes). record { boxes = ys; base = p.base; shape = p.shape }) (sym (e ∙ none)))

-- a type under binders, in which so many boxes may nest
abbrev pub IsIn : ℕ → List Sort → Param → Type 0
IsIn depth binders p = IsAround depth binders p.boxes p.shape
