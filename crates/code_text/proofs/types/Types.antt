-- The types of inputs to any depth, read and spelled.
use Rattle.std.proofs.Common.{◌≡◌, ℕ, zero, suc, ◌+◌, ◌^◌, ◌≤◌, ◌<◌, nat_lt, Bool, true, false, ◌&&◌, List, [], ◌∷◌, ◌++◌, length, reverse, ap, sym, subst, ◌∙◌, refl, arith, length-append}
use Rattle.std.specs.Prelude.{codes}
use Rattle.std.proofs.lemmas.Bool.{false≢true, lt-ltb}
use Rattle.std.proofs.lemmas.List.{length-reverse}
use Rattle.core_syntax.specs.declared.index.Sort.{Sort}
use Rattle.core_syntax.specs.declared.ty.Base.{Base}
use Rattle.core_syntax.specs.declared.ty.Base.TheVariants as base
use Rattle.core_syntax.specs.Word.{Word}
use Rattle.machine_table.specs.Codes.{Param, Boxes, boxed}
use Rattle.machine_table.specs.IndexBounds.{Under, under}
use Rattle.machine_table.specs.CodeBounds.{IsParam}
use Rattle.code_text.specs.Reading.{Reader, common, behind, both_at, choice}
use Rattle.code_text.specs.ParamReading.{binder_room, binders_at, last_shape, base_words, elem_words, nests, of_base_at, box_of, boxes_at, elem_of, type_at, param_at}
use Rattle.code_text.proofs.goes.Goes.{both_right}
use Rattle.code_text.proofs.goes.PickGoes.{At}
use Rattle.code_text.proofs.codecs.Codec.{Codec, made_codec, both_codec}
use Rattle.code_text.proofs.codecs.Parts.{behind_codec, choice_codec}
use Rattle.code_text.proofs.codecs.Many.{same_codec, agree, respell_where}
use Rattle.code_text.proofs.types.Params.{IsUnder, last_codec, tail_text, elem_text, IsPlain, plain_codec, around_first, plain_up, plain_is, AreBinders, binders_codec, IsIn}
use Rattle.code_text.proofs.forms.IndexForms.{shape_form}
use Rattle.code_text.proofs.forms.ParamForms.{binders_form, around_form, param_form}

-- the type under binders that p spells
abbrev Spelled : List Sort → Param → List ℕ
Spelled binders p = around_form binders p.boxes p.base p.shape

module _ (binders : List Sort) (few : length binders ≤ 2 ^ 32) where
  -- ---- where no boxes may come

  abbrev IsBare : Param → Type 0
  IsBare p = (p.boxes ≡ []) × IsUnder binders few p.shape

  plain_bare : (b : Base) (p : Param) → IsPlain binders few b p → IsBare p
  plain_bare b p is = subst IsBare is.2 (refl, is.1)

  IsPlainOf : ℕ → Param → Type 0
  IsPlainOf zero p = IsPlain binders few base.Int p
  IsPlainOf (suc zero) p = IsPlain binders few base.Bool p
  IsPlainOf (suc (suc j)) p = IsPlain binders few base.Char p

  plain_branch : (depth j : ℕ) (w : List ℕ) → At base_words j w → Codec false false (elem_of depth binders j) (tail_text binders few) (IsPlainOf j)
  unfolding IsPlainOf
  plain_branch depth zero w at = same_codec false false (elem_of depth binders 0) (of_base_at binders base.Int) (tail_text binders few) (IsPlain binders few base.Int) (λ n s. refl) (plain_codec binders few base.Int)
  plain_branch depth (suc zero) w at = same_codec false false (elem_of depth binders 1) (of_base_at binders base.Bool) (tail_text binders few) (IsPlain binders few base.Bool) (λ n s. refl) (plain_codec binders few base.Bool)
  plain_branch depth (suc (suc zero)) w at = same_codec false false (elem_of depth binders 2) (of_base_at binders base.Char) (tail_text binders few) (IsPlain binders few base.Char) (λ n s. refl) (plain_codec binders few base.Char)
  plain_branch depth (suc (suc (suc j))) w at = absurd at

  plain_of_up : (j : ℕ) (w : List ℕ) (p : Param) → At base_words j w → IsPlainOf j p → IsBare p × (elem_text binders few p ≡ w ++ tail_text binders few p)
  unfolding IsPlainOf
  plain_of_up zero w p at is = (plain_bare base.Int p is, plain_up binders few base.Int w p at is)
  plain_of_up (suc zero) w p at is = (plain_bare base.Bool p is, plain_up binders few base.Bool w p at is)
  plain_of_up (suc (suc zero)) w p at is = (plain_bare base.Char p is, plain_up binders few base.Char w p at is)
  plain_of_up (suc (suc (suc j))) w p at is = absurd at

  plain_of_down : (p : Param) → IsBare p → (j : ℕ) × (w : List ℕ) × At base_words j w × IsPlainOf j p
  unfolding IsPlainOf
  plain_of_down p is = go p.base (plain_is binders few p p.boxes refl is.0 is.1)
    where
      go : (b : Base) → IsPlain binders few b p → (j : ℕ) × (w : List ℕ) × At base_words j w × IsPlainOf j p
      go base.Int h = (0, codes "Int", refl, h)
      go base.Bool h = (1, codes "Bool", refl, h)
      go base.Char h = (2, codes "Char", refl, h)

  bare_codec : (depth : ℕ) → Codec false false (choice base_words (elem_of depth binders)) (elem_text binders few) IsBare
  unfolding common
  bare_codec depth = choice_codec base_words (codes "Int") refl refl (elem_of depth binders) (λ j. tail_text binders few) IsPlainOf (elem_text binders few) IsBare false (plain_branch depth) plain_of_up plain_of_down

  -- ---- boxes

  module _ (depth : ℕ) (content : (inner : List Sort) → length inner ≤ 2 ^ 32 → Codec true false (type_at depth inner) (Spelled inner) (IsIn depth inner)) where
    under_few : (sorts : List Sort) → length (under sorts binders) ≡ length sorts + length binders
    under_few sorts = let a = length-append (reverse sorts) binders in let b = length-reverse sorts in omega (arith, a, b)

    abbrev IsBoxed : List Sort × (Param × Word) → Type 0
    IsBoxed x = AreBinders (length binders) x.0 × (IsIn depth (under x.0 binders) x.1.0 × IsUnder binders few x.1.1)

    abbrev box_text : List Sort → Param × Word → List ℕ
    box_text sorts x = (32 ∷ []) ++ (Spelled (under sorts binders) x.0 ++ ((41 ∷ []) ++ (((32 ∷ []) ++ shape_form (Under binders) x.1) ++ (41 ∷ []))))

    box_codec : (sorts : List Sort) → AreBinders (length binders) sorts → Codec true false (box_of binders (type_at depth) sorts) (box_text sorts) (λ x. IsIn depth (under sorts binders) x.0 × IsUnder binders few x.1)
    box_codec sorts is =
        behind_codec (32 ∷ []) (both_at (type_at depth (under sorts binders)) (λ p. behind (41 ∷ []) (last_shape binders)))
        (λ x. Spelled (under sorts binders) x.0 ++ ((41 ∷ []) ++ (((32 ∷ []) ++ shape_form (Under binders) x.1) ++ (41 ∷ []))))
        (λ x. IsIn depth (under sorts binders) x.0 × IsUnder binders few x.1) true true false refl
        (both_codec (type_at depth (under sorts binders)) (Spelled (under sorts binders)) (IsIn depth (under sorts binders)) (λ p. behind (41 ∷ []) (last_shape binders))
        (λ p w. (41 ∷ []) ++ (((32 ∷ []) ++ shape_form (Under binders) w) ++ (41 ∷ []))) (λ p. IsUnder binders few) true false true false refl
        (content (under sorts binders) (omega (arith, under_few sorts, is.1)))
        (λ p h. behind_codec (41 ∷ []) (last_shape binders) (λ w. ((32 ∷ []) ++ shape_form (Under binders) w) ++ (41 ∷ [])) (IsUnder binders few) true false false refl (last_codec binders few)))

    abbrev IsBoxes : Param → Type 0
    IsBoxes p = (x : List Sort × (Param × Word)) × IsBoxed x × (boxed x.0 x.1.1 x.1.0 ≡ p)

    boxes_codec : binder_room (length binders) ≡ true → Codec false false (boxes_at binders (type_at depth)) (tail_text binders few) IsBoxes
    unfolding tail_text
    boxes_codec room =
        made_codec (λ x. boxed x.0 x.1.1 x.1.0) (both_at (binders_at (length binders)) (box_of binders (type_at depth))) (λ x. binders_form (length binders) x.0 ++ box_text x.0 x.1) IsBoxed (tail_text binders few) IsBoxes
        (λ x is. refl) (λ x is. (x, is, refl)) (λ p is. is) false false
        (both_codec (binders_at (length binders)) (binders_form (length binders)) (AreBinders (length binders)) (box_of binders (type_at depth)) box_text (λ sorts x. IsIn depth (under sorts binders) x.0 × IsUnder binders few x.1) false false true false refl
        (binders_codec (length binders) room) box_codec)

    abbrev IsOuter : Param → Type 0
    IsOuter p = IsIn (suc depth) binders p

    IsElemOf : ℕ → Param → Type 0
    IsElemOf zero p = IsPlain binders few base.Int p
    IsElemOf (suc zero) p = IsPlain binders few base.Bool p
    IsElemOf (suc (suc zero)) p = IsPlain binders few base.Char p
    IsElemOf (suc (suc (suc j))) p = IsBoxes p

    elem_branch : binder_room (length binders) ≡ true → (j : ℕ) (w : List ℕ) → At (elem_words true) j w → Codec false false (elem_of (suc depth) binders j) (tail_text binders few) (IsElemOf j)
    unfolding IsElemOf
    elem_branch room zero w at = same_codec false false (elem_of (suc depth) binders 0) (of_base_at binders base.Int) (tail_text binders few) (IsPlain binders few base.Int) (λ n s. refl) (plain_codec binders few base.Int)
    elem_branch room (suc zero) w at = same_codec false false (elem_of (suc depth) binders 1) (of_base_at binders base.Bool) (tail_text binders few) (IsPlain binders few base.Bool) (λ n s. refl) (plain_codec binders few base.Bool)
    elem_branch room (suc (suc zero)) w at = same_codec false false (elem_of (suc depth) binders 2) (of_base_at binders base.Char) (tail_text binders few) (IsPlain binders few base.Char) (λ n s. refl) (plain_codec binders few base.Char)
    elem_branch room (suc (suc (suc j))) w at = same_codec false false (elem_of (suc depth) binders (suc (suc (suc j)))) (boxes_at binders (type_at depth)) (tail_text binders few) IsBoxes (λ n s. refl) (boxes_codec room)

    bare_outer : (b : Base) (p : Param) → IsPlain binders few b p → IsOuter p
    bare_outer b p is = subst IsOuter is.2 is.1

    boxes_outer : (p : Param) → IsBoxes p → IsOuter p
    boxes_outer p is =
        let x = is.0 in
        subst IsOuter is.2 (record { some = is.1.0.0; few = omega (arith, under_few x.0, is.1.0.1) }, is.1.1.0, is.1.1.1)

    elem_up : (j : ℕ) (w : List ℕ) (p : Param) → At (elem_words true) j w → IsElemOf j p → IsOuter p × (elem_text binders few p ≡ w ++ tail_text binders few p)
    unfolding IsElemOf elem_text tail_text
    elem_up zero w p at is = (bare_outer base.Int p is, plain_up binders few base.Int w p at is)
    elem_up (suc zero) w p at is = (bare_outer base.Bool p is, plain_up binders few base.Bool w p at is)
    elem_up (suc (suc zero)) w p at is = (bare_outer base.Char p is, plain_up binders few base.Char w p at is)
    elem_up (suc (suc (suc zero))) w p at is = (boxes_outer p is, subst (λ (v : List ℕ). elem_text binders few p ≡ v ++ tail_text binders few p) at (subst (λ (q : Param). elem_text binders few q ≡ codes "(Sigma (" ++ tail_text binders few q) is.2 refl))
    elem_up (suc (suc (suc (suc j)))) w p at is = absurd at

    abbrev Chosen : Param → Type 0
    Chosen p = (j : ℕ) × (w : List ℕ) × At (elem_words true) j w × IsElemOf j p

    elem_down : (p : Param) → IsOuter p → Chosen p
    unfolding IsElemOf
    elem_down p is = go p.boxes refl is
      where
        bare : (b : Base) → IsPlain binders few b p → Chosen p
        bare base.Int h = (0, codes "Int", refl, h)
        bare base.Bool h = (1, codes "Bool", refl, h)
        bare base.Char h = (2, codes "Char", refl, h)

        go : (xs : List Boxes) → p.boxes ≡ xs → IsIn (suc depth) binders (record { boxes = xs; base = p.base; shape = p.shape }) → Chosen p
        go [] e h = bare p.base (plain_is binders few p [] e refl h)
        go (x ∷ xs) e h =
            (3, codes "(Sigma (", refl, ((x.sorts, (record { boxes = xs; base = p.base; shape = p.shape }, x.shape)), ((h.0.some, omega (arith, under_few x.sorts, h.0.few)), (h.1, h.2)), ap (λ (ys : List Boxes). record { boxes = ys; base = p.base; shape = p.shape }) (sym e)))

    boxed_codec : binder_room (length binders) ≡ true → Codec false false (choice (elem_words true) (elem_of (suc depth) binders)) (elem_text binders few) IsOuter
    unfolding common
    boxed_codec room = choice_codec (elem_words true) (codes "Int") refl refl (elem_of (suc depth) binders) (λ j. tail_text binders few) IsElemOf (elem_text binders few) IsOuter false (elem_branch room) elem_up elem_down

    -- where no binder more has a number, there are no boxes
    no_room : nests (suc depth) binders ≡ false → (p : Param) → IsOuter p → IsBare p
    no_room none p is = go p.boxes refl is
      where
        go : (xs : List Boxes) → p.boxes ≡ xs → IsIn (suc depth) binders (record { boxes = xs; base = p.base; shape = p.shape }) → IsBare p
        go [] e h = (e, h)
        go (x ∷ xs) e h =
            let low : length binders < 2 ^ 32 = omega (arith, under_few x.sorts, h.0.few, h.0.some) in
            absurd (false≢true (sym none ∙ (ap (λ (b : Bool). b && binder_room (length binders)) (lt-ltb 0 (suc depth) (omega arith)) ∙ lt-ltb (length binders) (2 ^ 32) low)))

    bare_is : (p : Param) → IsBare p → IsOuter p
    bare_is p is = subst (λ (ys : List Boxes). IsIn (suc depth) binders (record { boxes = ys; base = p.base; shape = p.shape })) (sym is.0) is.1

    outer_codec : (b : Bool) → nests (suc depth) binders ≡ b → Codec false false (choice (elem_words b) (elem_of (suc depth) binders)) (elem_text binders few) IsOuter
    outer_codec true e = boxed_codec (both_right (nat_lt 0 (suc depth)) (binder_room (length binders)) e)
    outer_codec false e = agree false false (choice base_words (elem_of (suc depth) binders)) (elem_text binders few) IsBare IsOuter bare_is (no_room e) (bare_codec (suc depth))

  bare_in : (p : Param) → IsBare p → IsIn 0 binders p
  bare_in p is = subst (λ (ys : List Boxes). IsIn 0 binders (record { boxes = ys; base = p.base; shape = p.shape })) (sym is.0) is.1

  in_bare : (p : Param) → IsIn 0 binders p → IsBare p
  in_bare p is = go p.boxes refl is
    where
      go : (xs : List Boxes) → p.boxes ≡ xs → IsIn 0 binders (record { boxes = xs; base = p.base; shape = p.shape }) → IsBare p
      go [] e h = (e, h)
      go (x ∷ xs) e h = absurd h

  inner_codec : Codec false false (choice (elem_words (nests 0 binders)) (elem_of 0 binders)) (elem_text binders few) (IsIn 0 binders)
  inner_codec = agree false false (choice base_words (elem_of 0 binders)) (elem_text binders few) IsBare (IsIn 0 binders) bare_in in_bare (bare_codec 0)

  whole : (depth : ℕ) (p : Reader Param) → Codec false false p (elem_text binders few) (IsIn depth binders) → Codec true false (behind (codes "(A ") p) (Spelled binders) (IsIn depth binders)
  whole depth p c =
      respell_where true false (behind (codes "(A ") p) (λ q. codes "(A " ++ elem_text binders few q) (Spelled binders) (IsIn depth binders) (λ q is. around_first binders few q)
      (behind_codec (codes "(A ") p (elem_text binders few) (IsIn depth binders) true false false refl c)

-- the type of an input under binders, in which so many boxes may nest
pub type_codec : (depth : ℕ) (binders : List Sort) → length binders ≤ 2 ^ 32 → Codec true false (type_at depth binders) (Spelled binders) (IsIn depth binders)
type_codec zero binders few = whole binders few 0 (choice (elem_words (nests 0 binders)) (elem_of 0 binders)) (inner_codec binders few)
type_codec (suc depth) binders few =
    whole binders few (suc depth) (choice (elem_words (nests (suc depth) binders)) (elem_of (suc depth) binders))
    (outer_codec binders few depth (type_codec depth) (nests (suc depth) binders) refl)

-- the type of an input
pub param_codec : Codec true false param_at param_form IsParam
param_codec = type_codec 256 [] (omega arith)
