-- Forms printed with single spaces between the items of a list: the parts of the text, and that it reads as these forms.
use Rattle.std.proofs.Common.{◌≡◌, refl, sym, ap, ◌∙◌, ℕ, ◌+◌, ◌≤◌, max, true, List, [], ◌∷◌, ◌++◌, length, append_assoc, append-nil, arith}
use Rattle.std.specs.Prelude.{⊤}
use Rattle.std.specs.Fmt.{signed_decimal}
use Rattle.std.specs.Str.{IsAscii}
use Rattle.std.proofs.lemmas.Str.{IsAscii-append, IsUtf8-from_ascii}
use Rattle.std.proofs.lemmas.Str.Ascii.{IsAscii-nil, IsAscii-cons}
use Rattle.core_syntax.specs.Syntax.{no_span}
use Rattle.sexp_reader.specs.declared.lexer.Place.{Place}
use Rattle.sexp_reader.specs.declared.pieces.Leaf.{Leaf}
use Rattle.sexp_reader.specs.declared.pieces.Leaf.TheVariants as leaf
use Rattle.sexp_reader.specs.Bytes.{is_end}
use Rattle.sexp_reader.specs.Forms.{Form, Atom, Group, Forms, no_forms, more_forms, form_nesting, forms_nesting}
use Rattle.sexp_reader.specs.Reads.{Opens, Closes, Reads, marks, form_marks, forms_marks}
use Rattle.sexp_reader.specs.Split.{Spells, Part, Blank, Opening, Closing, Said, text_of, IsSplit, parts_tokens}
use Rattle.sexp_reader.specs.Tokens.{start, place_after, span_at}
use Rattle.sexp_reader.proofs.ByGrammar.{reads_is_grammar}
use Rattle.value_text.proofs.texts.Said.{bare, bares}
use Rattle.value_text.specs.ValueText.{truth_text, char_text}

-- ---- parts

-- the text of a token; no string is printed
abbrev pub leaf_text : Leaf → List ℕ
leaf_text (leaf.Int z) = signed_decimal z
leaf_text (leaf.Bool b) = truth_text b
leaf_text (leaf.Char c) = char_text c
leaf_text (leaf.Text t) = []
leaf_text (leaf.Symbol x) = x

-- the parts of a form and of the items of a list before others, and those of items behind a first one
abbrev mutual
  pub form_parts : Form → List Part → List Part
  form_parts (Atom at l) ps = Said l (leaf_text l) ∷ ps
  form_parts (Group at fs) ps = Opening ∷ items_parts fs (Closing ∷ ps)

  pub items_parts : Forms → List Part → List Part
  items_parts no_forms ps = ps
  items_parts (more_forms f fs) ps = form_parts f (rest_parts fs ps)

  pub rest_parts : Forms → List Part → List Part
  rest_parts no_forms ps = ps
  rest_parts (more_forms f fs) ps = Blank 32 ∷ form_parts f (rest_parts fs ps)

-- each token is spelled by its text, which is ASCII
abbrev mutual
  pub IsSpelled : Form → Type 0
  IsSpelled (Atom at l) = Spells l (leaf_text l) × IsAscii (leaf_text l)
  IsSpelled (Group at fs) = AreSpelled fs

  pub AreSpelled : Forms → Type 0
  AreSpelled no_forms = ⊤
  AreSpelled (more_forms f fs) = IsSpelled f × AreSpelled fs

-- a token may end before the items behind
ends : (fs : Forms) (ps : List Part) → is_end (text_of ps) ≡ true → is_end (text_of (rest_parts fs ps)) ≡ true
ends no_forms ps e = e
ends (more_forms f fs) ps e = refl

mutual
  split_form : (f : Form) (ps : List Part) → IsSpelled f → is_end (text_of ps) ≡ true → IsSplit ps → IsSplit (form_parts f ps)
  split_form (Atom at l) ps h e s = ((h.0, λ _. e), s)
  split_form (Group at fs) ps h e s = (tt, split_items fs (Closing ∷ ps) h refl (tt, s))

  split_items : (fs : Forms) (ps : List Part) → AreSpelled fs → is_end (text_of ps) ≡ true → IsSplit ps → IsSplit (items_parts fs ps)
  split_items no_forms ps h e s = s
  split_items (more_forms f fs) ps h e s = split_form f (rest_parts fs ps) h.0 (ends fs ps e) (split_rest fs ps h.1 e s)

  split_rest : (fs : Forms) (ps : List Part) → AreSpelled fs → is_end (text_of ps) ≡ true → IsSplit ps → IsSplit (rest_parts fs ps)
  split_rest no_forms ps h e s = s
  split_rest (more_forms f fs) ps h e s = (refl, split_form f (rest_parts fs ps) h.0 (ends fs ps e) (split_rest fs ps h.1 e s))

mutual
  ascii_form : (f : Form) (ps : List Part) → IsSpelled f → IsAscii (text_of ps) → IsAscii (text_of (form_parts f ps))
  ascii_form (Atom at l) ps h s = IsAscii-append (leaf_text l) (text_of ps) h.1 s
  ascii_form (Group at fs) ps h s = IsAscii-cons 40 (text_of (items_parts fs (Closing ∷ ps))) (omega arith) (ascii_items fs (Closing ∷ ps) h (IsAscii-cons 41 (text_of ps) (omega arith) s))

  ascii_items : (fs : Forms) (ps : List Part) → AreSpelled fs → IsAscii (text_of ps) → IsAscii (text_of (items_parts fs ps))
  ascii_items no_forms ps h s = s
  ascii_items (more_forms f fs) ps h s = ascii_form f (rest_parts fs ps) h.0 (ascii_rest fs ps h.1 s)

  ascii_rest : (fs : Forms) (ps : List Part) → AreSpelled fs → IsAscii (text_of ps) → IsAscii (text_of (rest_parts fs ps))
  ascii_rest no_forms ps h s = s
  ascii_rest (more_forms f fs) ps h s = IsAscii-cons 32 (text_of (form_parts f (rest_parts fs ps))) (omega arith) (ascii_form f (rest_parts fs ps) h.0 (ascii_rest fs ps h.1 s))

-- ---- places

-- the place behind a form, behind the items of a list, and behind those after a first one
abbrev mutual
  pub behind_form : Place → Form → Place
  behind_form p (Atom at l) = place_after p (leaf_text l)
  behind_form p (Group at fs) = place_after (behind_items (place_after p (40 ∷ [])) fs) (41 ∷ [])

  pub behind_items : Place → Forms → Place
  behind_items p no_forms = p
  behind_items p (more_forms f fs) = behind_rest (behind_form p f) fs

  pub behind_rest : Place → Forms → Place
  behind_rest p no_forms = p
  behind_rest p (more_forms f fs) = behind_rest (behind_form (place_after p (32 ∷ [])) f) fs

-- the same forms where they are printed from a place on
abbrev mutual
  pub placed : Place → Form → Form
  placed p (Atom at l) = Atom (span_at p (length (leaf_text l))) l
  placed p (Group at fs) =
      Group (record { from = p.offset; to = (behind_items (place_after p (40 ∷ [])) fs).offset + 1; line = p.line; col = p.col }) (placed_items (place_after p (40 ∷ [])) fs)

  pub placed_items : Place → Forms → Forms
  placed_items p no_forms = no_forms
  placed_items p (more_forms f fs) = more_forms (placed p f) (placed_rest (behind_form p f) fs)

  pub placed_rest : Place → Forms → Forms
  placed_rest p no_forms = no_forms
  placed_rest p (more_forms f fs) = more_forms (placed (place_after p (32 ∷ [])) f) (placed_rest (behind_form (place_after p (32 ∷ [])) f) fs)

mutual
  form_tokens : (f : Form) (p : Place) (ps : List Part) → marks (parts_tokens p (form_parts f ps)) ≡ form_marks (placed p f) ++ marks (parts_tokens (behind_form p f) ps)
  form_tokens (Atom at l) p ps = refl
  form_tokens (Group at fs) p ps =
      let q = behind_items (place_after p (40 ∷ [])) fs in
      ap (λ ms. Opens (span_at p 1) ∷ ms)
      (items_tokens fs (place_after p (40 ∷ [])) (Closing ∷ ps) ∙ sym (append_assoc (forms_marks (placed_items (place_after p (40 ∷ [])) fs)) (Closes (q.offset + 1) ∷ []) (marks (parts_tokens (place_after q (41 ∷ [])) ps))))

  items_tokens : (fs : Forms) (p : Place) (ps : List Part) → marks (parts_tokens p (items_parts fs ps)) ≡ forms_marks (placed_items p fs) ++ marks (parts_tokens (behind_items p fs) ps)
  items_tokens no_forms p ps = refl
  items_tokens (more_forms f fs) p ps =
      form_tokens f p (rest_parts fs ps) ∙ ap (λ ms. form_marks (placed p f) ++ ms) (rest_tokens fs (behind_form p f) ps)
      ∙ sym (append_assoc (form_marks (placed p f)) (forms_marks (placed_rest (behind_form p f) fs)) (marks (parts_tokens (behind_rest (behind_form p f) fs) ps)))

  rest_tokens : (fs : Forms) (p : Place) (ps : List Part) → marks (parts_tokens p (rest_parts fs ps)) ≡ forms_marks (placed_rest p fs) ++ marks (parts_tokens (behind_rest p fs) ps)
  rest_tokens no_forms p ps = refl
  rest_tokens (more_forms f fs) p ps =
      let q = place_after p (32 ∷ []) in
      form_tokens f q (rest_parts fs ps) ∙ ap (λ ms. form_marks (placed q f) ++ ms) (rest_tokens fs (behind_form q f) ps)
      ∙ sym (append_assoc (form_marks (placed q f)) (forms_marks (placed_rest (behind_form q f) fs)) (marks (parts_tokens (behind_rest (behind_form q f) fs) ps)))

mutual
  form_bare : (f : Form) (p : Place) → bare (placed p f) ≡ bare f
  form_bare (Atom at l) p = refl
  form_bare (Group at fs) p = ap (Group no_span) (items_bare fs (place_after p (40 ∷ [])))

  items_bare : (fs : Forms) (p : Place) → bares (placed_items p fs) ≡ bares fs
  items_bare no_forms p = refl
  items_bare (more_forms f fs) p = λ i. more_forms (form_bare f p i) (rest_bare fs (behind_form p f) i)

  rest_bare : (fs : Forms) (p : Place) → bares (placed_rest p fs) ≡ bares fs
  rest_bare no_forms p = refl
  rest_bare (more_forms f fs) p = λ i. more_forms (form_bare f (place_after p (32 ∷ [])) i) (rest_bare fs (behind_form (place_after p (32 ∷ [])) f) i)

mutual
  form_nests : (f : Form) (p : Place) → form_nesting (placed p f) ≡ form_nesting f
  form_nests (Atom at l) p = refl
  form_nests (Group at fs) p = ap (λ n. 1 + n) (items_nest fs (place_after p (40 ∷ [])))

  items_nest : (fs : Forms) (p : Place) → forms_nesting (placed_items p fs) ≡ forms_nesting fs
  items_nest no_forms p = refl
  items_nest (more_forms f fs) p = λ i. max (form_nests f p i) (rest_nests fs (behind_form p f) i)

  rest_nests : (fs : Forms) (p : Place) → forms_nesting (placed_rest p fs) ≡ forms_nesting fs
  rest_nests no_forms p = refl
  rest_nests (more_forms f fs) p = λ i. max (form_nests f (place_after p (32 ∷ [])) i) (rest_nests fs (behind_form (place_after p (32 ∷ [])) f) i)

-- ---- forms that are printed are read

pub printed_bare : (fs : Forms) → bares (placed_items start fs) ≡ bares fs
printed_bare fs = items_bare fs start

pub printed_reads : (fs : Forms) → AreSpelled fs → forms_nesting fs ≤ 256 → Reads (text_of (items_parts fs [])) (placed_items start fs)
printed_reads fs spelled nested =
    (reads_is_grammar (text_of (items_parts fs [])) (placed_items start fs)).1
    (record {
      utf8 = IsUtf8-from_ascii (text_of (items_parts fs [])) (ascii_items fs [] spelled IsAscii-nil);
      parts = items_parts fs [];
      split = split_items fs [] spelled refl tt;
      text = refl;
      tokens = items_tokens fs start [] ∙ append-nil (forms_marks (placed_items start fs));
      nested = let e = items_nest fs start in omega (arith, e, nested);
    })
