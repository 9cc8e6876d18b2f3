-- Data that fits the type of an input is shown as forms that say it, with texts that are spellings.
use Rattle.std.proofs.Common.{◌≡◌, inl, inr, refl, sym, subst, ℕ, zero, suc, ℤ, pos, negsuc, ◌^◌, ◌<◌, arith, Bool, true, false, nat_lt, nat_le, List, [], ◌∷◌, codes, length}
use Rattle.std.proofs.lemmas.Bool.{and_parts, ltb-true}
use Rattle.std.proofs.lemmas.Bool.Decides.{nat_tests}
use Rattle.std.proofs.lemmas.Fmt.{IsAscii-signed}
use Rattle.std.proofs.lemmas.Str.Ascii.{IsAscii-nil, IsAscii-cons}
use Rattle.std.proofs.lemmas.List.Elements.{All-head, All-tail}
use Rattle.std.specs.Prelude.{IsTrue, ⊤}
use Rattle.std.specs.Int.Signed.{mag}
use Rattle.std.specs.Char.{IsScalar}
use Rattle.std.specs.List.{All}
use Rattle.std.specs.Str.{IsAscii}
use Rattle.core_syntax.specs.declared.index.Sort.{Sort}
use Rattle.core_syntax.specs.declared.ty.Base.{Base}
use Rattle.core_syntax.specs.declared.ty.Base.TheVariants as base
use Rattle.core_syntax.specs.Data.{Data, DataArray, DataAtom, DataInt, DataBool, DataChar, DataBox, DataFn, DataAtoms, no_data, more_data, FitsValues}
use Rattle.core_syntax.specs.Delta.{is_int}
use Rattle.core_syntax.specs.Fits.{all_below, value_fits, all_fit}
use Rattle.core_syntax.specs.Lists.{each, onto}
use Rattle.core_syntax.specs.Syntax.{BaseTy, Sigma, no_span}
use Rattle.core_syntax.specs.Terms.{IndexValue, DimValue, ShapeValue}
use Rattle.core_syntax.specs.Word.{Word}
use Rattle.machine_table.specs.CodeBounds.{IsAround, IsParam}
use Rattle.machine_table.specs.Codes.{Boxes, Param}
use Rattle.machine_table.specs.IndexBounds.{under}
use Rattle.machine_table.specs.ParamTypes.{type_in, type_of}
use Rattle.sexp_reader.specs.declared.pieces.Leaf.TheVariants as leaf
use Rattle.sexp_reader.specs.Bytes.{is_graphic, is_hex}
use Rattle.sexp_reader.specs.Forms.{Form, Atom}
use Rattle.sexp_reader.specs.Split.{AllBytes, Spells}
use Rattle.value_text.specs.Shown.{shown_word, shown_numbers, shown_index, shown_parts, shown_value, shown_atom, shown_atoms}
use Rattle.value_text.proofs.texts.Said.{IsReadable, IsReadableAtom, AreReadable}
use Rattle.value_text.specs.ValueText.{char_text}
use Rattle.value_text.proofs.fits.FitsLemmas.{FitsIn, AtomIn, AtomsIn, fits_bare, sorts_length}
use Rattle.value_text.proofs.texts.HexNumerals.{characters_are_spelled}
use Rattle.value_text.proofs.texts.Numerals.{integers_are_spelled}
use Rattle.value_text.proofs.fits.SaidReads.{formed}
use Rattle.value_text.proofs.texts.Printed.{IsSpelled, AreSpelled}

-- data of integers of 64 bits, scalar values, numbers of 32 bits and boxes with an index at least
abbrev mutual
  pub IsPlain : Data → Type 0
  IsPlain (DataArray dims xs) = (all_below (2 ^ 32) dims ≡ true) × ArePlain xs

  pub IsPlainAtom : DataAtom → Type 0
  IsPlainAtom (DataInt z) = IsTrue (is_int z)
  IsPlainAtom (DataBool b) = ⊤
  IsPlainAtom (DataChar c) = IsScalar c
  IsPlainAtom (DataBox vs c) = (0 < length vs) × (all_fit vs ≡ true) × IsPlain c
  IsPlainAtom DataFn = ⊥

  pub ArePlain : DataAtoms → Type 0
  ArePlain no_data = ⊤
  ArePlain (more_data a xs) = IsPlainAtom a × ArePlain xs

-- ---- data that fits is such

base_plain : (vs : List IndexValue) (b : Base) (a : DataAtom) → AtomIn vs (BaseTy no_span b) a → IsPlainAtom a
base_plain vs base.Int (DataInt z) h = h
base_plain vs base.Bool (DataBool b) h = tt
base_plain vs base.Char (DataChar c) h = h
base_plain vs _ _ h = absurd h

bases_plain : (vs : List IndexValue) (b : Base) (xs : DataAtoms) → AtomsIn vs (BaseTy no_span b) xs → ArePlain xs
bases_plain vs b no_data h = tt
bases_plain vs b (more_data a xs) h = (base_plain vs b a h.0, bases_plain vs b xs h.1)

module _ (b : Base) (w : Word) where
  mutual
    fits_plain : (xs : List Boxes) (vs : List IndexValue) (depth : ℕ) (binders : List Sort) (d : Data) → IsAround depth binders xs w → FitsIn vs (type_in xs (BaseTy no_span b) w) d → IsPlain d
    fits_plain [] vs depth binders (DataArray dims ys) i h = ((formed dims h.1).0, bases_plain vs b ys h.3)
    fits_plain (x ∷ xs) vs zero binders (DataArray dims ys) i h = absurd i
    fits_plain (x ∷ xs) vs (suc depth) binders (DataArray dims ys) i h = ((formed dims h.1).0, boxes_plain x xs vs depth binders ys i h.3)

    boxes_plain : (x : Boxes) (xs : List Boxes) (vs : List IndexValue) (depth : ℕ) (binders : List Sort) (ys : DataAtoms) → IsAround (suc depth) binders (x ∷ xs) w
        → AtomsIn vs (Sigma no_span x.sorts (type_in xs (BaseTy no_span b) w)) ys → ArePlain ys
    boxes_plain x xs vs depth binders no_data i h = tt
    boxes_plain x xs vs depth binders (more_data a ys) i h = (box_plain x xs vs depth binders a i h.0, boxes_plain x xs vs depth binders ys i h.1)

    box_plain : (x : Boxes) (xs : List Boxes) (vs : List IndexValue) (depth : ℕ) (binders : List Sort) (a : DataAtom) → IsAround (suc depth) binders (x ∷ xs) w
        → AtomIn vs (Sigma no_span x.sorts (type_in xs (BaseTy no_span b) w)) a → IsPlainAtom a
    box_plain x xs vs depth binders (DataBox ws c) i h =
        let n = sorts_length x.sorts ws h.0 in
        let some = i.0.some in
        (omega (arith, n, some), h.1, fits_plain xs (onto ws vs) depth (under x.sorts binders) c i.1 h.2)
    box_plain x xs vs depth binders _ i h = absurd h

param_plain : (p : Param) (d : Data) → IsParam p → FitsIn [] (type_of p) d → IsPlain d
param_plain p d i h = fits_plain p.base p.shape p.boxes [] 256 [] d i h

-- arrays of data, each plain
abbrev pub AllPlain : List Data → Type 0
AllPlain [] = ⊤
AllPlain (d ∷ ds) = IsPlain d × AllPlain ds

-- ---- and is readable

mutual
  pub plain_readable : (d : Data) → IsPlain d → IsReadable d
  plain_readable (DataArray dims xs) h = atoms_readable xs h.1

  atom_readable : (a : DataAtom) → IsPlainAtom a → IsReadableAtom a
  atom_readable (DataInt z) h = tt
  atom_readable (DataBool b) h = tt
  atom_readable (DataChar c) h = tt
  atom_readable (DataBox vs c) h = (h.0, plain_readable c h.2)
  atom_readable DataFn h = absurd h

  atoms_readable : (xs : DataAtoms) → ArePlain xs → AreReadable xs
  atoms_readable no_data h = tt
  atoms_readable (more_data a xs) h = (atom_readable a h.0, atoms_readable xs h.1)

-- ---- and its tokens are spelled by their texts

hex_low : (c : ℕ) → is_hex c ≡ true → c < 128
hex_low c h = grind (arith, nat_tests)

graphic_low : (c : ℕ) → is_graphic c ≡ true → c < 128
graphic_low c h = grind (arith, nat_tests)

hex_ascii : (ds : List ℕ) → AllBytes is_hex ds → IsAscii ds
hex_ascii [] h = IsAscii-nil
hex_ascii (c ∷ cs) h = IsAscii-cons c cs (hex_low c h.0) (hex_ascii cs h.1)

char_ascii : (c : ℕ) (w : List ℕ) → Spells (leaf.Char c) w → IsAscii w
char_ascii c w (inl h) = subst IsAscii (sym h.1) (IsAscii-cons 35 (92 ∷ c ∷ []) (omega arith) (IsAscii-cons 92 (c ∷ []) (omega arith) (IsAscii-cons c [] (graphic_low c h.0) IsAscii-nil)))
char_ascii c w (inr h) =
    subst IsAscii (sym h.spelled) (IsAscii-cons 35 (92 ∷ 117 ∷ h.first ∷ h.digits) (omega arith)
    (IsAscii-cons 92 (117 ∷ h.first ∷ h.digits) (omega arith) (IsAscii-cons 117 (h.first ∷ h.digits) (omega arith) (hex_ascii (h.first ∷ h.digits) h.each))))

-- a word whose bytes are ASCII, and one with a byte
ascii_word : (w : List ℕ) → AllBytes (λ c. nat_lt c 128) w → IsAscii w
ascii_word [] h = IsAscii-nil
ascii_word (c ∷ cs) h = IsAscii-cons c cs (ltb-true c 128 h.0) (ascii_word cs h.1)

nonempty : (c : ℕ) (cs : List ℕ) → 0 < length (c ∷ cs)
nonempty c cs = omega arith

truth_spelled : (b : Bool) → IsSpelled (Atom no_span (leaf.Bool b))
truth_spelled true = (refl, ascii_word (codes "#t") (refl, (refl, tt)))
truth_spelled false = (refl, ascii_word (codes "#f") (refl, (refl, tt)))

size_of : (z : ℤ) → IsTrue (is_int z) → mag z < 2 ^ 63
size_of (pos n) h = ltb-true n (2 ^ 63) h
size_of (negsuc n) h = ltb-true n (2 ^ 63) h

int_spelled : (z : ℤ) → IsTrue (is_int z) → IsSpelled (Atom no_span (leaf.Int z))
int_spelled z h = (integers_are_spelled z h, IsAscii-signed z (size_of z h))

below : (n : ℕ) → nat_lt n (2 ^ 32) ≡ true → nat_lt n (2 ^ 63) ≡ true
below n h = grind (arith, nat_tests)

number_spelled : (n : ℕ) → nat_lt n (2 ^ 32) ≡ true → IsSpelled (Atom no_span (leaf.Int (pos n)))
number_spelled n h = int_spelled (pos n) (below n h)

numbers_spelled : (ns : List ℕ) → all_below (2 ^ 32) ns ≡ true → AreSpelled (shown_numbers ns)
numbers_spelled [] h = tt
numbers_spelled (n ∷ ns) h = let a = and_parts (nat_lt n (2 ^ 32)) (all_below (2 ^ 32) ns) h in (number_spelled n a.0, numbers_spelled ns a.1)

array_spelled : IsSpelled (shown_word (codes "array"))
array_spelled = (((refl, (refl, (refl, (refl, (refl, tt))))), nonempty 97 (codes "rray"), refl, refl), ascii_word (codes "array") (refl, (refl, (refl, (refl, (refl, tt))))))

shape_spelled : IsSpelled (shown_word (codes "shape"))
shape_spelled = (((refl, (refl, (refl, (refl, (refl, tt))))), nonempty 115 (codes "hape"), refl, refl), ascii_word (codes "shape") (refl, (refl, (refl, (refl, (refl, tt))))))

box_spelled : IsSpelled (shown_word (codes "box"))
box_spelled = (((refl, (refl, (refl, tt))), nonempty 98 (codes "ox"), refl, refl), ascii_word (codes "box") (refl, (refl, (refl, tt))))

index_spelled : (v : IndexValue) → value_fits v ≡ true → IsSpelled (shown_index v)
index_spelled (DimValue n) h = number_spelled n h
index_spelled (ShapeValue ns) h = let a = and_parts (all_below (2 ^ 32) ns) (nat_le (length ns) 64) h in (shape_spelled, numbers_spelled ns a.0)

parts_spelled : (vs : List IndexValue) (f : Form) → all_fit vs ≡ true → IsSpelled f → AreSpelled (shown_parts vs f)
parts_spelled [] f h s = (s, tt)
parts_spelled (v ∷ vs) f h s = let a = and_parts (value_fits v) (all_fit vs) h in (index_spelled v a.0, parts_spelled vs f a.1 s)

mutual
  pub plain_spelled : (d : Data) → IsPlain d → IsSpelled (shown_value d)
  plain_spelled (DataArray dims xs) h = (array_spelled, (numbers_spelled dims h.0, atoms_spelled xs h.1))

  atom_spelled : (a : DataAtom) → IsPlainAtom a → IsSpelled (shown_atom a)
  atom_spelled (DataInt z) h = int_spelled z h
  atom_spelled (DataBool b) h = truth_spelled b
  atom_spelled (DataChar c) h = let s = characters_are_spelled c h in (s, char_ascii c (char_text c) s)
  atom_spelled (DataBox vs c) h = (box_spelled, parts_spelled vs (shown_value c) h.1 (plain_spelled c h.2))
  atom_spelled DataFn h = absurd h

  atoms_spelled : (xs : DataAtoms) → ArePlain xs → AreSpelled (shown_atoms xs)
  atoms_spelled no_data h = tt
  atoms_spelled (more_data a xs) h = (atom_spelled a h.0, atoms_spelled xs h.1)

-- ---- arrays that fit the types of inputs

pub values_plain : (ps : List Param) (ds : List Data) → All IsParam ps → FitsValues (each type_of ps) ds → AllPlain ds
values_plain [] [] i h = tt
values_plain [] (d ∷ ds) i h = absurd h
values_plain (p ∷ ps) [] i h = absurd h
values_plain (p ∷ ps) (d ∷ ds) i h = (param_plain p d (All-head IsParam p ps i) (fits_bare (type_of p) d h.0), values_plain ps ds (All-tail IsParam p ps i) h.1)
