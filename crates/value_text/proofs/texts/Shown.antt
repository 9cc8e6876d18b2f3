-- The text of data is that of the forms that it is shown as.
use Rattle.std.proofs.Common.{◌≡◌, refl, sym, ap, ◌∙◌, ℕ, pos, List, [], ◌∷◌, ◌++◌, codes, append_assoc}
use Rattle.std.specs.Prelude.{flat_map}
use Rattle.std.specs.Fmt.{decimal}
use Rattle.core_syntax.specs.Data.{Data, DataArray, DataAtom, DataInt, DataBool, DataChar, DataBox, DataFn, DataAtoms, no_data, more_data}
use Rattle.core_syntax.specs.Lists.{each}
use Rattle.core_syntax.specs.Syntax.{no_span}
use Rattle.core_syntax.specs.Terms.{IndexValue, DimValue, ShapeValue}
use Rattle.sexp_reader.specs.declared.pieces.Leaf.TheVariants as leaf
use Rattle.sexp_reader.specs.Forms.{Form, Atom, Group, no_forms, more_forms}
use Rattle.sexp_reader.specs.Split.{Part, Closing, text_of}
use Rattle.array_values.specs.Data.{array_data}
use Rattle.array_values.specs.Values.{Array}
use Rattle.value_text.specs.ReadBack.{array_texts}
use Rattle.value_text.specs.Shown.{shown_word, shown_numbers, shown_index, shown_parts, shown_value, shown_values, shown_atom, shown_atoms}
use Rattle.value_text.proofs.texts.Said.{bare, bares}
use Rattle.value_text.specs.ValueText.{dims_text, front_text, spaced, array_text}
use Rattle.value_text.proofs.DataTexts.{value_text, data_atom_text, data_atoms_text, data_text, text_of_data}
use Rattle.value_text.proofs.texts.Printed.{form_parts, items_parts, rest_parts}

-- ---- numbers and values of indices

abbrev numbers_text : List ℕ → List ℕ
numbers_text ns = flat_map (λ d. 32 ∷ decimal d) ns

rest_numbers : (ns : List ℕ) (ps : List Part) → text_of (rest_parts (shown_numbers ns) ps) ≡ numbers_text ns ++ text_of ps
rest_numbers [] ps = refl
rest_numbers (n ∷ ns) ps = ap (λ t. 32 ∷ (decimal n ++ t)) (rest_numbers ns ps) ∙ sym (append_assoc (32 ∷ decimal n) (numbers_text ns) (text_of ps))

dims_shown : (ns : List ℕ) (ps : List Part) → text_of (items_parts (shown_numbers ns) ps) ≡ dims_text ns ++ text_of ps
dims_shown [] ps = refl
dims_shown (n ∷ ns) ps = ap (λ t. decimal n ++ t) (rest_numbers ns ps) ∙ sym (append_assoc (decimal n) (numbers_text ns) (text_of ps))

index_shown : (v : IndexValue) (ps : List Part) → text_of (form_parts (shown_index v) ps) ≡ value_text v ++ text_of ps
index_shown (DimValue n) ps = refl
index_shown (ShapeValue ns) ps = ap (λ t. codes "(shape" ++ t) (rest_numbers ns (Closing ∷ ps) ∙ sym (append_assoc (numbers_text ns) (codes ")") (text_of ps)))

abbrev values_text : List IndexValue → List ℕ
values_text vs = flat_map (λ v. 32 ∷ value_text v) vs

parts_shown : (vs : List IndexValue) (c : Form) (ps : List Part) → text_of (rest_parts (shown_parts vs c) ps) ≡ values_text vs ++ 32 ∷ text_of (form_parts c ps)
parts_shown [] c ps = refl
parts_shown (v ∷ vs) c ps =
    ap (λ t. 32 ∷ t) (index_shown v (rest_parts (shown_parts vs c) ps) ∙ ap (λ t. value_text v ++ t) (parts_shown vs c ps))
    ∙ sym (append_assoc (32 ∷ value_text v) (values_text vs) (32 ∷ text_of (form_parts c ps)))

-- ---- values and atoms

-- texts before others
front_then : (dims rest : List ℕ) → front_text dims ++ rest ≡ codes "(array (" ++ (dims_text dims ++ 41 ∷ rest)
front_then dims rest = ap (λ t. codes "(array (" ++ t) (append_assoc (dims_text dims) (codes ")") rest)

value_then : (front atoms rest : List ℕ) → ((front ++ atoms) ++ codes ")") ++ rest ≡ front ++ (atoms ++ 41 ∷ rest)
value_then front atoms rest = append_assoc (front ++ atoms) (codes ")") rest ∙ append_assoc front atoms (41 ∷ rest)

box_then : (values front atoms rest : List ℕ) → ((codes "(box" ++ (values ++ 32 ∷ front)) ++ (atoms ++ codes "))")) ++ rest ≡ codes "(box" ++ (values ++ 32 ∷ (front ++ (atoms ++ 41 ∷ 41 ∷ rest)))
box_then values front atoms rest =
    append_assoc (codes "(box" ++ (values ++ 32 ∷ front)) (atoms ++ codes "))") rest
    ∙ ap (λ t. (codes "(box" ++ (values ++ 32 ∷ front)) ++ t) (append_assoc atoms (codes "))") rest)
    ∙ ap (λ t. codes "(box" ++ t) (append_assoc values (32 ∷ front) (atoms ++ 41 ∷ 41 ∷ rest))

mutual
  value_shown : (d : Data) (ps : List Part) → text_of (form_parts (shown_value d) ps) ≡ data_text d ++ text_of ps
  value_shown (DataArray dims xs) ps =
      ap (λ t. codes "(array (" ++ t) (dims_shown dims (Closing ∷ rest_parts (shown_atoms xs) (Closing ∷ ps)) ∙ ap (λ t. dims_text dims ++ 41 ∷ t) (atoms_shown xs (Closing ∷ ps)))
      ∙ sym (value_then (front_text dims) (data_atoms_text xs) (text_of ps) ∙ front_then dims (data_atoms_text xs ++ 41 ∷ text_of ps))

  atom_shown : (a : DataAtom) (ps : List Part) → text_of (form_parts (shown_atom a) ps) ≡ data_atom_text a ++ text_of ps
  atom_shown (DataInt z) ps = refl
  atom_shown (DataBool b) ps = refl
  atom_shown (DataChar c) ps = refl
  atom_shown DataFn ps = refl
  atom_shown (DataBox vs (DataArray dims xs)) ps =
      ap (λ t. codes "(box" ++ t) (parts_shown vs (shown_value (DataArray dims xs)) (Closing ∷ ps)
      ∙ ap (λ t. values_text vs ++ 32 ∷ t) (value_shown (DataArray dims xs) (Closing ∷ ps) ∙ value_then (front_text dims) (data_atoms_text xs) (41 ∷ text_of ps)))
      ∙ sym (box_then (values_text vs) (front_text dims) (data_atoms_text xs) (text_of ps))

  atoms_shown : (xs : DataAtoms) (ps : List Part) → text_of (rest_parts (shown_atoms xs) ps) ≡ data_atoms_text xs ++ text_of ps
  atoms_shown no_data ps = refl
  atoms_shown (more_data a xs) ps =
      ap (λ t. 32 ∷ t) (atom_shown a (rest_parts (shown_atoms xs) ps) ∙ ap (λ t. data_atom_text a ++ t) (atoms_shown xs ps))
      ∙ sym (append_assoc (32 ∷ data_atom_text a) (data_atoms_text xs) (text_of ps))

-- ---- arrays, with single spaces between them

spaced_shown : (as' : List Array) → text_of (rest_parts (shown_values (each array_data as')) []) ≡ spaced array_text as'
spaced_shown [] = refl
spaced_shown (a ∷ as') =
    ap (λ t. 32 ∷ t) (value_shown (array_data a) (rest_parts (shown_values (each array_data as')) []) ∙ (λ i. sym (text_of_data a) i ++ spaced_shown as' i))

pub texts_shown : (as' : List Array) → text_of (items_parts (shown_values (each array_data as')) []) ≡ array_texts as'
texts_shown [] = refl
texts_shown (a ∷ as') = value_shown (array_data a) (rest_parts (shown_values (each array_data as')) []) ∙ (λ i. sym (text_of_data a) i ++ spaced_shown as' i)

-- ---- shown forms have no places

numbers_bare : (ns : List ℕ) → bares (shown_numbers ns) ≡ shown_numbers ns
numbers_bare [] = refl
numbers_bare (n ∷ ns) = ap (more_forms (Atom no_span (leaf.Int (pos n)))) (numbers_bare ns)

index_bare : (v : IndexValue) → bare (shown_index v) ≡ shown_index v
index_bare (DimValue n) = refl
index_bare (ShapeValue ns) = ap (λ fs. Group no_span (more_forms (shown_word (codes "shape")) fs)) (numbers_bare ns)

parts_bare : (vs : List IndexValue) (c : Form) → bare c ≡ c → bares (shown_parts vs c) ≡ shown_parts vs c
parts_bare [] c e = ap (λ f. more_forms f no_forms) e
parts_bare (v ∷ vs) c e = λ i. more_forms (index_bare v i) (parts_bare vs c e i)

mutual
  pub value_bare : (d : Data) → bare (shown_value d) ≡ shown_value d
  value_bare (DataArray dims xs) = λ i. Group no_span (more_forms (shown_word (codes "array")) (more_forms (Group no_span (numbers_bare dims i)) (atoms_bare xs i)))

  atom_bare : (a : DataAtom) → bare (shown_atom a) ≡ shown_atom a
  atom_bare (DataInt z) = refl
  atom_bare (DataBool b) = refl
  atom_bare (DataChar c) = refl
  atom_bare (DataBox vs c) = ap (λ fs. Group no_span (more_forms (shown_word (codes "box")) fs)) (parts_bare vs (shown_value c) (value_bare c))
  atom_bare DataFn = refl

  atoms_bare : (xs : DataAtoms) → bares (shown_atoms xs) ≡ shown_atoms xs
  atoms_bare no_data = refl
  atoms_bare (more_data a xs) = λ i. more_forms (atom_bare a i) (atoms_bare xs i)
