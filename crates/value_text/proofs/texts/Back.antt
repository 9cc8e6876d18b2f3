-- The texts of arrays that fit the types of inputs are data of these types.
use Rattle.std.proofs.Common.{◌≡◌, refl, sym, subst, ◌∙◌, List, [], ◌∷◌, Some}
use Rattle.core_syntax.specs.Data.{Data}
use Rattle.core_syntax.specs.Lists.{each}
use Rattle.sexp_reader.specs.Forms.{Form, Forms, no_forms, more_forms}
use Rattle.sexp_reader.specs.Reads.{Reads}
use Rattle.sexp_reader.specs.Tokens.{start}
use Rattle.array_values.specs.Data.{array_data}
use Rattle.value_text.specs.DataFits.{of_two, said_values}
use Rattle.value_text.specs.ReadBack.{TextsFit}
use Rattle.value_text.specs.Shown.{shown_value, shown_values}
use Rattle.value_text.proofs.texts.Said.{bare, bares, shown_is_said}
use Rattle.value_text.proofs.texts.Plain.{AllPlain, plain_readable, plain_spelled, values_plain}
use Rattle.value_text.proofs.texts.Printed.{AreSpelled, placed_items, printed_bare, printed_reads}
use Rattle.value_text.proofs.texts.Shown.{texts_shown, value_bare}

all_spelled : (ds : List Data) → AllPlain ds → AreSpelled (shown_values ds)
all_spelled [] h = tt
all_spelled (d ∷ ds) h = (plain_spelled d h.0, all_spelled ds h.1)

values_bare : (ds : List Data) → bares (shown_values ds) ≡ shown_values ds
values_bare [] = refl
values_bare (d ∷ ds) = λ i. more_forms (value_bare d i) (values_bare ds i)

some_forms : (f : Form) (fs : Forms) → more_forms f fs ≡ no_forms → ⊥
some_forms f fs e = cc

parts_same : (f g : Form) (fs gs : Forms) → more_forms f fs ≡ more_forms g gs → (f ≡ g) × (fs ≡ gs)
parts_same f g fs gs e = (cc, cc)

-- forms that are those of data, wherever they stand, say it
all_said : (ds : List Data) (fs : Forms) → AllPlain ds → bares fs ≡ shown_values ds → said_values fs ≡ Some ds
all_said [] no_forms h e = refl
all_said [] (more_forms f fs) h e = absurd (some_forms (bare f) (bares fs) e)
all_said (d ∷ ds) no_forms h e = absurd (some_forms (shown_value d) (shown_values ds) (sym e))
all_said (d ∷ ds) (more_forms f fs) h e =
    let p = parts_same (bare f) (shown_value d) (bares fs) (shown_values ds) e in
    λ i. of_two (λ x xs. x ∷ xs) (shown_is_said d f (plain_readable d h.0) p.0 i) (all_said ds fs h.1 p.1 i)

pub texts_fit : TextsFit
texts_fit ps as' are fits short nested =
    let ds = each array_data as' in
    let plain = values_plain ps ds are fits in
    let spelled = all_spelled ds plain in
    let fs = placed_items start (shown_values ds) in
    record {
      short = short;
      forms = fs;
      reads = subst (λ t. Reads t fs) (texts_shown as') (printed_reads (shown_values ds) spelled nested);
      says = all_said ds fs plain (printed_bare (shown_values ds) ∙ values_bare ds);
      fits = fits;
    }
