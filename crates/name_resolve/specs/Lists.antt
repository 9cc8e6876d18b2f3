-- Lists in the forms.
use Rattle.std.specs.Prelude.{ℕ, zero, suc, Option, Some, None}
use Rattle.core_syntax.specs.declared.span.Span.{Span}
use Rattle.sexp_reader.specs.Forms.{Form, Atom, Group, Forms, no_forms, more_forms}

-- where a form stands
abbrev pub form_place : Form → Span
form_place (Atom at l) = at
form_place (Group at fs) = at

-- what is a list, and what is a list of at least one
abbrev pub listed : Form → Option Forms
listed (Atom at l) = None
listed (Group at fs) = Some fs

abbrev pub some_listed : Form → Option Forms
some_listed (Group at (more_forms f fs)) = Some (more_forms f fs)
some_listed _ = None

-- what is one form, and what is two
abbrev pub the_one : Forms → Option Form
the_one (more_forms f no_forms) = Some f
the_one _ = None

pub record Two : Type 0 where
  pub left : Form
  pub right : Form

abbrev pub the_two : Forms → Option Two
the_two (more_forms f (more_forms g no_forms)) = Some (record { left = f; right = g })
the_two _ = None

-- what is three
pub record Three : Type 0 where
  pub first : Form
  pub second : Form
  pub third : Form

abbrev pub the_three : Forms → Option Three
the_three (more_forms f (more_forms g (more_forms h no_forms))) = Some (record { first = f; second = g; third = h })
the_three _ = None

-- a pair (f g)
abbrev pub pair : Form → Option Two
pair (Group at fs) = the_two fs
pair _ = None

-- the form behind so many
abbrev pub nth : ℕ → Forms → Option Form
nth k no_forms = None
nth zero (more_forms f fs) = Some f
nth (suc k) (more_forms f fs) = nth k fs

-- what is a list of at least three: all but the last two, and the last but one
pub record Hidden : Type 0 where
  pub indices : Forms
  pub term : Form

abbrev pub hidden_among : Forms → Option Hidden
hidden_among (more_forms f (more_forms g (more_forms h no_forms))) = Some (record { indices = more_forms f no_forms; term = g })
hidden_among (more_forms f fs) = elim (hidden_among fs) [ Some h ↦ Some (record h { indices = more_forms f h.indices }) | None ↦ None ]
hidden_among no_forms = None

abbrev pub hidden : Form → Option Hidden
hidden (Group at fs) = hidden_among fs
hidden _ = None
