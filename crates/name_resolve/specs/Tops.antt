-- How the program reads the top forms: the definitions one behind the other, and then main.
use Rattle.std.specs.Prelude.{List, [], ◌∷◌, ◌++◌, Some, None, Ok, Err}
use Rattle.core_syntax.specs.Programs.{program_with}
use Rattle.core_syntax.specs.Syntax.{Def, Program}
use Rattle.sexp_reader.specs.Forms.{Form, Forms, no_forms, more_forms, form_of, forms_of}
use Rattle.name_resolve.specs.declared.top.Definition.{Definition as TheDefinition}
use Rattle.name_resolve.specs.declared.top.Main.{Main as TheMain}
use Rattle.name_resolve.specs.declared.top.Body.{Body}
use Rattle.name_resolve.specs.Held.{held}
use Rattle.name_resolve.specs.Lists.{form_place}
use Rattle.name_resolve.specs.Means.{Definition, definition, Main}
use Rattle.name_resolve.specs.Reading.{Read, both, asked}
use Rattle.name_resolve.specs.Scopes.{Name, behind, number_of}
use Rattle.name_resolve.specs.TermForms.{expr}
use Rattle.name_resolve.specs.TypeForms.{array_ty}

-- the parts of a definition and of main as the program holds them
abbrev pub held_definition : TheDefinition → Definition
held_definition d = record { name = held d.name; ty = form_of d.ty.now; value = form_of d.value.now }

abbrev pub held_main : TheMain → Main
held_main m = record { inputs = forms_of m.inputs.now; body = form_of m.body.now }

-- the program of what main has, without a definition
abbrev pub body_of : Body → Program
body_of b = program_with [] b.inputs b.body

-- what a definition means behind definitions of these names
abbrev pub meant : List Name → Form → Definition → Read Def
meant xs f d = both (λ t e. record { at = form_place f; ty = t; value = e }) (array_ty (behind xs) d.ty) (expr (behind xs) d.value)

abbrev pub definition_read : List Name → Form → Read Def
definition_read xs f = asked (form_place f) (definition f) (λ d. elim (number_of d.name.name xs) [ Some k ↦ Err (9, d.name.at) | None ↦ meant xs f d ])

-- the names of definitions behind it
abbrev pub known_behind : List Name → Form → List Name
known_behind xs f = elim (definition f) [ Some d ↦ xs ++ d.name.name ∷ [] | None ↦ xs ]

-- definitions one behind the other, and the names behind them
abbrev pub definitions_read : List Name → Forms → Read (List Def)
definitions_read xs no_forms = Ok []
definitions_read xs (more_forms f fs) = both (λ d ds. d ∷ ds) (definition_read xs f) (definitions_read (known_behind xs f) fs)

abbrev pub all_known : List Name → Forms → List Name
all_known xs no_forms = xs
all_known xs (more_forms f fs) = all_known (known_behind xs f) fs
