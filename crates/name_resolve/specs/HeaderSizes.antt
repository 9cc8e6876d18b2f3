-- The room that the parts of an atom need.
use Rattle.std.specs.Prelude.{ℕ, ◌+◌, length, ⊤}
use Rattle.sexp_reader.specs.Forms.{form_of, form_size}
use Rattle.name_resolve.specs.declared.headers.Header.{Header}
use Rattle.name_resolve.specs.declared.headers.HeaderForm.{HeaderForm}
use Rattle.name_resolve.specs.declared.headers.HeaderForm.TheVariants as made
use Rattle.name_resolve.specs.Scopes.{Scopes, HasRoom}

-- the size of the form that is left to be read after the expression
abbrev pub later_size : HeaderForm → ℕ
later_size (made.Fn ts t) = 0
later_size (made.TypeFn n) = 0
later_size (made.IndexFn ss) = 0
later_size (made.Box is t) = form_size (form_of t.now)

-- the binders, the expression and what is left
abbrev pub header_size : Header → ℕ
header_size h = length h.bound.items + form_size (form_of h.body.now) + later_size h.form

abbrev pub HasTypeRoom : Scopes → HeaderForm → Type 0
HasTypeRoom Γ (made.Fn ts t) = ⊤
HasTypeRoom Γ (made.TypeFn n) = ⊤
HasTypeRoom Γ (made.IndexFn ss) = ⊤
HasTypeRoom Γ (made.Box is t) = HasRoom Γ (form_size (form_of t.now))
