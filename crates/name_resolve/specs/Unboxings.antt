-- How the program reads `unbox`: by what stands around the parts that are expressions themselves.
use Rattle.std.specs.Prelude.{ℕ, List, [], ◌∷◌, ◌+◌, length, Ok}
use Rattle.core_syntax.specs.declared.span.Span.{Span}
use Rattle.core_syntax.specs.Syntax.{Expr, Unbox}
use Rattle.sexp_reader.specs.Forms.{Form, Forms, form_of, form_size}
use Rattle.name_resolve.specs.declared.unboxings.Unboxing.{Unboxing as TheUnboxing}
use Rattle.name_resolve.specs.declared.words.NameSpace.TheVariants.{Terms, Indices}
use Rattle.name_resolve.specs.Binders.{binder, binders, bound_names}
use Rattle.name_resolve.specs.Held.{held_names}
use Rattle.name_resolve.specs.Lists.{the_two, hidden}
use Rattle.name_resolve.specs.Reading.{Read, with, three, asked}
use Rattle.name_resolve.specs.Scopes.{Name, Scopes, under}
use Rattle.name_resolve.specs.TermForms.{expr}
use Rattle.name_resolve.specs.TypeForms.{array_ty}

-- an `unbox` without its box: the names of the indices and of the content, the type and the body
pub record Unboxing : Type 0 where
  pub indices : List Name
  pub term : Name
  pub answer : Form
  pub body : Form

abbrev pub unboxing : Span → Form → Forms → Read Unboxing
unboxing at p fs =
    asked at (the_two fs) (λ q. asked at (hidden p) (λ h. asked at (binder Terms h.term) (λ b. with (bound_names at (binders (binder Indices) h.indices)) (λ xs.
    Ok (record { indices = xs; term = b.name; answer = q.left; body = q.right })))))

-- the scopes of its body
abbrev pub inside : Unboxing → Scopes → Scopes
inside u Γ = under Terms (u.term ∷ []) (under Indices u.indices Γ)

-- what it means with this box
abbrev pub unboxed : Scopes → Span → Read Expr → Unboxing → Read Expr
unboxed Γ at box u = three (Unbox at (length u.indices)) box (array_ty Γ u.answer) (expr (inside u Γ) u.body)

-- what the program holds of it
abbrev pub unboxing_of : TheUnboxing → Unboxing
unboxing_of u = record { indices = held_names u.bound.items; term = u.term.name.now; answer = form_of u.answer.now; body = form_of u.body.now }

-- the binders and the parts
abbrev pub unboxing_size : TheUnboxing → ℕ
unboxing_size u = length u.bound.items + (1 + (form_size (form_of u.boxed.now) + (form_size (form_of u.answer.now) + form_size (form_of u.body.now))))
