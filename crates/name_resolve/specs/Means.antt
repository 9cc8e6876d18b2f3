-- What forms mean: the program in which names are numbers, or the first refusal. Names are looked up in lists of the binders in scope.
use Rattle.std.specs.Prelude.{◌≡◌, List, [], ◌∷◌, ◌++◌, Option, Some, None, Ok, Err}
use Rattle.core_syntax.specs.declared.span.Span.{Span}
use Rattle.core_syntax.specs.Syntax.{Ty, Tys, ty_items, Expr, Def, Program, no_span}
use Rattle.sexp_reader.specs.declared.pieces.Leaf.TheVariants as leaf
use Rattle.sexp_reader.specs.Forms.{Form, Atom, Group, Forms, no_forms, more_forms}
use Rattle.name_resolve.specs.declared.words.NameSpace.TheVariants.{Terms}
use Rattle.name_resolve.specs.declared.words.TopWord.{TopWord}
use Rattle.name_resolve.specs.declared.words.TopWord.TheVariants as word
use Rattle.name_resolve.specs.Binders.{Binder, binder, pair_binder, binders, bound_names}
use Rattle.name_resolve.specs.Lists.{form_place, listed}
use Rattle.name_resolve.specs.Reading.{Read, Refusal, with, both, three, asked}
use Rattle.name_resolve.specs.Scopes.{Name, under, behind, number_of}
use Rattle.name_resolve.specs.TermForms.{expr}
use Rattle.name_resolve.specs.TypeForms.{array_ty, pair_arrays}
use Rattle.name_resolve.specs.Words.{top_word}

-- The top forms: definitions, and main as the last

-- the word at the head of a list
abbrev pub top_head : Form → Option TopWord
top_head (Atom at (leaf.Symbol w)) = top_word w
top_head f = None

-- (define x T e)
pub record Definition : Type 0 where
  pub name : Binder
  pub ty : Form
  pub value : Form

abbrev pub definition : Form → Option Definition
definition (Group at (more_forms f (more_forms x (more_forms t (more_forms e no_forms))))) =
    elim (top_head f) [ Some word.Define ↦ elim (binder Terms x) [ Some b ↦ Some (record { name = b; ty = t; value = e }) | None ↦ None ] | _ ↦ None ]
definition f = None

-- (main ((x T) ...) e)
pub record Main : Type 0 where
  pub inputs : Forms
  pub body : Form

abbrev pub main : Form → Option Main
main (Group at (more_forms f (more_forms p (more_forms e no_forms)))) =
    elim (top_head f) [ Some word.Main ↦ elim (listed p) [ Some fs ↦ Some (record { inputs = fs; body = e }) | None ↦ None ] | _ ↦ None ]
main f = None

-- the program of a body alone, and with one more definition in front
abbrev pub just_main : Tys → Expr → Program
just_main ts e = record { defs = []; inputs = ty_items ts; body = e }

abbrev pub with_definition : Span → Ty → Expr → Program → Program
with_definition at t e P = let d : Def = record { at = at; ty = t; value = e } in record P { defs = d ∷ P.defs }

-- the last form, behind these definitions
abbrev pub body : List Name → Form → Read Program
body xs f =
    asked (form_place f) (main f) (λ m. with (bound_names (form_place f) (binders (pair_binder Terms) m.inputs)) (λ ys.
    both just_main (pair_arrays (behind xs) m.inputs) (expr (under Terms ys (behind xs)) m.body)))

-- a form before the last: a definition of another name than those before it
abbrev pub defined : List Name → Form → (Name → Read Program) → Read Program
defined xs f rest =
    asked (form_place f) (definition f) (λ d. elim (number_of d.name.name xs) [
      | Some k ↦ Err (9, d.name.at)
      | None ↦ three (with_definition (form_place f)) (array_ty (behind xs) d.ty) (expr (behind xs) d.value) (rest d.name.name)
    ])

-- a form and those behind it, after definitions of these names
abbrev pub program_behind : List Name → Form → Forms → Read Program
program_behind xs f no_forms = body xs f
program_behind xs f (more_forms g gs) = defined xs f (λ x. program_behind (xs ++ x ∷ []) g gs)

abbrev pub program : Forms → Read Program
program no_forms = Err (7, no_span)
program (more_forms f fs) = program_behind [] f fs

-- the program that forms mean, and the first refusal where they mean none
abbrev pub Means : Forms → Program → Type 0
Means fs P = program fs ≡ Ok P

abbrev pub NameBlame : Forms → Refusal → Type 0
NameBlame fs r = program fs ≡ Err r
