-- How the program reads lists that are expressions: by what stands around the parts that are expressions themselves.
use Rattle.std.specs.Prelude.{ℕ, List, [], length, Ok}
use Rattle.core_syntax.specs.declared.span.Span.{Span}
use Rattle.core_syntax.specs.Lists.{each}
use Rattle.core_syntax.specs.Refine.{index_of, ty_of, tys_of}
use Rattle.core_syntax.specs.Syntax.{index_items, Expr, TypeApp, IndexApp, Atom, Fn, TypeFn, IndexFn, Boxed}
use Rattle.sexp_reader.specs.Forms.{Form, Forms, form_of}
use Rattle.name_resolve.specs.declared.words.NameSpace.{NameSpace}
use Rattle.name_resolve.specs.declared.words.NameSpace.TheVariants.{Terms, Types, Indices}
use Rattle.name_resolve.specs.declared.words.AtomWord.{AtomWord}
use Rattle.name_resolve.specs.declared.words.AtomWord.TheVariants as word
use Rattle.name_resolve.specs.declared.headers.Header.{Header as TheHeader}
use Rattle.name_resolve.specs.declared.headers.HeaderForm.{HeaderForm}
use Rattle.name_resolve.specs.declared.headers.HeaderForm.TheVariants as made
use Rattle.name_resolve.specs.declared.headers.Literal.{Literal}
use Rattle.name_resolve.specs.declared.headers.Literal.TheVariants as literal
use Rattle.name_resolve.specs.declared.headers.Argument.{Argument}
use Rattle.name_resolve.specs.declared.headers.Argument.TheVariants as argument
use Rattle.name_resolve.specs.Binders.{binder, pair_binder, binders, bound_names}
use Rattle.name_resolve.specs.Held.{held_names}
use Rattle.name_resolve.specs.IndexForms.{indices}
use Rattle.name_resolve.specs.Lists.{some_listed, the_one, the_two}
use Rattle.name_resolve.specs.Reading.{Read, mapped, with, both, asked}
use Rattle.name_resolve.specs.Scopes.{Name, Scopes}
use Rattle.name_resolve.specs.TermForms.{array, frame, array_of, frame_of, atoms, exprs, type_app, index_app}
use Rattle.name_resolve.specs.TypeForms.{ty, array_ty, types, pair_sorts, pair_arrays}

-- an atom around an expression: the names that the expression is read under, and the atom of what it means
pub record Header : Type 0 where
  pub space : NameSpace
  pub names : List Name
  pub body : Form
  pub done : Expr → Read Atom

abbrev pub header : Scopes → Span → AtomWord → Form → Forms → Read Header
header Γ at word.Fn p fs =
    asked at (the_two fs) (λ q. asked at (some_listed p) (λ ps. with (bound_names at (binders (pair_binder Terms) ps)) (λ xs.
    both (λ ts t. record { space = Terms; names = xs; body = q.right; done = λ e. Ok (Fn at ts t e) }) (pair_arrays Γ ps) (array_ty Γ q.left))))
header Γ at word.TypeFn p fs =
    asked at (the_one fs) (λ q. asked at (some_listed p) (λ ns. with (bound_names at (binders (binder Types) ns)) (λ xs.
    Ok (record { space = Types; names = xs; body = q; done = λ e. Ok (TypeFn at (length xs) e) }))))
header Γ at word.IndexFn p fs =
    asked at (the_one fs) (λ q. asked at (some_listed p) (λ ps. with (bound_names at (binders (pair_binder Indices) ps)) (λ xs.
    mapped (λ ss. record { space = Indices; names = xs; body = q; done = λ e. Ok (IndexFn at ss e) }) (pair_sorts ps))))
header Γ at word.Box p fs =
    asked at (the_two fs) (λ q. asked at (some_listed p) (λ is.
    mapped (λ is. record { space = Terms; names = []; body = q.left; done = λ e. mapped (Boxed at (index_items is) e) (ty Γ q.right) }) (indices Γ.indices is)))

-- what the program holds of it
abbrev pub done_of : Scopes → Span → HeaderForm → Expr → Read Atom
done_of Γ at (made.Fn ts t) e = Ok (Fn at (tys_of ts) (ty_of t) e)
done_of Γ at (made.TypeFn n) e = Ok (TypeFn at n e)
done_of Γ at (made.IndexFn ss) e = Ok (IndexFn at ss e)
done_of Γ at (made.Box is t) e = mapped (Boxed at (each index_of is) e) (ty Γ (form_of t.now))

abbrev pub header_of : Scopes → Span → TheHeader → Header
header_of Γ at h = record { space = h.space; names = held_names h.bound.items; body = form_of h.body.now; done = done_of Γ at h.form }

-- an array or a frame
abbrev pub literal_read : Literal → Scopes → Span → Form → Forms → Read Expr
literal_read literal.Array Γ at p fs = array Γ at p fs (atoms Γ fs)
literal_read literal.Frame Γ at p fs = frame Γ at p fs (exprs Γ fs)

-- the same with these numbers
abbrev pub literal_of : Literal → Scopes → Span → Forms → List ℕ → Read Expr
literal_of literal.Array Γ at fs ns = array_of Γ at fs (atoms Γ fs) ns
literal_of literal.Frame Γ at fs ns = frame_of Γ at fs (exprs Γ fs) ns

-- an application to types or to indices
abbrev pub applied_read : Argument → Scopes → Span → Forms → Read Expr → Read Expr
applied_read argument.Type Γ at fs function = type_app Γ at fs function
applied_read argument.Index Γ at fs function = index_app Γ at fs function

-- the same of this function
abbrev pub applied_of : Argument → Scopes → Span → Forms → Expr → Read Expr
applied_of argument.Type Γ at fs e = mapped (TypeApp at e) (types Γ fs)
applied_of argument.Index Γ at fs e = mapped (λ is. IndexApp at e (index_items is)) (indices Γ.indices fs)
