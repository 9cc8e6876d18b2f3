-- What types mean. In an array type's place an atom type stands for its scalar array type.
use Rattle.std.specs.Prelude.{List, [], ◌∷◌, length, Option, Some, None, Ok, Err, if◌then◌else◌}
use Rattle.core_syntax.specs.declared.span.Span.{Span}
use Rattle.core_syntax.specs.declared.index.Sort.{Sort}
use Rattle.core_syntax.specs.Kinds.{is_atom_kind}
use Rattle.core_syntax.specs.Syntax.{Dims, end, Ty, BaseTy, TyVar, Fun, Forall, Pi, Sigma, Arr, Tys, no_tys, more_tys, ty_at}
use Rattle.sexp_reader.specs.declared.pieces.Leaf.TheVariants as leaf
use Rattle.sexp_reader.specs.Forms.{Form, Atom, Group, Forms, no_forms, more_forms}
use Rattle.name_resolve.specs.declared.words.NameSpace.TheVariants.{Types, Indices}
use Rattle.name_resolve.specs.declared.words.TypeWord.{TypeWord}
use Rattle.name_resolve.specs.declared.words.TypeWord.TheVariants as word
use Rattle.name_resolve.specs.declared.words.Quantifier.{Quantifier}
use Rattle.name_resolve.specs.declared.words.Quantifier.TheVariants as quantifier
use Rattle.name_resolve.specs.Binders.{binder, pair_binder, binders, bound_names}
use Rattle.name_resolve.specs.IndexForms.{malformed, index}
use Rattle.name_resolve.specs.Lists.{some_listed, pair}
use Rattle.name_resolve.specs.Reading.{Read, mapped, with, both, asked}
use Rattle.name_resolve.specs.Scopes.{Name, Scopes, under, looked_up}
use Rattle.name_resolve.specs.Words.{type_word, base_word, sort_named}

-- a sort: Dim, Shape
abbrev pub sort_of : Form → Read Sort
sort_of (Atom at (leaf.Symbol x)) = asked at (sort_named x) (λ s. Ok s)
sort_of f = malformed f

-- the sorts of pairs (x S)
abbrev pub pair_sort : Form → Read Sort
pair_sort f = elim (pair f) [ Some p ↦ sort_of p.right | None ↦ malformed f ]

abbrev pub pair_sorts : Forms → Read (List Sort)
pair_sorts no_forms = Ok []
pair_sorts (more_forms f fs) = both (λ s ss. s ∷ ss) (pair_sort f) (pair_sorts fs)

-- in an array type's place
abbrev pub as_array : Ty → Ty
as_array t = if is_atom_kind t then Arr (ty_at t) t (Dims (ty_at t) end) else t

-- the word at the head of a list
abbrev pub type_head : Form → Option TypeWord
type_head (Atom at (leaf.Symbol w)) = type_word w
type_head f = None

-- Int, Bool, Char, x
abbrev pub named_ty : Scopes → Span → Name → Read Ty
named_ty Γ at x = elim (base_word x) [ Some b ↦ Ok (BaseTy at b) | None ↦ looked_up at (TyVar at) x Γ.types ]

-- (-> (T T ...) T)
abbrev pub arrow : Span → Form → Read Tys → Read Ty → Read Ty
arrow at p inputs answer = asked at (some_listed p) (λ fs. both (Fun at) inputs (mapped as_array answer))

-- (Forall (x x ...) T), whose body is read in these scopes
abbrev pub forall : Scopes → Span → Form → (Scopes → Read Ty) → Read Ty
forall Γ at p body =
    asked at (some_listed p) (λ fs. with (bound_names at (binders (binder Types) fs)) (λ xs.
    mapped (Forall at (length xs)) (mapped as_array (body (under Types xs Γ)))))

-- (Pi ((x S) (x S) ...) T), (Sigma ((x S) (x S) ...) T)
abbrev pub quantified_ty : Quantifier → Span → List Sort → Ty → Ty
quantified_ty quantifier.Pi at ss t = Pi at ss t
quantified_ty quantifier.Sigma at ss t = Sigma at ss t

abbrev pub quantified : Quantifier → Scopes → Span → Form → (Scopes → Read Ty) → Read Ty
quantified q Γ at p body =
    asked at (some_listed p) (λ fs. with (bound_names at (binders (pair_binder Indices) fs)) (λ xs.
    both (quantified_ty q at) (pair_sorts fs) (mapped as_array (body (under Indices xs Γ)))))

-- a list that is a type: its word, its two parts, what the first means as a list of types, and what the parts mean as types
abbrev pub list_ty : Scopes → Span → Option TypeWord → Form → Form → Read Tys → (Scopes → Read Ty) → (Scopes → Read Ty) → Read Ty
-- (A T i)
list_ty Γ at (Some word.Arr) p q inputs first second = both (Arr at) (first Γ) (index Γ.indices q)
list_ty Γ at (Some word.Arrow) p q inputs first second = arrow at p inputs (second Γ)
list_ty Γ at (Some word.Forall) p q inputs first second = forall Γ at p second
list_ty Γ at (Some word.Pi) p q inputs first second = quantified quantifier.Pi Γ at p second
list_ty Γ at (Some word.Sigma) p q inputs first second = quantified quantifier.Sigma Γ at p second
list_ty Γ at None p q inputs first second = Err (7, at)

abbrev mutual
  pub ty : Scopes → Form → Read Ty
  ty Γ (Atom at (leaf.Symbol x)) = named_ty Γ at x
  ty Γ (Group at (more_forms f (more_forms p (more_forms q no_forms)))) = list_ty Γ at (type_head f) p q (arrays_in Γ p) (λ Δ. ty Δ p) (λ Δ. ty Δ q)
  ty Γ f = malformed f

  -- the types in a list, each in an array type's place
  pub arrays_in : Scopes → Form → Read Tys
  arrays_in Γ (Group at fs) = arrays Γ fs
  arrays_in Γ (Atom at l) = Ok no_tys

  pub arrays : Scopes → Forms → Read Tys
  arrays Γ no_forms = Ok no_tys
  arrays Γ (more_forms f fs) = both more_tys (mapped as_array (ty Γ f)) (arrays Γ fs)

abbrev pub array_ty : Scopes → Form → Read Ty
array_ty Γ f = mapped as_array (ty Γ f)

abbrev pub types : Scopes → Forms → Read (List Ty)
types Γ no_forms = Ok []
types Γ (more_forms f fs) = both (λ t ts. t ∷ ts) (ty Γ f) (types Γ fs)

-- the types of pairs (x T), each in an array type's place
abbrev pub pair_array : Scopes → Form → Read Ty
pair_array Γ f = elim (pair f) [ Some p ↦ array_ty Γ p.right | None ↦ malformed f ]

abbrev pub pair_arrays : Scopes → Forms → Read Tys
pair_arrays Γ no_forms = Ok no_tys
pair_arrays Γ (more_forms f fs) = both more_tys (pair_array Γ f) (pair_arrays Γ fs)
