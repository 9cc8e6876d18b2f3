-- Contexts with equal types stay so under binders.
use Rattle.std.proofs.Common.{◌≡◌, subst, ap, ℕ, ◌+◌, List}
use Rattle.core_syntax.specs.declared.index.Sort.{Sort}
use Rattle.core_syntax.specs.Syntax.{Ty}
use Rattle.core_syntax.specs.Lists.{onto, EachTwo}
use Rattle.core_syntax.specs.TypeEqual.{Same}
use Rattle.core_syntax.specs.Typing.{Context, under_types, under_sorts, under_terms}
use Rattle.core_syntax.proofs.Alike.{Alike, alike_retypes, retypes_sorts, retypes_types}
use Rattle.reduction_laws.proofs.steps.Bodies.{two_onto}

pub alike_types : (n : ℕ) (Γ Δ : Context) → Alike Γ Δ → Alike (under_types n Γ) (under_types n Δ)
alike_types n Γ Δ a =
    record { types = ap (λ m. n + m) a.types; sorts = a.sorts; defs = a.defs; terms = (retypes_types Δ.defs Δ.terms Γ n (alike_retypes Γ Δ a)).terms }

pub alike_sorts : (ss rs : List Sort) (Γ Δ : Context) → ss ≡ rs → Alike Γ Δ → Alike (under_sorts ss Γ) (under_sorts rs Δ)
alike_sorts ss rs Γ Δ e a = subst (λ rs. Alike (under_sorts ss Γ) (under_sorts rs Δ)) e
    (record { types = a.types; sorts = ap (onto ss) a.sorts; defs = a.defs; terms = (retypes_sorts Δ.defs Δ.terms Γ ss (alike_retypes Γ Δ a)).terms })

pub alike_terms : (ts us : List Ty) (Γ Δ : Context) → EachTwo Same ts us → Alike Γ Δ → Alike (under_terms ts Γ) (under_terms us Δ)
alike_terms ts us Γ Δ h a = record { types = a.types; sorts = a.sorts; defs = a.defs; terms = two_onto Same ts us Γ.terms Δ.terms h a.terms }
