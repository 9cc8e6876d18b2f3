use Rattle.std.proofs.Common.{ap, ◌∙◌}
use Rattle.name_resolve.specs.Scopes.{Scopes, under}
use Rattle.name_resolve.proofs.ScopeLemmas.{left_terms, left_types, left_indices}
use Rattle.name_resolve.proofs.scopes.Scopes.leave.Goals as goal

pub returns-in-Terms : goal.returns-in-Terms
returns-in-Terms c = λ names before e l.
    let s : Scopes = record { defs = c.self.inside.defs; terms = c.self.inside.terms; types = c.self.inside.types; indices = c.self.inside.indices } in
    left_terms s before names c.args.count l c.leave_all.new.space c.leave_all.ensures (c.self.view_is ∙ e ∙ ap (λ p. under p names before) c.in-Terms.is)

pub returns-in-Types : goal.returns-in-Types
returns-in-Types c = λ names before e l.
    let s : Scopes = record { defs = c.self.inside.defs; terms = c.self.inside.terms; types = c.self.inside.types; indices = c.self.inside.indices } in
    left_types s before names c.args.count l c.leave_all-in-Types.new.space c.leave_all-in-Types.ensures (c.self.view_is ∙ e ∙ ap (λ p. under p names before) c.in-Types.is)

pub returns-in-Indices : goal.returns-in-Indices
returns-in-Indices c = λ names before e l.
    let s : Scopes = record { defs = c.self.inside.defs; terms = c.self.inside.terms; types = c.self.inside.types; indices = c.self.inside.indices } in
    left_indices s before names c.args.count l c.leave_all-in-Indices.new.space c.leave_all-in-Indices.ensures (c.self.view_is ∙ e ∙ ap (λ p. under p names before) c.in-Indices.is)
