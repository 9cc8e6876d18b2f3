use Rattle.std.proofs.Common.{◌≡◌, ◌∙◌, ℕ, List, length, reverse, nat_lt, ap, sym}
use Rattle.std.proofs.lemmas.List.{length-reverse}
use Rattle.core_syntax.specs.declared.index.Sort.{Sort}
use Rattle.code_text.specs.IndexReading.{has, dims_among}
use Rattle.code_text.proofs.types.Stack.{has_dim, has_shape}
use Rattle.code_text.proofs.scope.Binders.have.Goals as goal

pub returns-in-Dim : goal.returns-in-Dim
returns-in-Dim c =
    let bs = reverse c.self.inside.sorts.items in
    ap (λ (n : ℕ). nat_lt 0 n) c.self.invariant ∙ sym (has_dim bs) ∙ ap (λ (s : Sort). has s bs) (sym c.in-Dim.is) ∙ ap (λ (l : List Sort). has c.args.sort l) c.self.view_is

pub returns-in-Shape : goal.returns-in-Shape
returns-in-Shape c =
    let bs = reverse c.self.inside.sorts.items in
    let all : c.len.result ≡ length bs = c.len.ensures ∙ c.self.inside.sorts.ok.0 ∙ sym (length-reverse c.self.inside.sorts.items) in
    ap (λ (n : ℕ). nat_lt n c.len.result) c.self.invariant
    ∙ ap (λ (n : ℕ). nat_lt (dims_among bs) n) all
    ∙ sym (has_shape bs)
    ∙ ap (λ (s : Sort). has s bs) (sym c.in-Shape.is)
    ∙ ap (λ (l : List Sort). has c.args.sort l) c.self.view_is
