use Rattle.std.proofs.Common.{◌≡◌, sym, subst}
use Rattle.core_syntax.specs.Refine.{form_of, indices_of}
use Rattle.core_syntax.proofs.TreeRows.{form_of_sum, form_of_dims, form_of_join}
use Rattle.core_syntax.specs.declared.index.IndexForm.TheVariants.{Sum, Dims, Join}
use Rattle.name_resolve.specs.IndexForms.{index_made}
use Rattle.name_resolve.proofs.indices.index_form.Goals as goal

pub returns-in-Plus : goal.returns-in-Plus
returns-in-Plus c = λ at. subst (λ w. form_of at (Sum c.args.parts) ≡ index_made w at (indices_of c.args.parts)) (sym c.in-Plus.is) (form_of_sum at c.args.parts)

pub returns-in-Shape : goal.returns-in-Shape
returns-in-Shape c = λ at. subst (λ w. form_of at (Dims c.args.parts) ≡ index_made w at (indices_of c.args.parts)) (sym c.in-Shape.is) (form_of_dims at c.args.parts)

pub returns-in-Join : goal.returns-in-Join
returns-in-Join c = λ at. subst (λ w. form_of at (Join c.args.parts) ≡ index_made w at (indices_of c.args.parts)) (sym c.in-Join.is) (form_of_join at c.args.parts)
