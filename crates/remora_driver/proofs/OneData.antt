-- What is due on data is one thing, where what is due on its values is.
use Rattle.std.proofs.Common.{◌≡◌, sym, ap, ◌∙◌, subst, ℕ, List, []}
use Rattle.std.specs.Prelude.{◌↔◌}
use Rattle.core_syntax.specs.Data.{Data, FitsValues}
use Rattle.core_syntax.specs.Syntax.{Ty}
use Rattle.sexp_reader.specs.Reads.{Refusal}
use Rattle.value_text.specs.DataFits.{Fits}
use Rattle.value_text.specs.DataTexts.{DataBlame}
use Rattle.value_text.proofs.TextLemmas.{reads_once, never_both, one_blame}
use Rattle.value_text.proofs.fits.ReadsFits.{fitting_is_read}
use Rattle.remora_driver.specs.Due.{Answer, data_refused, IsDueOn, unfit, fitting, IsDueBy, with_data, without}

-- a text that fits is no refused one, and fits in one way
never_fits : (types : List Ty) (given : List ℕ) (xs : List Data) (r : Refusal) → Fits given types xs → DataBlame given types r → ⊥
never_fits types given xs r fits why = never_both given types xs r (fitting_is_read given types xs fits) why

fits_once : (types : List Ty) (given : List ℕ) (xs ys : List Data) → Fits given types xs → Fits given types ys → xs ≡ ys
fits_once types given xs ys f g = reads_once given types xs ys (fitting_is_read given types xs f) (fitting_is_read given types ys g)

-- two things that are due on the same data
module _ (types : List Ty) (given : List ℕ) (E F : List Data → Answer → Type 0) (a b : Answer) (one : (xs : List Data) → FitsValues types xs → E xs a → F xs b → a ≡ b) where
  pub one_due_on : IsDueOn types given E a → IsDueOn types given F b → a ≡ b
  one_due_on (unfit n at why e) (unfit m to why' h) =
      e ∙ ap (λ (r : Refusal). data_refused r.0 r.1) (one_blame given types (n, at) (m, to) why why') ∙ sym h
  one_due_on (unfit n at why e) (fitting xs fits due) = absurd (never_fits types given xs (n, at) fits why)
  one_due_on (fitting xs fits due) (unfit n at why e) = absurd (never_fits types given xs (n, at) fits why)
  one_due_on (fitting xs fits due) (fitting ys fits' due') =
      one ys fits'.fits (subst (λ (zs : List Data). E zs a) (fits_once types given xs ys fits fits') due) due'

-- what is due on data of the same types, where each end is one of these
pub due_on_further : (types types' : List Ty) (given : List ℕ) (E F : List Data → Answer → Type 0) (a : Answer) → types ≡ types' → ((xs : List Data) → FitsValues types' xs → E xs a → F xs a) → IsDueOn types given E a → IsDueOn types' given F a
due_on_further ts us given E F a same f due = go (subst (λ (vs : List Ty). IsDueOn vs given E a) same due)
  where
    go : IsDueOn us given E a → IsDueOn us given F a
    go (unfit n at why e) = unfit n at why e
    go (fitting xs fits end) = fitting xs fits (f xs fits.fits end)

-- ---- data that is taken or isn't

-- two things that are due on the same input
pub one_due_by : (T : Type 0) (D : List ℕ → Answer → Type 0) (input : List ℕ) (a b : Answer) → ((given : List ℕ) → D given a → D given b → a ≡ b) → IsDueBy T D input a → IsDueBy T D input b → a ≡ b
one_due_by T D input a b one (with_data t due) (with_data t' due') = one input due due'
one_due_by T D input a b one (with_data t due) (without n due') = absurd (n t)
one_due_by T D input a b one (without n due) (with_data t due') = absurd (n t)
one_due_by T D input a b one (without n due) (without n' due') = one [] due due'

-- what is due of a part is due of the whole
pub due_by_further : (T T' : Type 0) (D D' : List ℕ → Answer → Type 0) (input : List ℕ) (a : Answer) → T ↔ T' → ((given : List ℕ) → D given a → D' given a) → IsDueBy T D input a → IsDueBy T' D' input a
due_by_further T T' D D' input a both f (with_data t due) = with_data (both.0 t) (f input due)
due_by_further T T' D D' input a both f (without n due) = without (λ t. n (both.1 t)) (f [] due)
