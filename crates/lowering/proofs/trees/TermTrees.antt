-- What is lowered so far with a tree's term, by the tree's form: `now` is what a part was read as.
use Rattle.std.proofs.Common.{◌≡◌, ◌∙◌, sym, ap, ℕ, List}
use Rattle.core_syntax.specs.declared.norm.NormIndex.{NormIndex}
use Rattle.core_syntax.specs.Lists.{each}
use Rattle.core_syntax.specs.Word.{Word}
use Rattle.core_syntax.specs.Terms.{TArray, TFrame}
use Rattle.array_values.specs.declared.closure.CloseKind.TheVariants as close
use Rattle.machine_table.specs.declared.code.Instr.TheVariants.{Box, App, TypeApp, IndexApp, Unbox}
use Rattle.machine_table.specs.Indices.{code_index}
use Rattle.erasure.specs.declared.term.ErExpr as tree
use Rattle.erasure.specs.declared.term.ErExpr.{ErExpr}
use Rattle.erasure.specs.declared.term.ErAtom as cell
use Rattle.erasure.specs.declared.term.ErAtom.{ErAtom}
use Rattle.lowering.specs.Outputs.{Output, pushed, reserved, with_term, with_terms, with_cell, with_closure, filled}
use Rattle.erasure.specs.Refine.{erased_of, erased_terms_of, erased_cell_of, erased_cells_of}
use Rattle.erasure.proofs.trees.TermRows.{of_array, of_frame, of_app, of_type_app, of_index_app, of_unbox, of_fn, of_type_fn, of_index_fn, of_boxed}
use Rattle.lowering.proofs.trees.Outputs.{app_out, type_app_out, index_app_out, unbox_out, fn_out, type_fn_out, index_fn_out, boxed_out}

-- ---- terms

module _ (t : ErExpr) where
  pub array_tree : (dims dims' : List ℕ) (xs now : List ErAtom) (o : Output) → now ≡ xs → dims' ≡ dims → t ≡ tree.Array dims xs → with_term (TArray dims' (erased_cells_of now)) o ≡ with_term (erased_of t) o
  array_tree dims dims' xs now o p q h = (λ i. with_term (TArray (q i) (erased_cells_of (p i))) o) ∙ ap (λ u. with_term u o) (sym (ap erased_of h ∙ of_array dims xs))

  pub frame_tree : (dims dims' : List ℕ) (ts now : List ErExpr) (o : Output) → now ≡ ts → dims' ≡ dims → t ≡ tree.Frame dims ts → with_term (TFrame dims' (erased_terms_of now) tt) o ≡ with_term (erased_of t) o
  frame_tree dims dims' ts now o p q h = (λ i. with_term (TFrame (q i) (erased_terms_of (p i)) tt) o) ∙ ap (λ u. with_term u o) (sym (ap erased_of h ∙ of_frame dims ts))

  pub app_tree : (f f' : ErExpr) (ts ts' : List ErExpr) (cs cs' : List Word) (r : Word) (o a b : Output) → f' ≡ f → ts' ≡ ts → cs' ≡ cs → t ≡ tree.App f ts cs r
      → a ≡ with_term (erased_of f') o → b ≡ with_terms (erased_terms_of ts') a → pushed (App cs' r) b ≡ with_term (erased_of t) o
  app_tree f f' ts ts' cs cs' r o a b p q s h first second =
      ap (pushed (App cs' r)) (second ∙ ap (with_terms (erased_terms_of ts')) first)
      ∙ (λ i. pushed (App (s i) r) (with_terms (erased_terms_of (q i)) (with_term (erased_of (p i)) o)))
      ∙ app_out (erased_of f) (erased_terms_of ts) cs r o ∙ ap (λ u. with_term u o) (sym (ap erased_of h ∙ of_app f ts cs r))

  pub type_app_tree : (f f' : ErExpr) (r : Word) (o a : Output) → f' ≡ f → t ≡ tree.TypeApp f r → a ≡ with_term (erased_of f') o → pushed (TypeApp r) a ≡ with_term (erased_of t) o
  type_app_tree f f' r o a p h first =
      ap (pushed (TypeApp r)) (first ∙ ap (λ e. with_term (erased_of e) o) p) ∙ type_app_out (erased_of f) r o ∙ ap (λ u. with_term u o) (sym (ap erased_of h ∙ of_type_app f r))

  pub index_app_tree : (f f' : ErExpr) (is is' : List NormIndex) (r : Word) (o a : Output) → f' ≡ f → is' ≡ is → t ≡ tree.IndexApp f is r → a ≡ with_term (erased_of f') o
      → pushed (IndexApp (each code_index is') r) a ≡ with_term (erased_of t) o
  index_app_tree f f' is is' r o a p q h first =
      ap (pushed (IndexApp (each code_index is') r)) (first ∙ ap (λ e. with_term (erased_of e) o) p) ∙ ap (λ js. pushed (IndexApp (each code_index js) r) (with_term (erased_of f) o)) q
      ∙ index_app_out (erased_of f) is r o ∙ ap (λ u. with_term u o) (sym (ap erased_of h ∙ of_index_app f is r))

  pub unbox_tree : (n : ℕ) (e e' b b' : ErExpr) (r : Word) (k : ℕ) (o a x y : Output) → e' ≡ e → b' ≡ b → t ≡ tree.Unbox n e b r
      → k ≡ Rattle.std.specs.Prelude.length o.blocks → a ≡ reserved o → x ≡ with_term (erased_of e') a → y ≡ filled k (erased_of b') x → pushed (Unbox k n r) y ≡ with_term (erased_of t) o
  unbox_tree n e e' b b' r k o a x y p q h number first second third =
      ap (pushed (Unbox k n r)) (third ∙ ap (filled k (erased_of b')) (second ∙ ap (with_term (erased_of e')) first))
      ∙ (λ i. pushed (Unbox (number i) n r) (filled (number i) (erased_of (q i)) (with_term (erased_of (p i)) (reserved o))))
      ∙ unbox_out n (erased_of e) (erased_of b) r o ∙ ap (λ u. with_term u o) (sym (ap erased_of h ∙ of_unbox n e b r))

-- ---- atoms

module _ (a : ErAtom) where
  pub fn_tree : (n : ℕ) (e e' : ErExpr) (o : Output) → e' ≡ e → a ≡ cell.Fn n e → with_closure close.Fn n (erased_of e') o ≡ with_cell (erased_cell_of a) o
  fn_tree n e e' o p h = ap (λ u. with_closure close.Fn n (erased_of u) o) p ∙ fn_out n (erased_of e) o ∙ ap (λ u. with_cell u o) (sym (ap erased_cell_of h ∙ of_fn n e))

  pub type_fn_tree : (e e' : ErExpr) (o : Output) → e' ≡ e → a ≡ cell.TypeFn e → with_closure close.TypeFn 0 (erased_of e') o ≡ with_cell (erased_cell_of a) o
  type_fn_tree e e' o p h = ap (λ u. with_closure close.TypeFn 0 (erased_of u) o) p ∙ type_fn_out (erased_of e) o ∙ ap (λ u. with_cell u o) (sym (ap erased_cell_of h ∙ of_type_fn e))

  pub index_fn_tree : (n : ℕ) (e e' : ErExpr) (o : Output) → e' ≡ e → a ≡ cell.IndexFn n e → with_closure close.IndexFn n (erased_of e') o ≡ with_cell (erased_cell_of a) o
  index_fn_tree n e e' o p h =
      ap (λ u. with_closure close.IndexFn n (erased_of u) o) p ∙ index_fn_out n (erased_of e) o ∙ ap (λ u. with_cell u o) (sym (ap erased_cell_of h ∙ of_index_fn n e))

  pub boxed_tree : (is is' : List NormIndex) (e e' : ErExpr) (o x : Output) → is' ≡ is → e' ≡ e → a ≡ cell.Boxed is e → x ≡ with_term (erased_of e') o → pushed (Box (each code_index is')) x ≡ with_cell (erased_cell_of a) o
  boxed_tree is is' e e' o x q p h first =
      ap (pushed (Box (each code_index is'))) (first ∙ ap (λ u. with_term (erased_of u) o) p) ∙ ap (λ js. pushed (Box (each code_index js)) (with_term (erased_of e) o)) q
      ∙ boxed_out is (erased_of e) o ∙ ap (λ u. with_cell u o) (sym (ap erased_cell_of h ∙ of_boxed is e))
