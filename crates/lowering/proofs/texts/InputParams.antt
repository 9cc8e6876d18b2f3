-- The types of a checked program's inputs have a text.
use Rattle.std.proofs.Common.{◌≡◌, refl, sym, ap, ◌∙◌, subst, ℕ, zero, suc, ◌+◌, ◌*◌, ◌<◌, ◌≤◌, ◌^◌, arith, Bool, true, false, List, [], ◌∷◌, ◌++◌, length, append_assoc, Option, Some, None}
use Rattle.std.specs.Prelude.{◌||◌, nat_lt, reverse, slice_get, if◌then◌else◌}
use Rattle.std.proofs.lemmas.Grind.{reverse_onto}
use Rattle.std.proofs.lemmas.Bool.Decides.{nat_tests}
use Rattle.core_syntax.specs.declared.index.Sort.{Sort}
use Rattle.core_syntax.specs.declared.index.Sort.TheVariants as sort
use Rattle.core_syntax.specs.declared.norm.Coef.{Coef}
use Rattle.core_syntax.specs.declared.norm.Letter.TheVariants as letter
use Rattle.core_syntax.specs.Syntax.{Ty, BaseTy, TyVar, Fun, Forall, Pi, Sigma, Arr, Program}
use Rattle.core_syntax.specs.Lists.{onto, each, Each}
use Rattle.core_syntax.specs.Limits.{largest_number, largest_size, largest_depth}
use Rattle.core_syntax.specs.Word.{Word, AreNormal}
use Rattle.core_syntax.specs.Kinds.{IsWellFormed}
use Rattle.core_syntax.specs.Norm.{norm_word, is_large, has_large, measured}
use Rattle.core_syntax.specs.NormTypes.{norm_ty, ty_has_large, ty_size, ty_depth, measure_ty}
use Rattle.core_syntax.specs.Made.{Scope, indices_more, behind_defs, TyMade, ArrayMade, IsWellMade}
use Rattle.core_syntax.specs.Typing.{is_printable, is_printable_atom}
use Rattle.core_syntax.specs.Blame.{inputs_premises}
use Rattle.core_syntax.specs.Checks.{IsChecked}
use Rattle.core_syntax.specs.Notes.{NodeNote}
use Rattle.core_syntax.proofs.NormLemmas.{CountsDims, WordIsIn, WordIsIn-norm, AreNormal-norm}
use Rattle.core_syntax.proofs.NormTyLemmas.{word_again}
use Rattle.reduction_laws.proofs.programs.Accepted.{accepted_typed}
use Rattle.erasure.specs.Programs.{erased_program}
use Rattle.machine_table.specs.Codes.{boxed}
use Rattle.machine_table.specs.IndexBounds.{Under, under, Binds, IsVar, IsLetter, IsShape}
use Rattle.machine_table.specs.CodeBounds.{IsAround, IsParam, AreParams}
use Rattle.lowering.specs.Params.{ty_param, elem_param, params_of}
use Rattle.lowering.proofs.texts.CodeIndices.{all_of}
use Rattle.lowering.proofs.texts.NoteWords.{neither, no_large}
use Rattle.lowering.proofs.texts.Noted.{onto_count}

-- ---- normal types have the same parameters

mutual
  param_normal : (t : Ty) → ty_param (norm_ty t) ≡ ty_param t
  param_normal (Arr at t i) = elem_normal t _ ∙ ap (elem_param t) (word_again i)
  param_normal (BaseTy at b) = refl
  param_normal (TyVar at k) = refl
  param_normal (Fun at ts r) = refl
  param_normal (Forall at n t) = refl
  param_normal (Pi at ss t) = refl
  param_normal (Sigma at ss t) = refl

  elem_normal : (t : Ty) (w : Word) → elem_param (norm_ty t) w ≡ elem_param t w
  elem_normal (BaseTy at b) w = refl
  elem_normal (Sigma at ss t) w = ap (boxed ss w) (param_normal t)
  elem_normal (Arr at t i) w = refl
  elem_normal (TyVar at k) w = refl
  elem_normal (Fun at ts r) w = refl
  elem_normal (Forall at n t) w = refl
  elem_normal (Pi at ss t) w = refl

params_normal : (ts : List Ty) → each ty_param (each norm_ty ts) ≡ each ty_param ts
params_normal [] = refl
params_normal (t ∷ ts) = λ i. param_normal t i ∷ params_normal ts i

-- ---- shapes under binders

under_is : (ss bs : List Sort) → onto ss bs ≡ under ss bs
under_is [] bs = refl
under_is (s ∷ ss) bs = under_is ss (s ∷ bs) ∙ sym (append_assoc (reverse ss) (s ∷ []) bs) ∙ ap (λ xs. xs ++ bs) (sym (reverse_onto ss s []))

binds : (s : Sort) (bs : List Sort) (k : ℕ) → slice_get bs k ≡ Some s → Binds s bs k
binds s [] k e = absurd (cc)
binds s (b ∷ bs) zero e = cc
binds s (b ∷ bs) (suc k) e = binds s bs k e

counted : (bs : List Sort) (cs : List Coef) → CountsDims bs cs → Each (λ c. IsVar (Under bs) sort.Dim c.var) cs
counted bs [] h = tt
counted bs (c ∷ cs) h = (binds sort.Dim bs c.var h.0, counted bs cs h.1)

small : (n : ℕ) → nat_lt largest_number n ≡ false → n ≤ 2 ^ 40
small n h = grind (arith, nat_tests, h)

word_fine : (bs : List Sort) (w : Word) → AreNormal w → WordIsIn bs w → has_large w ≡ false → Each (IsLetter (Under bs)) w
word_fine bs [] normal is less = tt
word_fine bs (letter.Dim d ∷ ls) normal is less =
    let parts = neither (is_large d) (has_large ls) less in (
      record { normal = normal.0; vars = all_of (λ c. IsVar (Under bs) sort.Dim c.var) d.coefs (counted bs d.coefs is.0); small = small d.constant parts.0 },
      word_fine bs ls normal.1 is.1 parts.1,
    )
word_fine bs (letter.Var k ∷ ls) normal is less = (binds sort.Shape bs k is.0, word_fine bs ls normal.1 is.1 less)

-- ---- types

some_depth : (t : Ty) → 1 ≤ ty_depth t
some_depth (BaseTy at b) = omega arith
some_depth (TyVar at k) = omega arith
some_depth (Fun at ts r) = omega arith
some_depth (Forall at n t) = omega arith
some_depth (Pi at ss t) = omega arith
some_depth (Sigma at ss t) = omega arith
some_depth (Arr at t i) = omega arith

mutual
  param_fine : (depth : ℕ) (bs : List Sort) (G : Scope) (t : Ty) → is_printable t ≡ true → IsWellFormed 0 bs t → TyMade G t → ty_has_large t ≡ false → length bs ≡ G.indices → ty_depth t ≤ 2 * depth + 2
      → IsAround depth bs (ty_param t).boxes (ty_param t).shape
  param_fine depth bs G (Arr at t i) p w m less n d =
      let parts = neither (ty_has_large t) (has_large (norm_word i)) less in
      elem_fine depth bs G t (norm_word i) p w.2 m.0 parts.0 n (let e : 1 + ty_depth t ≤ 2 * depth + 2 = d in omega (arith, e)) (all_of (IsLetter (Under bs)) (norm_word i) (word_fine bs (norm_word i) (AreNormal-norm i) (WordIsIn-norm bs i w.1) parts.1))
  param_fine depth bs G (BaseTy at b) p w m less n d = absurd (cc)
  param_fine depth bs G (TyVar at k) p w m less n d = absurd (cc)
  param_fine depth bs G (Fun at ts r) p w m less n d = absurd (cc)
  param_fine depth bs G (Forall at k t) p w m less n d = absurd (cc)
  param_fine depth bs G (Pi at ss t) p w m less n d = absurd (cc)
  param_fine depth bs G (Sigma at ss t) p w m less n d = absurd (cc)

  elem_fine : (depth : ℕ) (bs : List Sort) (G : Scope) (t : Ty) (shape : Word) → is_printable_atom t ≡ true → IsWellFormed 0 bs t → TyMade G t → ty_has_large t ≡ false → length bs ≡ G.indices → ty_depth t ≤ 2 * depth + 1
      → IsShape (Under bs) shape → IsAround depth bs (elem_param t shape).boxes (elem_param t shape).shape
  elem_fine depth bs G (BaseTy at b) shape p w m less n d fine = fine
  elem_fine zero bs G (Sigma at ss t) shape p w m less n d fine = absurd (let a = some_depth t in let e : 1 + ty_depth t ≤ 1 = d in omega (arith, a, e))
  elem_fine (suc depth) bs G (Sigma at ss t) shape p w m less n d fine =
      let e : 1 + ty_depth t ≤ 2 * suc depth + 1 = d in
      let count : length (onto ss bs) ≡ length ss + G.indices = onto_count ss bs ∙ ap (λ k. length ss + k) n in
      let bound : length ss + G.indices < 2 ^ 31 = m.1.1 in
      let inner = param_fine depth (onto ss bs) (indices_more (length ss) G) t p w m.3 less count (omega (arith, e)) in (
        record { some = m.0; few = subst (λ xs. length xs ≤ 2 ^ 32) (under_is ss bs) (omega (arith, count, bound)) },
        subst (λ xs. IsAround depth xs (ty_param t).boxes (ty_param t).shape) (under_is ss bs) inner,
        fine,
      )
  elem_fine depth bs G (Arr at t i) shape p w m less n d fine = absurd (cc)
  elem_fine depth bs G (TyVar at k) shape p w m less n d fine = absurd (cc)
  elem_fine depth bs G (Fun at ts r) shape p w m less n d fine = absurd (cc)
  elem_fine depth bs G (Forall at k t) shape p w m less n d fine = absurd (cc)
  elem_fine depth bs G (Pi at ss t) shape p w m less n d fine = absurd (cc)

-- a measured type isn't too deep
not_deep : (large : Bool) (size depth : ℕ) → measured large size depth ≡ None → depth ≤ 512
not_deep true size depth e = absurd (cc)
not_deep false size depth e = by (nat_lt largest_size size) (nat_lt largest_depth depth) refl e
  where
    by : (a b : Bool) → nat_lt largest_depth depth ≡ b → if◌then◌else◌ {A = Option ℕ} (a || b) (Some 16) None ≡ None → depth ≤ 512
    by true b d e = absurd (cc)
    by false true d e = absurd (cc)
    by false false d e = grind (arith, nat_tests, d)

inputs_fine : (ts : List Ty) → Each (ArrayMade (behind_defs 0)) ts → Each (λ t. IsWellFormed 0 [] t × (is_printable t ≡ true)) ts → (inputs_premises ts).met → Each IsParam (each ty_param ts)
inputs_fine [] made typed h = tt
inputs_fine (t ∷ ts) made typed h =
    let measure : measure_ty t ≡ None = h.0.0.1 in
    let deep : ty_depth t ≤ 512 = not_deep (ty_has_large t) (ty_size t) (ty_depth t) measure in
    (param_fine 256 [] (behind_defs 0) t typed.0.1 typed.0.0 made.0.1 (no_large t measure) refl (omega (arith, deep)), inputs_fine ts made.1 typed.1 h.1)

each_count : {A B : Type 0} (f : A → B) (xs : List A) → length (each f xs) ≡ length xs
each_count f [] = refl
each_count f (x ∷ xs) = ap suc (each_count f xs)

-- the parameters of a checked program
pub checked_params : (P : Program) (result : Ty) (inputs : List Ty) (notes : List NodeNote) → IsWellMade P → IsChecked P result inputs notes → AreParams (params_of (erased_program P notes))
checked_params P result inputs notes made c =
    let few = made.inputs_few in
    let count : length (each ty_param P.inputs) ≡ length P.inputs = each_count ty_param P.inputs in
    subst AreParams (sym (params_normal P.inputs))
    (record {
      few = omega (arith, few, count);
      params = all_of IsParam (each ty_param P.inputs) (inputs_fine P.inputs made.inputs (accepted_typed P made c.accepted).inputs c.accepted.1.0);
    })
