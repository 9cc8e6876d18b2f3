-- What a run of the evaluation comes to, and the rules on values that the runs of terms stand on.
use Rattle.std.proofs.Common.{◌≡◌, ℕ, suc, false, List, Some}
use Rattle.core_syntax.specs.declared.norm.NormIndex.{NormIndex}
use Rattle.core_syntax.specs.Syntax.{Ty}
use Rattle.core_syntax.specs.Lists.{each, Each}
use Rattle.core_syntax.specs.Word.{Word}
use Rattle.core_syntax.specs.Subst.{put_first}
use Rattle.core_syntax.specs.Arrays.{Arrayed}
use Rattle.core_syntax.specs.Terms.{TDef, TApp, TTypeApp, TIndexApp, TUnbox, term_list, TBoxed}
use Rattle.core_syntax.specs.TermPut.{term_put, terms_under}
use Rattle.core_syntax.specs.NormPut.{put_in_word, put_in_norm}
use Rattle.erasure.specs.Erased.{ErasedTerm, erased_rules}
use Rattle.machine_table.specs.Values.{Env, no_env}
use Rattle.machine_table.specs.Indices.{code_index}
use Rattle.machine_table.specs.Instructions.{type_begun, index_begun, unbox_begun}
use Rattle.lowering.specs.Lower.{Body, body_at, bodies_in}
use Rattle.lowering.specs.Runs.{Comp, ◌then_run◌, tick, ticks, count}
use Rattle.lowering.specs.Evals.{entered, hand_over, over_ticks, box_val, app_val, begun_val}
use Rattle.evaluation.specs.Plugged.{val_term, env_terms, plugged}
use Rattle.evaluation.specs.Scoped.{bound, with_values, WordScoped, IndexScoped, Scoped}
use Rattle.evaluation.specs.Lawful.{FitArray, FitEnv, Stand, Placed}
use Rattle.evaluation.specs.Setting.{Setting}
use Rattle.evaluation.proofs.steps.Reduces.{Reduces, reduces_keeps, reduces_to}
use Rattle.evaluation.proofs.steps.Contexts.{one, one_cell}

module _ {A : Type 0} (W : Setting A) where
  -- an array as a term, and one that fits
  abbrev pub val : Arrayed A → ErasedTerm
  val a = val_term W.cell a

  -- arrays as terms
  abbrev pub vals : List (Arrayed A) → List ErasedTerm
  vals xs = each (val_term W.cell) xs

  -- an array fits
  abbrev pub Fit : Arrayed A → Type 0
  Fit a = FitArray W.bodies W.cell W.fits a

  -- one that fits, and whose term has a type
  abbrev pub FitOf : Ty → Arrayed A → Type 0
  FitOf T a = Fit a × W.good T (val a)

  -- notes under an environment's index values
  abbrev pub word_in : Env A → Word → Word
  word_in env w = put_in_word (put_first env.indices) w

  -- the cell shapes of an application
  abbrev pub words_in : Env A → List Word → List Word
  words_in env ws = each (put_in_word (put_first env.indices)) ws

  -- indices
  abbrev pub norms_in : Env A → List NormIndex → List NormIndex
  norms_in env is = each (put_in_norm (put_first env.indices)) is

  -- notes of a program in the scope of an environment
  abbrev pub WordIn : Env A → Word → Type 0
  WordIn env w = WordScoped (with_values env.indices) w

  -- an index of a program
  abbrev pub IndexIn : Env A → NormIndex → Type 0
  IndexIn env i = IndexScoped (with_values env.indices) i

  module _ (K : ℕ) where
    -- a run of a term that comes to an array that fits
    abbrev pub Runs : ErasedTerm → Comp (Arrayed A) → Type 0
    Runs t m = Reduces (one W.defs) (suc K) t (val_term W.cell) (FitArray W.bodies W.cell W.fits) m

    -- and to one of a type
    abbrev pub Comes : Ty → ErasedTerm → Comp (Arrayed A) → Type 0
    Comes T t m = Reduces (one W.defs) (suc K) t (val_term W.cell) (FitOf T) m

    -- a run of a term that has a type comes to one of the type
    pub comes : (T : Ty) (t : ErasedTerm) (m : Comp (Arrayed A)) → W.good T t → Runs t m → Comes T t m
    comes T t m h r = reduces_keeps (one W.defs) (W.good T) (W.typing.keeps T) h r

    -- and the other way round
    pub runs : (T : Ty) (t : ErasedTerm) (m : Comp (Arrayed A)) → Comes T t m → Runs t m
    runs T t m h = reduces_to (one W.defs) (λ a p. p.0) h

    -- blocks that are entered with fewer steps follow their bodies
    pub record EntersWell (enter : Env A → ℕ → Comp (Arrayed A)) : Type 0 where
      -- the block has a body in the scope of the environment, and its term a type
      pub well : (T : Ty) (env : Env A) (b : ℕ) (body : Body) → entered W.bodies b ≡ Some body → Placed W.bodies body → Scoped false (with_values env.indices) body.term
          → FitEnv W.bodies W.cell W.fits env → W.good T (plugged W.cell env body.term) → Reduces (one W.defs) K (plugged W.cell env body.term) (val_term W.cell) (FitOf T) (enter env b)

    -- the rules on values: a definition, an application, a `t-app`, an `i-app`, an `unbox` and a box
    pub record Rules (enter : Env A → ℕ → Comp (Arrayed A)) : Type 0 where
      -- a definition enters its block
      pub def : (T : Ty) (j : ℕ) → W.good T (TDef j) → Runs (TDef j) (tick (count 1 (enter no_env (suc j) then_run hand_over)))
      -- an application of values
      pub app : (T : Ty) (env : Env A) (cs : List Word) (r : Word) (g : Arrayed A) (xs : List (Arrayed A)) → Fit g → Each Fit xs → Each (WordIn env) cs → WordIn env r
          → W.good T (TApp (val g) (term_list (vals xs)) (words_in env cs) (word_in env r)) → Runs (TApp (val g) (term_list (vals xs)) (words_in env cs) (word_in env r)) (app_val W.rules enter env.indices cs r g xs)
      -- a `t-app` of a value, over its frame
      pub types : (T : Ty) (env : Env A) (r : Word) (a : Arrayed A) → Fit a → WordIn env r → W.good T (TTypeApp (val a) tt (word_in env r))
          → Runs (TTypeApp (val a) tt (word_in env r)) (ticks (over_ticks a) (begun_val W.rules enter (type_begun env.indices a r)))
      -- an `i-app` of a value
      pub indices : (T : Ty) (env : Env A) (is : List NormIndex) (r : Word) (a : Arrayed A) → Fit a → Each (IndexIn env) is → WordIn env r → W.good T (TIndexApp (val a) (norms_in env is) (word_in env r))
          → Runs (TIndexApp (val a) (norms_in env is) (word_in env r)) (ticks (over_ticks a) (begun_val W.rules enter (index_begun env.indices a (each code_index is) r)))
      -- an `unbox` of a value, whose body is a block
      pub unbox : (T : Ty) (env : Env A) (k j n : ℕ) (b : ErasedTerm) (r : Word) (a : Arrayed A) → entered W.bodies k ≡ Some (body_at j b) → Stand W.bodies j (bodies_in j b)
          → Scoped false (bound n (with_values env.indices)) b → FitEnv W.bodies W.cell W.fits env → Fit a → WordIn env r
          → W.good T (TUnbox n (val a) (term_put erased_rules (erased_rules.under_sorts n (put_first env.indices)) (terms_under 1 (env_terms W.cell env)) b) (word_in env r))
          → Runs (TUnbox n (val a) (term_put erased_rules (erased_rules.under_sorts n (put_first env.indices)) (terms_under 1 (env_terms W.cell env)) b) (word_in env r))
          (ticks (over_ticks a) (begun_val W.rules enter (unbox_begun env a k n r)))
      -- a box of a value
      pub box : (env : Env A) (js : List NormIndex) (a : Arrayed A) → Fit a → Each (IndexIn env) js
          → Reduces (one_cell W.defs) (suc K) (TBoxed (norms_in env js) (val a) tt) W.cell W.fits (box_val W.rules env.indices (each code_index js) a)
