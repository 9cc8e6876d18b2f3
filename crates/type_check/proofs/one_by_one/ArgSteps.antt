-- The arguments of an application, one after another.
use Rattle.std.proofs.Common.{◌≡◌, refl, sym, ap, subst, ◌∙◌, ℕ, zero, suc, ◌+◌, ◌<◌, ◌≤◌, arith, List, [], ◌∷◌, ◌++◌, length, Ok, Err, Result, inl, inr, get_or, take, take_all, true}
use Rattle.std.specs.Prelude.{IsErrAnd}
use Rattle.core_syntax.specs.declared.expr.Expr.{Expr as ExprTree}
use Rattle.core_syntax.specs.declared.index.Sort.{Sort}
use Rattle.core_syntax.specs.declared.span.Span.{Span}
use Rattle.core_syntax.specs.declared.ty.Ty.{Ty as Tree}
use Rattle.core_syntax.specs.Kinds.{IsWellFormed, AreWellFormed}
use Rattle.core_syntax.specs.Lists.{onto, each, Each}
use Rattle.core_syntax.specs.Made.{Scope, IsArray, AreArrays, ExprMade, ExprsMade}
use Rattle.core_syntax.specs.Notes.{NodeNote, note_of}
use Rattle.core_syntax.specs.NormTypes.{norm_ty, norm_tys}
use Rattle.core_syntax.specs.Refine.{ty_of, tys_of, expr_of, exprs_of}
use Rattle.core_syntax.specs.Syntax.{Index, Ty, TyVar, Fun, Arr, Tys, no_tys, more_tys, ty_items, no_span, Expr, App, Exprs, no_exprs, more_exprs, expr_items}
use Rattle.core_syntax.specs.Typing.{Context}
use Rattle.core_syntax.specs.Word.{Word}
use Rattle.core_syntax.specs.Blame.{expr_premises, args_premises}
use Rattle.type_check.specs.declared.refusal.TypeRefusal.{TypeRefusal}
use Rattle.type_check.specs.declared.refusal.TypeRefusal.TheVariants.{Refused, Memory}
use Rattle.type_check.specs.Answers.{Finding, NodeAnswers, ArgsAnswer, IsInput}
use Rattle.type_check.specs.Contexts.{Like, IsSound}
use Rattle.type_check.specs.Forms.{IsFunctionOf}
use Rattle.type_check.specs.Found.{Refuses, Found}
use Rattle.type_check.specs.FoundParts.{FoundArgs}
use Rattle.type_check.specs.State.{State, context_of}
use Rattle.type_check.proofs.one_by_one.PartsTested.{args_step, args_refused}
use Rattle.type_check.proofs.one_by_one.Steps.{then_finds, then_refuses, like_after, at_first}

module _ (ts : List Tree) (xs : List ExprTree) (k : ℕ) (t : Tree) (x : ExprTree) (lt : k < length xs) (is : x ≡ get_or xs k x) (lt' : k < length ts) (is' : t ≡ get_or ts k t)
    (ws : List Word) (old mid : State) (f : Finding (λ Γ. FoundArgs Γ (tys_of (take k ts)) (exprs_of (take k xs)) ws) old mid) where
  pub args_go_on : (w : Word) (vs : List Word) (now : State) → vs ≡ ws ++ w ∷ [] → Finding (λ Γ. FoundArgs Γ (more_tys (ty_of t) no_tys) (more_exprs (expr_of x) no_exprs) (w ∷ [])) mid now
      → Finding (λ Γ. FoundArgs Γ (tys_of (take (k + 1) ts)) (exprs_of (take (k + 1) xs)) vs) old now
  args_go_on w vs now e a =
      subst (λ (us : List Word). Finding (λ Γ. FoundArgs Γ (tys_of (take (k + 1) ts)) (exprs_of (take (k + 1) xs)) us) old now) (sym e)
      (then_finds (λ Γ. FoundArgs Γ (tys_of (take k ts)) (exprs_of (take k xs)) ws) old mid f (λ Γ. FoundArgs Γ (more_tys (ty_of t) no_tys) (more_exprs (expr_of x) no_exprs) (w ∷ []))
      (λ Γ. FoundArgs Γ (tys_of (take (k + 1) ts)) (exprs_of (take (k + 1) xs)) (ws ++ w ∷ [])) now a
      (λ Γ ns ms p q. args_step Γ ts xs k t x lt is lt' is' ws ns p w ms q))

  pub args_stop : (r : TypeRefusal) → ((Γ : Context) → Like Γ (context_of mid) → (us : Tys) (ys : Exprs) → Refuses (args_premises Γ (more_exprs (expr_of x) ys) (more_tys (ty_of t) us)) r)
      → (Γ : Context) → Like Γ (context_of old) → Refuses (args_premises Γ (exprs_of xs) (tys_of ts)) r
  args_stop r a Γ l =
      args_refused Γ ts xs k t x lt is lt' is' ws (each note_of f.0) (f.2 Γ l) r (a Γ (like_after (λ Γ. FoundArgs Γ (tys_of (take k ts)) (exprs_of (take k xs)) ws) old mid f Γ l))

pub args_at_first : (s : State) → Finding (λ Γ. FoundArgs Γ no_tys no_exprs []) s s
args_at_first s = at_first (λ Γ. FoundArgs Γ no_tys no_exprs []) s (λ Γ. record { met = tt; frames = []; have = tt; sorted = tt; normal = refl; notes = refl })

pub args_at_end : (old now : State) (ts : List Tree) (xs : List ExprTree) (ws : List Word) (k : ℕ) → length ts ≡ length xs → length xs ≤ k
    → Finding (λ Γ. FoundArgs Γ (tys_of (take k ts)) (exprs_of (take k xs)) ws) old now → Finding (λ Γ. FoundArgs Γ (tys_of ts) (exprs_of xs) ws) old now
args_at_end old now ts xs ws k e le f =
    subst (λ us. Finding (λ Γ. FoundArgs Γ (tys_of us) (exprs_of xs) ws) old now) (take_all k ts (omega (arith, e, le)))
    (subst (λ ys. Finding (λ Γ. FoundArgs Γ (tys_of (take k ts)) (exprs_of ys) ws) old now) (take_all k xs le) f)

pub args_carried : {V : Type 0} (view : V → List Word) (ts : Tys) (es : Exprs) (old now : State) (o : Result V TypeRefusal) (e : TypeRefusal) → IsErrAnd o (λ x. x ≡ e)
    → ((Γ : Context) → Like Γ (context_of old) → Refuses (args_premises Γ es ts) e) → ArgsAnswer view ts es old now o
args_carried view ts es old now (Ok v) e h k = absurd h
args_carried view ts es old now (Err x) e h k = λ Γ l. subst (Refuses (args_premises Γ es ts)) (sym h) (k Γ l)

pub made_at : (Γ : Scope) (xs : List ExprTree) (k : ℕ) (x : ExprTree) → k < length xs → x ≡ get_or xs k x → ExprsMade Γ (exprs_of xs) → ExprMade Γ (expr_of x)
made_at Γ xs k x lt is m = subst (λ y. ExprMade Γ (expr_of y)) (sym is) (at xs k lt m)
  where
    at : (xs : List ExprTree) (k : ℕ) → k < length xs → ExprsMade Γ (exprs_of xs) → ExprMade Γ (expr_of (get_or xs k x))
    at [] k lt m = absurd (omega arith)
    at (y ∷ ys) zero lt m = m.0
    at (y ∷ ys) (suc k) lt m = at ys k (omega arith) m.1

pub input_at : (P : Ty → Type 0) (ts : List Tree) (k : ℕ) (t : Tree) → k < length ts → t ≡ get_or ts k t → Each P (each ty_of ts) → P (ty_of t)
input_at P ts k t lt is h = subst (λ u. P (ty_of u)) (sym is) (at ts k lt h)
  where
    at : (ts : List Tree) (k : ℕ) → k < length ts → Each P (each ty_of ts) → P (ty_of (get_or ts k t))
    at [] k lt h = absurd (omega arith)
    at (u ∷ us) zero lt h = h.0
    at (u ∷ us) (suc k) lt h = at us k (omega arith) h.1

pub input_after : (P : Context → List NodeNote → Type 0) (old now : State) (t : Ty) → Finding P old now → IsInput old.types (onto old.sorts []) t → IsInput now.types (onto now.sorts []) t
input_after P old now t f h = subst (λ (s : State). IsInput s.types (onto s.sorts []) t) (sym f.1) h

pub tys_count : (ts : List Tree) → length (ty_items (tys_of ts)) ≡ length ts
tys_count [] = refl
tys_count (t ∷ ts) = ap suc (tys_count ts)

-- ---- the inputs and the output of a function's type

abbrev inputs_in : Ty → Tys
inputs_in (Arr at (Fun at' ts r) s) = ts
inputs_in _ = no_tys

abbrev output_in : Ty → Ty
output_in (Arr at (Fun at' ts r) s) = r
output_in t = t

abbrev head_in : Tys → Ty
head_in (more_tys t ts) = t
head_in no_tys = TyVar no_span 0

abbrev tail_in : Tys → Tys
tail_in (more_tys t ts) = ts
tail_in no_tys = no_tys

all_inputs : (types : ℕ) (sorts : List Sort) (ts : List Tree) → AreWellFormed types sorts (tys_of ts) → AreArrays (tys_of ts) → norm_tys (tys_of ts) ≡ tys_of ts → Each (IsInput types sorts) (each ty_of ts)
all_inputs types sorts [] w a e = tt
all_inputs types sorts (t ∷ ts) w a e = (record { array = a.0.0; normal = ap head_in e; formed = w.0 }, all_inputs types sorts ts w.1 a.1 (ap tail_in e))

pub function_inputs : (types : ℕ) (sorts : List Sort) (t : Ty) (ts : List Tree) (r : Ty) (s : Index) → IsSound types sorts t → norm_ty t ≡ t → IsFunctionOf t (tys_of ts) r s → Each (IsInput types sorts) (each ty_of ts)
function_inputs types sorts t ts r s h n f =
    let g = subst (IsSound types sorts) f.2 h in
    let m = subst (λ u. norm_ty u ≡ u) f.2 n in
    all_inputs types sorts ts g.formed.2.0 g.inside.0 (ap inputs_in m)

pub function_output : (types : ℕ) (sorts : List Sort) (t : Ty) (ts : Tys) (r : Ty) (s : Index) → IsSound types sorts t → norm_ty t ≡ t → IsFunctionOf t ts r s → IsInput types sorts r
function_output types sorts t ts r s h n f =
    let g = subst (IsSound types sorts) f.2 h in
    let m = subst (λ u. norm_ty u ≡ u) f.2 n in
    record { array = g.inside.1; normal = ap output_in m; formed = g.formed.2.1 }

-- ---- a blame of the arguments is one of the application

args_blamed : (Γ : Context) (at : Span) (f : Expr) (es : Exprs) (t : Ty) (ts : Tys) (o : Ty) (s : Index) (ns : List NodeNote) (r : TypeRefusal) → Found Γ f t ns → IsFunctionOf t ts o s → length (ty_items ts) ≡ length (expr_items es)
    → Refuses (args_premises Γ es ts) r → Refuses (expr_premises Γ (App at f es)) r
args_blamed Γ at f es t ts o s ns Memory g is count h = tt
args_blamed Γ at f es t ts o s ns (Refused n p) g is count h =
    let k = subst (λ u. Found Γ f u ns) is.2 g in
    inl (inr (k.met, (Arr is.0 (Fun is.1 ts o) s, k.has, inr (tt, inr (count, inl h)))))

pub args_later_refused : (before old now : State) (at : Span) (f : Expr) (es : Exprs) (t : Ty) (ts : Tys) (o : Ty) (s : Index) (r : TypeRefusal) → Finding (λ Γ. Found Γ f t) before old → IsFunctionOf t ts o s
    → length (ty_items ts) ≡ length (expr_items es) → ((Γ : Context) → Like Γ (context_of old) → Refuses (args_premises Γ es ts) r) → NodeAnswers before now (App at f es) (Err r)
args_later_refused before old now at f es t ts o s r g is count h =
    then_refuses (λ Γ. Found Γ f t) before old g (λ Γ. args_premises Γ es ts) (λ Γ. expr_premises Γ (App at f es)) r h (λ Γ ns found q. args_blamed Γ at f es t ts o s ns r found is count q)
