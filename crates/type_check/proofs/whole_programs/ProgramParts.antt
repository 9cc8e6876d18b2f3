-- A program's definitions, inputs and body: what is found of each, and what is found of the whole.
use Rattle.std.proofs.Common.{◌≡◌, refl, sym, ◌∙◌, ap, subst, ℕ, ◌+◌, ◌<◌, arith, true, List, [], ◌∷◌, ◌++◌, length, take, drop, get_or, Ok, Err, Result}
use Rattle.std.specs.Prelude.{IsErrAnd, OnOk, IfOk, IfErr}
use Rattle.std.proofs.lemmas.List.{drop_more, take_more, take-append-drop}
use Rattle.core_syntax.specs.declared.def.Def.{Def as DefTree}
use Rattle.core_syntax.specs.declared.span.Span.{Span}
use Rattle.core_syntax.specs.declared.ty.Ty.{Ty as Tree}
use Rattle.core_syntax.specs.Syntax.{Ty, ty_at, Expr, expr_at, Def, Program}
use Rattle.core_syntax.specs.Checks.{IsChecked}
use Rattle.core_syntax.specs.Kinds.{IsWellFormed}
use Rattle.core_syntax.specs.Lists.{each, Each, EachTwo}
use Rattle.core_syntax.specs.Made.{Scope, ArrayMade, ExprMade, DefsMade, behind_defs, IsWellMade}
use Rattle.core_syntax.specs.NormTypes.{norm_ty}
use Rattle.core_syntax.specs.Programs.{def_of}
use Rattle.core_syntax.specs.Refine.{ty_of, expr_of}
use Rattle.core_syntax.specs.TypeEqual.{Same}
use Rattle.core_syntax.specs.Typing.{Context, Has, is_syntactic_value, is_printable, defs_only, body_context}
use Rattle.core_syntax.specs.Blame.{def_premises, defs_premises, inputs_premises, expr_premises, program_premises, written, premise, with_any, ◌then◌}
use Rattle.core_syntax.specs.Notes.{NotesAre, note_of, DefsNotesAre}
use Rattle.core_syntax.proofs.NormTyLemmas.{norm_same, same_normal}
use Rattle.type_check.specs.declared.refusal.TypeRefusal.{TypeRefusal}
use Rattle.type_check.specs.declared.refusal.TypeRefusal.TheVariants.{Refused, Memory}
use Rattle.type_check.specs.declared.checking.Findings.{Findings}
use Rattle.type_check.specs.declared.state.Bound.{Bound}
use Rattle.type_check.specs.Answers.{Finding}
use Rattle.type_check.specs.Contexts.{Like, IsSound, scope_of}
use Rattle.type_check.specs.Found.{Refuses, Found}
use Rattle.type_check.specs.ProgramAnswers.{Tests, ClosedAnswers, value_premises, ValueAnswers, DefAnswers, InputTypeAnswers, InputAnswers, body_premises, BodyAnswers, IsTyped, ProgramAnswers}
use Rattle.type_check.specs.ProgramState.{IsDefined, IsEntered, IsBehind, input_premises}
use Rattle.type_check.specs.State.{State, bound_at, context_of, IsSteady}
use Rattle.type_check.specs.Written.{IsWrittenArray}
use Rattle.type_check.proofs.trees.MadeWritten.{made_written}
use Rattle.type_check.proofs.whole_programs.ProgramStates.{types_of, like_behind, steady_behind, scope_behind}
use Rattle.type_check.proofs.whole_programs.ProgramSteps.{two_more, defs_met_more, defs_refused, defs_notes_more, def_made, inputs_met_more, inputs_refused}
use Rattle.type_check.proofs.exits.Refusing.{in_first, in_later, in_any, fails}
use Rattle.type_check.proofs.trees.TreesMade.{each_append}

-- a well-formed array type is sound
closed_sound : (t : Ty) → IsWrittenArray 0 0 t → IsWellFormed 0 [] t → IsSound 0 [] t
closed_sound t made h = record { formed = h; top = made.0; inside = made.1.inside }

-- a list is what stands before one of its items, the item, and what stands behind
parted : {A : Type 0} (xs : List A) (k : ℕ) (x : A) → k < length xs → x ≡ get_or xs k x → xs ≡ take k xs ++ x ∷ drop (k + 1) xs
parted xs k x lt is =
    sym (take-append-drop k xs) ∙ ap (λ ys. take k xs ++ ys) (drop_more xs k x lt ∙ ap (λ y. y ∷ drop (k + 1) xs) (sym is))

parted_each : {A B : Type 0} (f : A → B) (xs : List A) (k : ℕ) (x : A) → k < length xs → x ≡ get_or xs k x → each f xs ≡ each f (take k xs) ++ f x ∷ each f (drop (k + 1) xs)
parted_each f xs k x lt is = ap (each f) (parted xs k x lt is) ∙ each_append f (take k xs) (x ∷ drop (k + 1) xs)

one_more : {A B : Type 0} (f : A → B) (xs : List A) (k : ℕ) (x : A) → k < length xs → x ≡ get_or xs k x → each f (take (k + 1) xs) ≡ each f (take k xs) ++ f x ∷ []
one_more f xs k x lt is =
    ap (each f) (take_more xs k x lt ∙ ap (λ y. take k xs ++ y ∷ []) (sym is)) ∙ each_append f (take k xs) (x ∷ [])

-- ---- one definition

module _ (d : Def) (made : IsWrittenArray 0 0 d.ty) (old mid : State) where
  -- it is added where its value has its type
  def_found : (n : Tree) (now : State) → ClosedAnswers d.ty (Ok n) → Finding (λ Γ notes. (value_premises Γ d).met × NotesAre Γ d.value notes) old mid
      → now ≡ record mid { defs = mid.defs ++ n ∷ [] } → (defs : List Def) → IsBehind defs [] old → IsBehind (defs ++ d ∷ []) [] now
  def_found n now told f e defs h =
      subst (IsBehind (defs ++ d ∷ []) []) (sym (e ∙ ap (λ (s : State). record s { defs = s.defs ++ n ∷ [] }) f.1)) (record {
        types_none = h.types_none;
        sorts_none = h.sorts_none;
        defs_met = defs_met_more [] defs d h.defs_met ((told (types_of defs)).0, value.0);
        defs_are = two_more IsDefined defs old.defs d n h.defs_are (record { sound = closed_sound d.ty made (told (types_of defs)).1.0; ty_is = (told (types_of defs)).1.1 });
        inputs_met = h.inputs_met;
        inputs_are = h.inputs_are;
        notes_are = subst (DefsNotesAre [] (defs ++ d ∷ [])) (sym (each_append note_of old.notes f.0)) (defs_notes_more [] defs d (each note_of old.notes) (each note_of f.0) h.notes_are value.1);
      })
    where
      value : (value_premises (defs_only (types_of defs)) d).met × NotesAre (defs_only (types_of defs)) d.value (each note_of f.0)
      value = f.2 (defs_only (types_of defs)) (like_behind defs [] old h)

  -- its value is the one to blame
  pub def_value_refused : (n : Tree) (r : TypeRefusal) → ClosedAnswers d.ty (Ok n) → ((Γ : Context) → Like Γ (context_of old) → Refuses (value_premises Γ d) r)
      → (defs : List Def) → IsBehind defs [] old → Refuses (def_premises (types_of defs) d) r
  def_value_refused n r told f defs h =
      in_later (written (defs_only (types_of defs)) d.ty) (value_premises (defs_only (types_of defs)) d) r (told (types_of defs)).0
      (f (defs_only (types_of defs)) (like_behind defs [] old h))

-- its written type is
pub def_type_refused : (d : Def) (old : State) (r : TypeRefusal) → ClosedAnswers d.ty (Err r) → (defs : List Def) → IsBehind defs [] old → Refuses (def_premises (types_of defs) d) r
def_type_refused d old r told defs h = in_first (written (defs_only (types_of defs)) d.ty) (value_premises (defs_only (types_of defs)) d) r (told (types_of defs))

-- ---- one input

input_found : (t : Ty) → IsWrittenArray 0 0 t → (old now : State) (n : Tree) → InputTypeAnswers t (Ok n) → now ≡ record old { terms = old.terms ++ bound_at old n ∷ [] }
    → (defs : List Def) (inputs : List Ty) → IsBehind defs inputs old → IsBehind defs (inputs ++ t ∷ []) now
input_found t made old now n told e defs inputs h = subst (IsBehind defs (inputs ++ t ∷ [])) (sym e) (record {
  types_none = h.types_none;
  sorts_none = h.sorts_none;
  defs_met = h.defs_met;
  defs_are = h.defs_are;
  inputs_met = inputs_met_more inputs t h.inputs_met told.0;
  inputs_are = two_more IsEntered inputs old.terms t (bound_at old n) h.inputs_are
      (record { sound = closed_sound t made told.1.0; ty_is = told.1.1; types_none = h.types_none; indices_none = ap length h.sorts_none });
  notes_are = h.notes_are;
})

-- its type isn't printable
pub unprintable_input : (t : Ty) (n : Tree) → ClosedAnswers t (Ok n) → (at : Span) → at ≡ ty_at t → (r : TypeRefusal) → (¬ (is_printable t ≡ true)) × (r ≡ Refused 29 at) → InputTypeAnswers t (Err r)
unprintable_input t n told at is r not =
    in_later (written (defs_only []) t) (premise 29 (ty_at t) (is_printable t ≡ true)) r (told []).0
    (subst (Refuses (premise 29 (ty_at t) (is_printable t ≡ true))) (sym not.1) (fails 29 (ty_at t) at (is_printable t ≡ true) not.0 is))

pub input_type_refused : (t : Ty) (r : TypeRefusal) → ClosedAnswers t (Err r) → InputTypeAnswers t (Err r)
input_type_refused t r told = in_first (written (defs_only []) t) (premise 29 (ty_at t) (is_printable t ≡ true)) r (told [])

-- ---- the value of a definition

pub valued : {V : Type 0} (d : Def) (old now : State) (found : Ty) → is_syntactic_value d.value ≡ true → Finding (λ Γ. Found Γ d.value found) old now → (at : Span) → at ≡ ty_at d.ty
    → (r : Result V TypeRefusal) → Tests 27 at (Same found d.ty) r → ValueAnswers d old now r
valued d old now found value f at is (Ok v) t =
    (f.0, f.1, λ Γ l. let h = f.2 Γ l in ((value, (h.met, (found, h.has, t))), h.notes))
valued d old now found value f at is (Err r) t = λ Γ l.
    let h = f.2 Γ l in
    in_later (premise 28 (expr_at d.value) (is_syntactic_value d.value ≡ true)) (expr_premises Γ d.value then with_any (Has Γ d.value) (λ t. premise 27 (ty_at d.ty) (Same t d.ty))) r value
    (in_later (expr_premises Γ d.value) (with_any (Has Γ d.value) (λ t. premise 27 (ty_at d.ty) (Same t d.ty))) r h.met
    (in_any (Has Γ d.value) (λ t. premise 27 (ty_at d.ty) (Same t d.ty)) found r h.has
    (subst (Refuses (premise 27 (ty_at d.ty) (Same found d.ty))) (sym t.1) (fails 27 (ty_at d.ty) at (Same found d.ty) t.0 is))))

pub value_refused : (d : Def) (old now : State) (r : TypeRefusal) → is_syntactic_value d.value ≡ true → ((Γ : Context) → Like Γ (context_of old) → Refuses (expr_premises Γ d.value) r)
    → (Γ : Context) → Like Γ (context_of old) → Refuses (value_premises Γ d) r
value_refused d old now r value f Γ l =
    in_later (premise 28 (expr_at d.value) (is_syntactic_value d.value ≡ true)) (expr_premises Γ d.value then with_any (Has Γ d.value) (λ t. premise 27 (ty_at d.ty) (Same t d.ty))) r value
    (in_first (expr_premises Γ d.value) (with_any (Has Γ d.value) (λ t. premise 27 (ty_at d.ty) (Same t d.ty))) r (f Γ l))

pub no_value : (d : Def) (at : Span) → at ≡ expr_at d.value → (¬ (is_syntactic_value d.value ≡ true)) → (Γ : Context) → Refuses (value_premises Γ d) (Refused 28 at)
no_value d at is not Γ =
    in_first (premise 28 (expr_at d.value) (is_syntactic_value d.value ≡ true)) (expr_premises Γ d.value then with_any (Has Γ d.value) (λ t. premise 27 (ty_at d.ty) (Same t d.ty))) (Refused 28 at)
    (fails 28 (expr_at d.value) at (is_syntactic_value d.value ≡ true) not is)

-- a found normal type is the written one exactly where the normal types are one
pub has_written : (found n t : Ty) → found ≡ n → n ≡ norm_ty t → Same found t
has_written found n t e is = subst (λ u. Same u t) (sym (e ∙ is)) (norm_same t)

pub has_another : (found n t : Ty) → norm_ty found ≡ found → (¬ (found ≡ n)) → n ≡ norm_ty t → ¬ (Same found t)
has_another found n t normal not is s = not (sym normal ∙ same_normal found t s ∙ sym is)

-- ---- loops

-- the answer of a `?` carries the refusal on
pub carried : {V : Type 0} (A : Result V TypeRefusal → Type 0) (o : Result V TypeRefusal) (e : TypeRefusal) → IsErrAnd o (λ x. x ≡ e) → A (Err e) → A o
carried A (Ok v) e h k = absurd h
carried A (Err x) e h k = subst (λ y. A (Err y)) (sym h) k

module _ (xs : List DefTree) (k : ℕ) (x : DefTree) (lt : k < length xs) (is : x ≡ get_or xs k x) (s : State) (h : IsBehind (each def_of (take k xs)) [] s) where
  abbrev done : List Def
  done = each def_of (take k xs)

  pub defs_steady : IsSteady s
  defs_steady = steady_behind done [] s h (omega arith)

  at_place : DefsMade 0 (each def_of xs) → ArrayMade (behind_defs (length done + 0)) (ty_of x.ty) × ExprMade (behind_defs (length done + 0)) (expr_of x.value)
  at_place made = def_made 0 done (def_of x) (each def_of (drop (k + 1) xs)) (subst (DefsMade 0) (parted_each def_of xs k x lt is) made)

  pub value_made : DefsMade 0 (each def_of xs) → ExprMade (scope_of (context_of s)) (expr_of x.value)
  value_made made =
      subst (λ Γ. ExprMade Γ (expr_of x.value)) (sym (scope_behind done [] s h))
      (let e : length done + 0 ≡ length done = omega arith in subst (λ n. ExprMade (behind_defs n) (expr_of x.value)) e (at_place made).1)

  pub type_made : DefsMade 0 (each def_of xs) → IsWrittenArray 0 0 (ty_of x.ty)
  type_made made = ((at_place made).0.0, made_written (behind_defs (length done + 0)) (ty_of x.ty) (at_place made).0.1)

  pub defs_go_on : (now : State) → ((defs : List Def) → IsBehind defs [] s → IsBehind (defs ++ def_of x ∷ []) [] now) → IsBehind (each def_of (take (k + 1) xs)) [] now
  defs_go_on now f = subst (λ ds. IsBehind ds [] now) (sym (one_more def_of xs k x lt is)) (f done h)

  pub defs_stop : (r : TypeRefusal) → ((defs : List Def) → IsBehind defs [] s → Refuses (def_premises (types_of defs) (def_of x)) r) → Refuses (defs_premises [] (each def_of xs)) r
  defs_stop r f = subst (λ ds. Refuses (defs_premises [] ds) r) (sym (parted_each def_of xs k x lt is)) (defs_refused [] done (def_of x) (each def_of (drop (k + 1) xs)) r h.defs_met (f done h))

pub all_arrays : (Γ : Scope) (ts : List Ty) → Each (ArrayMade Γ) ts → Each (IsWrittenArray Γ.types Γ.indices) ts
all_arrays Γ [] h = tt
all_arrays Γ (t ∷ ts) h = ((h.0.0, made_written Γ t h.0.1), all_arrays Γ ts h.1)

module _ (xs : List Tree) (k : ℕ) (x : Tree) (lt : k < length xs) (is : x ≡ get_or xs k x) where
  pub inputs_go_on : (old s now : State) → ((defs : List Def) → IsBehind defs [] old → IsBehind defs (each ty_of (take k xs)) s) → ((defs : List Def) (inputs : List Ty) → IsBehind defs inputs s → IsBehind defs (inputs ++ ty_of x ∷ []) now)
      → (defs : List Def) → IsBehind defs [] old → IsBehind defs (each ty_of (take (k + 1) xs)) now
  inputs_go_on old s now h f defs b = subst (λ ts. IsBehind defs ts now) (sym (one_more ty_of xs k x lt is)) (f defs (each ty_of (take k xs)) (h defs b))

  pub inputs_met_on : (inputs_premises (each ty_of (take k xs))).met → (input_premises (ty_of x)).met → (inputs_premises (each ty_of (take (k + 1) xs))).met
  inputs_met_on h m = subst (λ ts. (inputs_premises ts).met) (sym (one_more ty_of xs k x lt is)) (inputs_met_more (each ty_of (take k xs)) (ty_of x) h m)

pub inputs_stop : (xs : List Tree) (k : ℕ) (x : Tree) (lt : k < length xs) (is : x ≡ get_or xs k x) → (inputs_premises (each ty_of (take k xs))).met → (r : TypeRefusal) → Refuses (input_premises (ty_of x)) r
    → Refuses (inputs_premises (each ty_of xs)) r
inputs_stop xs k x lt is met r f =
    subst (λ ts. Refuses (inputs_premises ts) r) (sym (parted_each ty_of xs k x lt is)) (inputs_refused (each ty_of (take k xs)) (ty_of x) (each ty_of (drop (k + 1) xs)) r met f)

-- ---- the body

pub unprintable_body : (e : Expr) (old now : State) (found : Ty) → Finding (λ Γ. Found Γ e found) old now → (at : Span) → at ≡ expr_at e → (r : TypeRefusal)
    → (¬ (is_printable found ≡ true)) × (r ≡ Refused 30 at) → (Γ : Context) → Like Γ (context_of old) → Refuses (body_premises Γ e) r
unprintable_body e old now found f at is r t Γ l =
    let h = f.2 Γ l in
    in_later (expr_premises Γ e) (with_any (Has Γ e) (λ t. premise 30 (expr_at e) (is_printable t ≡ true))) r h.met
    (in_any (Has Γ e) (λ t. premise 30 (expr_at e) (is_printable t ≡ true)) found r h.has
    (subst (Refuses (premise 30 (expr_at e) (is_printable found ≡ true))) (sym t.1) (fails 30 (expr_at e) at (is_printable found ≡ true) t.0 is)))

-- ---- the whole

module _ (P : Program) where
  program_found : (mid now : State) (t : Tree) → IsBehind P.defs P.inputs mid → BodyAnswers P.body mid now (Ok t) → IsTyped P (ty_of t) now
  program_found mid now t h f = record {
    met = (h.defs_met, (h.inputs_met, body.0));
    has = body.1;
    inputs_are = subst (λ (s : State). EachTwo IsEntered P.inputs s.terms) (sym f.1) h.inputs_are;
    notes_are = (each note_of mid.notes, each note_of f.0, ap (λ (s : State). each note_of s.notes) f.1 ∙ each_append note_of mid.notes f.0, h.notes_are, body.2);
  }
    where
      body : (body_premises (body_context P) P.body).met × Has (body_context P) P.body (ty_of t) × NotesAre (body_context P) P.body (each note_of f.0)
      body = f.2 (body_context P) (like_behind P.defs P.inputs mid h)

  program_body_refused : (mid : State) (r : TypeRefusal) → IsBehind P.defs P.inputs mid → ((Γ : Context) → Like Γ (context_of mid) → Refuses (body_premises Γ P.body) r) → Refuses (program_premises P) r
  program_body_refused mid r h f =
      in_later (defs_premises [] P.defs) (inputs_premises P.inputs then body_premises (body_context P) P.body) r h.defs_met
      (in_later (inputs_premises P.inputs) (body_premises (body_context P) P.body) r h.inputs_met (f (body_context P) (like_behind P.defs P.inputs mid h)))

  -- what is kept of a program that is typed
  program_checked : (t : Ty) (s : State) → norm_ty t ≡ t → IsTyped P t s → IsChecked P t (each ty_of (each (λ (b : Bound). b.ty) s.terms)) (each note_of s.notes)
  program_checked t s normal h = record {
    accepted = h.met;
    result_normal = normal;
    result_has = h.has;
    inputs_are = entered P.inputs s.terms h.inputs_are;
    notes_are = h.notes_are;
  }
    where
      entered : (ts : List Ty) (bs : List Bound) → EachTwo IsEntered ts bs → each ty_of (each (λ (b : Bound). b.ty) bs) ≡ each norm_ty ts
      entered [] [] e = refl
      entered [] (b ∷ bs) e = absurd e
      entered (u ∷ ts) [] e = absurd e
      entered (u ∷ ts) (b ∷ bs) e = λ i. e.0.ty_is i ∷ entered ts bs e.1 i

-- ---- what is answered when the normal type is added

pub def_defined : {V : Type 0} (d : Def) → IsWrittenArray 0 0 d.ty → (old mid now : State) (n : Tree) → ClosedAnswers d.ty (Ok n) → Finding (λ Γ notes. (value_premises Γ d).met × NotesAre Γ d.value notes) old mid
    → (r : Result V TypeRefusal) → OnOk r (now ≡ record mid { defs = mid.defs ++ n ∷ [] }) → IfErr r (λ e. e ≡ Memory) → DefAnswers d old now r
def_defined d made old mid now n told f (Ok v) e m = def_found d made old mid n now told f e
def_defined d made old mid now n told f (Err r) e m = λ defs h. subst (Refuses (def_premises (types_of defs) d)) (sym m) tt

pub input_entered : {V : Type 0} (t : Ty) → IsWrittenArray 0 0 t → (old now : State) (n : Tree) → InputTypeAnswers t (Ok n)
    → (r : Result V TypeRefusal) → OnOk r (now ≡ record old { terms = old.terms ++ bound_at old n ∷ [] }) → IfErr r (λ e. e ≡ Memory) → InputAnswers t old now r
input_entered t made old now n told (Ok v) e m = (ap (λ (s : State). s.sorts) e, told.0, input_found t made old now n told e)
input_entered t made old now n told (Err r) e m = subst (Refuses (input_premises t)) (sym m) tt

-- ---- the whole, by its parts

pub behind_all : (ds es : List DefTree) (ts us : List Tree) (mid now : State) → es ≡ ds → us ≡ ts → IsBehind (each def_of es) [] mid → ((defs : List Def) → IsBehind defs [] mid → IsBehind defs (each ty_of us) now)
    → IsBehind (each def_of ds) (each ty_of ts) now
behind_all ds es ts us mid now p q h f = subst (λ ds. IsBehind (each def_of ds) (each ty_of ts) now) p (subst (λ ts. IsBehind (each def_of es) (each ty_of ts) now) q (f (each def_of es) h))

pub program_answered : (P : Program) (mid now : State) → IsBehind P.defs P.inputs mid → (r : Result Tree TypeRefusal) → BodyAnswers P.body mid now r → ProgramAnswers P now r
program_answered P mid now h (Ok t) f = program_found P mid now t h f
program_answered P mid now h (Err r) f = program_body_refused P mid r h f

module _ (P : Program) (s : State) (h : IsBehind P.defs P.inputs s) (made : IsWellMade P) where
  pub body_steady : IsSteady s
  body_steady = let few = made.inputs_few in steady_behind P.defs P.inputs s h (omega (arith, few))

  pub body_made : ExprMade (scope_of (context_of s)) P.body
  body_made = subst (λ Γ. ExprMade Γ P.body) (sym (scope_behind P.defs P.inputs s h)) made.body

-- what is found of a program, from the state behind its body
pub findings_checked : (P : Program) (t : Tree) (s : State) → IsTyped P (ty_of t) s → (r : Result Findings TypeRefusal) → IfOk r (λ f. f.body ≡ t) → IfOk r (λ f. norm_ty (ty_of f.body) ≡ ty_of f.body)
    → IfOk r (λ f. f.inputs ≡ each (λ (b : Bound). b.ty) s.terms) → IfOk r (λ f. f.notes ≡ s.notes) → IfOk r (λ f. IsChecked P (ty_of f.body) (each ty_of f.inputs) (each note_of f.notes))
findings_checked P t s h (Ok f) body normal inputs notes =
    subst (λ ts. IsChecked P (ty_of f.body) (each ty_of ts) (each note_of f.notes)) (sym inputs)
    (subst (λ ns. IsChecked P (ty_of f.body) (each ty_of (each (λ (b : Bound). b.ty) s.terms)) (each note_of ns)) (sym notes)
    (program_checked P (ty_of f.body) s normal (subst (λ u. IsTyped P (ty_of u) s) (sym body) h)))
findings_checked P t s h (Err r) body normal inputs notes = tt
