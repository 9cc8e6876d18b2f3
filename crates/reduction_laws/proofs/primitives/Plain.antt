-- Primitives without variables, and `select`, keep types.
use Rattle.std.proofs.Common.{◌∙◌, ap, ℕ, zero, suc, ℤ, pos, negsuc, List, [], ◌∷◌, Option, Some, None, Bool, true, false}
use Rattle.std.specs.Prelude.{◌+ℤ◌, ◌-ℤ◌, ◌*ℤ◌, int_lt, int_le, int_div, int_rem, not, ◌&&◌, ◌||◌, ◌==◌, nat_lt, if◌then◌else◌}
use Rattle.core_syntax.specs.declared.primitive.Primitive.TheVariants as p
use Rattle.core_syntax.specs.Syntax.{Index, Ty, Fun, Arr, Tys, no_span, ty_list}
use Rattle.core_syntax.specs.Lists.{each, Each, product}
use Rattle.core_syntax.specs.Kinds.{IsWellFormed}
use Rattle.core_syntax.specs.TypeEqual.{Same, AllSame}
use Rattle.core_syntax.specs.Subst.{with_types}
use Rattle.core_syntax.specs.Prims.{prim_type, scalar, int_ty, bool_ty, char_ty, type_var}
use Rattle.core_syntax.specs.Nodes.{vector}
use Rattle.core_syntax.specs.Typing.{defs_only}
use Rattle.core_syntax.specs.Terms.{Terms, Cell, term_items}
use Rattle.core_syntax.specs.Arrays.{Arrayed}
use Rattle.core_syntax.specs.Answer.{Look, AnInt, ABool, AChar, AtomRules, Answer}
use Rattle.core_syntax.specs.Delta.{gives_int, gives_bool, quotient, remainder, same_int, of_ints, of_chars, of_bools, of_two, of_one, char_number, bool_number, negation, selected, select_by, delta}
use Rattle.core_syntax.specs.Rules.{atoms_of, look, atom_rules}
use Rattle.core_syntax.specs.Typed.{typed, typed_rules, TypedTerm, closed}
use Rattle.core_syntax.specs.TermTyping.{Notes, PrimHas, HasCell}
use Rattle.core_syntax.proofs.Equality.{same_refl}
use Rattle.reduction_laws.proofs.steps.Scalars.{PairsHave}
use Rattle.reduction_laws.proofs.primitives.Args.{int_look, bool_look, char_look, Fits, arrayed, fits_arg, with_args, one_atom, Good, gives_good, int_good, bool_good}
use Rattle.reduction_laws.proofs.steps.Parts.{IsArr}

module _ (D : List Ty) (ws : Tys) (b : Ty) (c : Index) (es : Terms typed) (note : Ty) (us : Option (List Ty)) (w : IsWellFormed 0 [] (Arr no_span b c)) (ve : Each IsArr (term_items es)) (he : PairsHave D es ws)
    (n : Notes (defs_only D) (Arr no_span b c) note) where
  -- the answer's type
  abbrev pub Ok : Answer (Cell typed) → Type 0
  Ok a = Good D note us None b c w n a

  -- how primitives see and make atoms here
  abbrev pub R : AtomRules (Cell typed)
  R = atom_rules typed_rules note

  -- the arrays of values
  abbrev pub arrays : List TypedTerm → List (Arrayed (Cell typed))
  arrays es = each (arrayed D) es

  two_good : (a : Ty) → IsWellFormed 0 [] a → (g : Look → Look → Answer (Cell typed)) → AllSame (ty_list (scalar a ∷ scalar a ∷ [])) ws
      → ((x y : Cell typed) → HasCell (defs_only D) x a → HasCell (defs_only D) y a → Ok (g (look typed_rules x) (look typed_rules y))) → Ok (of_two R g (each (λ a. a.atoms) (arrays (term_items es))))
  two_good a wa g s k =
      with_args D (scalar a ∷ scalar a ∷ []) es ws (λ es. Ok (of_two R g (each (λ a. a.atoms) (arrays es)))) s he ve (λ e u v h s e' u' v' h' s'.
      let f = fits_arg D e u a (vector []) a v h s (same_refl a) wa in
      let f' = fits_arg D e' u' a (vector []) a v' h' s' (same_refl a) wa in
      one_atom D (λ x. HasCell (defs_only D) x a) (λ xs. Ok (of_two R g (xs ∷ atoms_of typed_rules e' ∷ []))) (atoms_of typed_rules e) (f.count ∙ ap product f.dims) f.atoms (λ x hx.
      one_atom D (λ x. HasCell (defs_only D) x a) (λ xs. Ok (of_two R g ((x ∷ []) ∷ xs ∷ []))) (atoms_of typed_rules e') (f'.count ∙ ap product f'.dims) f'.atoms (λ y hy. k x y hx hy)))

  one_good : (a : Ty) → IsWellFormed 0 [] a → (g : Look → Answer (Cell typed)) → AllSame (ty_list (scalar a ∷ [])) ws
      → ((x : Cell typed) → HasCell (defs_only D) x a → Ok (g (look typed_rules x))) → Ok (of_one R g (each (λ a. a.atoms) (arrays (term_items es))))
  one_good a wa g s k =
      with_args D (scalar a ∷ []) es ws (λ es. Ok (of_one R g (each (λ a. a.atoms) (arrays es)))) s he ve (λ e u v h s.
      let f = fits_arg D e u a (vector []) a v h s (same_refl a) wa in
      one_atom D (λ x. HasCell (defs_only D) x a) (λ xs. Ok (of_one R g (xs ∷ []))) (atoms_of typed_rules e) (f.count ∙ ap product f.dims) f.atoms (λ x hx. k x hx))

  ints : (f : ℤ → ℤ → Answer (Cell typed)) → AllSame (ty_list (scalar int_ty ∷ scalar int_ty ∷ [])) ws → ((x y : ℤ) → Ok (f x y)) → Ok (of_two R (of_ints R f) (each (λ a. a.atoms) (arrays (term_items es))))
  ints f s k = two_good int_ty tt (of_ints R f) s (λ x y hx hy. int_look D (λ l. Ok (of_ints R f l (look typed_rules y))) x hx (λ z. int_look D (λ l. Ok (of_ints R f (AnInt z) l)) y hy (λ z'. k z z')))

  chars : (f : ℕ → ℕ → Answer (Cell typed)) → AllSame (ty_list (scalar char_ty ∷ scalar char_ty ∷ [])) ws → ((x y : ℕ) → Ok (f x y)) → Ok (of_two R (of_chars R f) (each (λ a. a.atoms) (arrays (term_items es))))
  chars f s k = two_good char_ty tt (of_chars R f) s (λ x y hx hy. char_look D (λ l. Ok (of_chars R f l (look typed_rules y))) x hx (λ z. char_look D (λ l. Ok (of_chars R f (AChar z) l)) y hy (λ z'. k z z')))

  bools : (f : Bool → Bool → Answer (Cell typed)) → AllSame (ty_list (scalar bool_ty ∷ scalar bool_ty ∷ [])) ws → ((x y : Bool) → Ok (f x y)) → Ok (of_two R (of_bools R f) (each (λ a. a.atoms) (arrays (term_items es))))
  bools f s k = two_good bool_ty tt (of_bools R f) s (λ x y hx hy. bool_look D (λ l. Ok (of_bools R f l (look typed_rules y))) x hx (λ z. bool_look D (λ l. Ok (of_bools R f (ABool z) l)) y hy (λ z'. k z z')))

  gives_an_int : Same (scalar int_ty) (Arr no_span b c) → (z : ℤ) → Ok (gives_int R z)
  gives_an_int s z = int_good D note us None b c w n z s

  gives_a_bool : Same (scalar bool_ty) (Arr no_span b c) → (z : Bool) → Ok (gives_bool R z)
  gives_a_bool s z = bool_good D note us None b c w n z s

  quotient_ok : Same (scalar int_ty) (Arr no_span b c) → (x y : ℤ) → Ok (quotient R x y)
  quotient_ok s x (pos zero) = tt
  quotient_ok s x (pos (suc k)) = gives_an_int s (int_div x (pos (suc k)))
  quotient_ok s x (negsuc k) = gives_an_int s (int_div x (negsuc k))

  remainder_ok : Same (scalar int_ty) (Arr no_span b c) → (x y : ℤ) → Ok (remainder R x y)
  remainder_ok s x (pos zero) = tt
  remainder_ok s x (pos (suc k)) = gives_an_int s (int_rem x (pos (suc k)))
  remainder_ok s x (negsuc k) = gives_an_int s (int_rem x (negsuc k))

  bool_number_ok : Same (scalar int_ty) (Arr no_span b c) → (z : Bool) → Ok (bool_number R (ABool z))
  bool_number_ok s true = gives_an_int s (pos 1)
  bool_number_ok s false = gives_an_int s (pos 0)

  pub rule_add : PrimHas (defs_only D) (prim_type p.Add) None None (Fun no_span ws (Arr no_span b c)) → Ok (delta R p.Add [] (arrays (term_items es)))
  rule_add h = ints (λ x y. gives_int R (x +ℤ y)) h.1.0 (λ x y. gives_an_int h.1.1 (x +ℤ y))

  pub rule_sub : PrimHas (defs_only D) (prim_type p.Sub) None None (Fun no_span ws (Arr no_span b c)) → Ok (delta R p.Sub [] (arrays (term_items es)))
  rule_sub h = ints (λ x y. gives_int R (x -ℤ y)) h.1.0 (λ x y. gives_an_int h.1.1 (x -ℤ y))

  pub rule_mul : PrimHas (defs_only D) (prim_type p.Mul) None None (Fun no_span ws (Arr no_span b c)) → Ok (delta R p.Mul [] (arrays (term_items es)))
  rule_mul h = ints (λ x y. gives_int R (x *ℤ y)) h.1.0 (λ x y. gives_an_int h.1.1 (x *ℤ y))

  pub rule_min : PrimHas (defs_only D) (prim_type p.Min) None None (Fun no_span ws (Arr no_span b c)) → Ok (delta R p.Min [] (arrays (term_items es)))
  rule_min h = ints (λ x y. gives_int R (if int_le x y then x else y)) h.1.0 (λ x y. gives_an_int h.1.1 (if int_le x y then x else y))

  pub rule_max : PrimHas (defs_only D) (prim_type p.Max) None None (Fun no_span ws (Arr no_span b c)) → Ok (delta R p.Max [] (arrays (term_items es)))
  rule_max h = ints (λ x y. gives_int R (if int_le x y then y else x)) h.1.0 (λ x y. gives_an_int h.1.1 (if int_le x y then y else x))

  pub rule_div : PrimHas (defs_only D) (prim_type p.Div) None None (Fun no_span ws (Arr no_span b c)) → Ok (delta R p.Div [] (arrays (term_items es)))
  rule_div h = ints (quotient R) h.1.0 (λ x y. quotient_ok h.1.1 x y)

  pub rule_mod : PrimHas (defs_only D) (prim_type p.Mod) None None (Fun no_span ws (Arr no_span b c)) → Ok (delta R p.Mod [] (arrays (term_items es)))
  rule_mod h = ints (remainder R) h.1.0 (λ x y. remainder_ok h.1.1 x y)

  pub rule_equal : PrimHas (defs_only D) (prim_type p.Equal) None None (Fun no_span ws (Arr no_span b c)) → Ok (delta R p.Equal [] (arrays (term_items es)))
  rule_equal h = ints (λ x y. gives_bool R (same_int x y)) h.1.0 (λ x y. gives_a_bool h.1.1 (same_int x y))

  pub rule_less : PrimHas (defs_only D) (prim_type p.Less) None None (Fun no_span ws (Arr no_span b c)) → Ok (delta R p.Less [] (arrays (term_items es)))
  rule_less h = ints (λ x y. gives_bool R (int_lt x y)) h.1.0 (λ x y. gives_a_bool h.1.1 (int_lt x y))

  pub rule_atmost : PrimHas (defs_only D) (prim_type p.AtMost) None None (Fun no_span ws (Arr no_span b c)) → Ok (delta R p.AtMost [] (arrays (term_items es)))
  rule_atmost h = ints (λ x y. gives_bool R (int_le x y)) h.1.0 (λ x y. gives_a_bool h.1.1 (int_le x y))

  pub rule_charequal : PrimHas (defs_only D) (prim_type p.CharEqual) None None (Fun no_span ws (Arr no_span b c)) → Ok (delta R p.CharEqual [] (arrays (term_items es)))
  rule_charequal h = chars (λ x y. gives_bool R (x == y)) h.1.0 (λ x y. gives_a_bool h.1.1 (x == y))

  pub rule_charless : PrimHas (defs_only D) (prim_type p.CharLess) None None (Fun no_span ws (Arr no_span b c)) → Ok (delta R p.CharLess [] (arrays (term_items es)))
  rule_charless h = chars (λ x y. gives_bool R (nat_lt x y)) h.1.0 (λ x y. gives_a_bool h.1.1 (nat_lt x y))

  pub rule_chartoint : PrimHas (defs_only D) (prim_type p.CharToInt) None None (Fun no_span ws (Arr no_span b c)) → Ok (delta R p.CharToInt [] (arrays (term_items es)))
  rule_chartoint h = one_good char_ty tt (char_number R) h.1.0 (λ x hx. char_look D (λ l. Ok (char_number R l)) x hx (λ z. gives_an_int h.1.1 (pos z)))

  pub rule_booltoint : PrimHas (defs_only D) (prim_type p.BoolToInt) None None (Fun no_span ws (Arr no_span b c)) → Ok (delta R p.BoolToInt [] (arrays (term_items es)))
  rule_booltoint h = one_good bool_ty tt (bool_number R) h.1.0 (λ x hx. bool_look D (λ l. Ok (bool_number R l)) x hx (λ z. bool_number_ok h.1.1 z))

  pub rule_and : PrimHas (defs_only D) (prim_type p.And) None None (Fun no_span ws (Arr no_span b c)) → Ok (delta R p.And [] (arrays (term_items es)))
  rule_and h = bools (λ x y. gives_bool R (x && y)) h.1.0 (λ x y. gives_a_bool h.1.1 (x && y))

  pub rule_or : PrimHas (defs_only D) (prim_type p.Or) None None (Fun no_span ws (Arr no_span b c)) → Ok (delta R p.Or [] (arrays (term_items es)))
  rule_or h = bools (λ x y. gives_bool R (x || y)) h.1.0 (λ x y. gives_a_bool h.1.1 (x || y))

  pub rule_not : PrimHas (defs_only D) (prim_type p.Not) None None (Fun no_span ws (Arr no_span b c)) → Ok (delta R p.Not [] (arrays (term_items es)))
  rule_not h = one_good bool_ty tt (negation R) h.1.0 (λ x hx. bool_look D (λ l. Ok (negation R l)) x hx (λ z. gives_a_bool h.1.1 (not z)))

  selected_ok : (z : Bool) (A B : Arrayed (Cell typed)) → Fits D b c A → Fits D b c B → Ok (selected R (ABool z) A B)
  selected_ok true A B f g = gives_good D note us None b c w n A f
  selected_ok false A B f g = gives_good D note us None b c w n B g

  pub rule_select : (vs : List Ty) → PrimHas (defs_only D) (prim_type p.Select) (Some vs) None (Fun no_span ws (Arr no_span b c)) → Ok (delta R p.Select [] (arrays (term_items es)))
  rule_select vs h =
      let t = with_types vs (type_var 0) in
      with_args D (scalar bool_ty ∷ scalar t ∷ scalar t ∷ []) es ws (λ es. Ok (delta R p.Select [] (arrays es))) h.2.1.0 he ve (λ e u v k s e' u' v' k' s' e'' u'' v'' k'' s''.
      let f = fits_arg D e u bool_ty (vector []) bool_ty v k s (same_refl bool_ty) tt in
      let at : (f' : _) → Fits D b (vector []) f' → Fits D b c f' = (λ f' g. record { dims = g.dims ∙ h.2.1.1.1 closed; count = g.count; atoms = g.atoms }) in
      let f' = at (arrayed D e') (fits_arg D e' u' t (vector []) b v' k' s' h.2.1.1.0 w.2) in
      let f'' = at (arrayed D e'') (fits_arg D e'' u'' t (vector []) b v'' k'' s'' h.2.1.1.0 w.2) in
      one_atom D (λ x. HasCell (defs_only D) x bool_ty) (λ xs. Ok (select_by R xs (arrayed D e') (arrayed D e''))) (atoms_of typed_rules e) (f.count ∙ ap product f.dims) f.atoms
      (λ x hx. bool_look D (λ l. Ok (selected R l (arrayed D e') (arrayed D e''))) x hx (λ z. selected_ok z (arrayed D e') (arrayed D e'') f' f'')))
