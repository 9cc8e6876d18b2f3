-- Base atoms, read and spelled.
use Rattle.std.proofs.Common.{◌≡◌, ◌⊎◌, inl, inr, ℕ, zero, suc, ◌+◌, ◌<◌, cond, eqb, Bool, true, false, not, ◌&&◌, List, [], ◌∷◌, ◌++◌, length, Ok, Err, ap, sym, subst, ◌∙◌, refl, arith, ⊎_elim, pos, negsuc}
use Rattle.std.specs.Prelude.{codes}
use Rattle.std.specs.Fmt.{signed_decimal, digits}
use Rattle.std.proofs.lemmas.Bool.{false≢true, ne_eqb}
use Rattle.std.proofs.lemmas.Bool.Decides.{eqb_tells}
use Rattle.machine_table.specs.declared.code.Literal.{Literal}
use Rattle.machine_table.specs.declared.code.Literal.TheVariants as literal
use Rattle.machine_table.specs.Codes.{Code}
use Rattle.machine_table.specs.CodeBounds.{IsChar, IsLiteral}
use Rattle.code_text.specs.Text.{is_plain, literal_text}
use Rattle.code_text.specs.Reading.{Reader, plainly, made, choice, integer_at, common}
use Rattle.code_text.specs.LiteralReading.{u_at, plain_at, char_at, marks, marked_at, literal_at}
use Rattle.code_text.proofs.goes.Goes.{Rest, then_rest, Live, StopsAt, Goes, shift, refuse, at_end, true_or_false, both_left, Ok≢Err}
use Rattle.code_text.proofs.goes.PickGoes.{At}
use Rattle.code_text.proofs.codecs.Codec.{Codec, ok_of, made_codec}
use Rattle.code_text.proofs.codecs.Parts.{choice_codec}
use Rattle.code_text.proofs.codecs.Either.{either_codec}
use Rattle.code_text.proofs.codecs.Many.{known_codec}
use Rattle.code_text.proofs.atoms.Integers.{IsInteger, integer_codec, integer_refuses, integer_none}
use Rattle.code_text.proofs.atoms.HexReads.{IsU, Itself, Hidden, u_text, u_codec, plain_bounds, hidden_plain, hidden_char, hidden_at, both_true}

-- ---- characters that stand for themselves

abbrev is_other : ℕ → Bool
is_other c = is_plain c && not (eqb c 117)

abbrev IsOther : ℕ → Type 0
IsOther c = is_other c ≡ true

plain_yes : (c : ℕ) (s : List ℕ) → is_other c ≡ true → plain_at (c ∷ s) ≡ Ok (c, s)
unfolding plain_at
plain_yes c s e = ap (λ (b : Bool). cond b (Ok (c, s)) (Err (length s + 1))) e

plain_no : (c : ℕ) (s : List ℕ) → is_other c ≡ false → plain_at (c ∷ s) ≡ Err (length s + 1)
unfolding plain_at
plain_no c s e = ap (λ (b : Bool). cond b (Ok (c, s)) (Err (length s + 1))) e

plain_none : plain_at [] ≡ Err 0
unfolding plain_at
plain_none = refl

plain_takes : (s : List ℕ) (x : ℕ × List ℕ) → plain_at s ≡ Ok x → (s ≡ (x.0 ∷ []) ++ x.1) × IsOther x.0
plain_takes [] x e = absurd (Ok≢Err x 0 (sym e ∙ plain_none))
plain_takes (c ∷ s) x e =
    ⊎_elim
    (λ t. subst (λ (y : ℕ × List ℕ). (c ∷ s ≡ (y.0 ∷ []) ++ y.1) × IsOther y.0) (ok_of (c, s) x (sym (plain_yes c s t) ∙ e)) (refl, t))
    (λ f. absurd (Ok≢Err x (length s + 1) (sym e ∙ plain_no c s f)))
    (true_or_false (is_other c))

plain_goes : (k : ℕ → Rest Code) → ((c : ℕ) → IsOther c → Goes (k c)) → Goes (λ s. then_rest (plain_at s) k)
plain_goes k G = record { live = l; stops = at }
  where
    g : Rest Code
    g s = then_rest (plain_at s) k

    l : Live g
    l = let o = (G 33 refl).live in record { text = 33 ∷ o.text; value = o.value; is = ap (λ r. then_rest r k) (plain_yes 33 o.text refl) ∙ o.is }

    at : (s : List ℕ) → StopsAt g s (g s)
    at [] = at_end g l (ap (λ r. then_rest r k) plain_none)
    at (c ∷ s) =
        ⊎_elim
        (λ t. shift g (k c) c (λ z. ap (λ r. then_rest r k) (plain_yes c z t)) s ((G c t).stops s))
        (λ f. refuse g l c (λ z. ap (λ r. then_rest r k) (plain_no c z f)) s)
        (true_or_false (is_other c))

plain_codec : Codec false true (plainly plain_at) (λ c. c ∷ []) IsOther
plain_codec = record {
  takes = λ n s x is. plain_takes s x is;
  again = λ n c r is after le. plain_yes c r is;
  enough = λ n m s le lf. refl;
  goes = λ n k G N. plain_goes k G;
  opens = tt;
}

plain_refuses : (z : List ℕ) → plain_at (117 ∷ z) ≡ Err (length z + 1)
plain_refuses z = plain_no 117 z refl

-- ---- characters

-- a character behind `#\`
abbrev char_text : ℕ → List ℕ
char_text c = cond (is_plain c) (c ∷ []) (117 ∷ digits 16 false c)

plain_text : (c : ℕ) → is_plain c ≡ true → char_text c ≡ c ∷ []
plain_text c e = ap (λ (b : Bool). cond b (c ∷ []) (117 ∷ digits 16 false c)) e

hidden_text : (c : ℕ) → is_plain c ≡ false → char_text c ≡ 117 ∷ digits 16 false c
hidden_text c e = ap (λ (b : Bool). cond b (c ∷ []) (117 ∷ digits 16 false c)) e

u_up : (c : ℕ) → IsU c → IsChar c × (char_text c ≡ 117 ∷ u_text c)
u_up c (Itself is) = subst (λ (d : ℕ). IsChar d × (char_text d ≡ 117 ∷ u_text d)) (sym is) (inl (omega arith), refl)
u_up c (Hidden hidden le) =
    let plain = hidden_plain c hidden in
    let other : eqb c 117 ≡ false = ne_eqb c 117 (λ same. false≢true (sym plain ∙ ap is_plain same)) in (
      ⊎_elim (λ (l : c < 55296). inl l) (λ (l : 57343 < c). inr (omega arith, omega (arith, le))) (hidden_char c hidden),
      hidden_text c plain ∙ ap (λ (b : Bool). 117 ∷ cond b [] (digits 16 false c)) (sym other),
    )

other_up : (c : ℕ) → IsOther c → IsChar c × (char_text c ≡ c ∷ [])
other_up c is =
    let plain = both_left (is_plain c) _ is in
    (inl (omega (arith, (plain_bounds c plain).1)), plain_text c plain)

char_down : (c : ℕ) → IsChar c → IsU c ⊎ IsOther c
char_down c is =
    ⊎_elim
    (λ t.
    ⊎_elim
    (λ e. inl (Itself e.1))
    (λ e. inr (both_true (is_plain c) (not (eqb c 117)) t (ap not e.0)))
    (eqb_tells c 117))
    (λ f. inl (Hidden (hidden_at c f (⊎_elim (λ (l : c < 55296). inl l) (λ h. let low = h.0 in inr (omega (arith, low))) is)) (⊎_elim (λ (l : c < 55296). omega arith) (λ h. let high = h.1 in omega (arith, high)) is)))
    (true_or_false (is_plain c))

char_codec : Codec false true char_at char_text IsChar
char_codec = either_codec 117 (plainly u_at) (plainly plain_at) (λ n. plain_none) (λ n z. plain_refuses z) u_text (λ c. c ∷ []) IsU IsOther char_text IsChar true u_codec plain_codec u_up other_up char_down

-- ---- atoms

-- what stands behind a mark with this number
mark_text : ℕ → Literal → List ℕ
mark_text zero a = []
mark_text (suc zero) a = []
mark_text (suc (suc j)) (literal.Char c) = char_text c
mark_text (suc (suc j)) (literal.Int z) = []
mark_text (suc (suc j)) (literal.Bool b) = []

IsMarked : ℕ → Literal → Type 0
IsMarked zero a = a ≡ literal.Bool true
IsMarked (suc zero) a = a ≡ literal.Bool false
IsMarked (suc (suc j)) (literal.Char c) = IsChar c
IsMarked (suc (suc j)) (literal.Int z) = ⊥
IsMarked (suc (suc j)) (literal.Bool b) = ⊥

-- an atom behind `#`
hash_text : Literal → List ℕ
hash_text (literal.Bool b) = cond b (codes "t") (codes "f")
hash_text (literal.Char c) = 92 ∷ char_text c
hash_text (literal.Int z) = []

IsHash : Literal → Type 0
IsHash (literal.Bool b) = Unit {0}
IsHash (literal.Char c) = IsChar c
IsHash (literal.Int z) = ⊥

branch : (j : ℕ) (w : List ℕ) → At marks j w → Codec false true (marked_at j) (mark_text j) (IsMarked j)
unfolding mark_text IsMarked
branch zero w at = known_codec true (literal.Bool true)
branch (suc zero) w at = known_codec true (literal.Bool false)
branch (suc (suc j)) w at = made_codec literal.Char char_at char_text IsChar (mark_text (suc (suc j))) (IsMarked (suc (suc j))) (λ c is. refl) (λ c is. is) from false true char_codec
  where
    from : (a : Literal) → IsMarked (suc (suc j)) a → (c : ℕ) × IsChar c × (literal.Char c ≡ a)
    from (literal.Char c) is = (c, is, refl)
    from (literal.Int z) is = absurd is
    from (literal.Bool b) is = absurd is

mark_up : (j : ℕ) (w : List ℕ) (a : Literal) → At marks j w → IsMarked j a → IsHash a × (hash_text a ≡ w ++ mark_text j a)
unfolding mark_text IsMarked hash_text IsHash
mark_up zero w a at is = subst (λ (v : List ℕ). IsHash a × (hash_text a ≡ v ++ [])) at (subst (λ (b : Literal). IsHash b × (hash_text b ≡ codes "t" ++ [])) (sym is) (tt, refl))
mark_up (suc zero) w a at is = subst (λ (v : List ℕ). IsHash a × (hash_text a ≡ v ++ [])) at (subst (λ (b : Literal). IsHash b × (hash_text b ≡ codes "f" ++ [])) (sym is) (tt, refl))
mark_up (suc (suc zero)) w (literal.Char c) at is = (is, ap (λ v. v ++ char_text c) at)
mark_up (suc (suc zero)) w (literal.Int z) at is = absurd is
mark_up (suc (suc zero)) w (literal.Bool b) at is = absurd is
mark_up (suc (suc (suc j))) w a at is = absurd at

mark_down : (a : Literal) → IsHash a → (j : ℕ) × (w : List ℕ) × At marks j w × IsMarked j a
unfolding IsMarked IsHash
mark_down (literal.Bool true) is = (0, codes "t", refl, refl)
mark_down (literal.Bool false) is = (1, codes "f", refl, refl)
mark_down (literal.Char c) is = (2, codes "\\", refl, is)
mark_down (literal.Int z) is = absurd is

hash_codec : Codec false true (choice marks marked_at) hash_text IsHash
unfolding common
hash_codec = choice_codec marks (codes "t") refl refl marked_at mark_text IsMarked hash_text IsHash true branch mark_up mark_down

-- an atom that is an integer
int_text : Literal → List ℕ
int_text (literal.Int z) = signed_decimal z
int_text (literal.Bool b) = []
int_text (literal.Char c) = []

IsInt : Literal → Type 0
IsInt (literal.Int z) = IsInteger z
IsInt (literal.Bool b) = ⊥
IsInt (literal.Char c) = ⊥

abbrev int_at : Reader Literal
int_at = made literal.Int (plainly integer_at)

int_codec : Codec false true int_at int_text IsInt
unfolding int_text IsInt
int_codec = made_codec literal.Int (plainly integer_at) signed_decimal IsInteger int_text IsInt (λ z is. refl) (λ z is. is) from false true integer_codec
  where
    from : (a : Literal) → IsInt a → (z : _) × IsInteger z × (literal.Int z ≡ a)
    from (literal.Int z) is = (z, is, refl)
    from (literal.Bool b) is = absurd is
    from (literal.Char c) is = absurd is

int_none : (n : ℕ) → int_at n [] ≡ Err 0
int_none n = ap (λ r. made literal.Int (λ _ _. r) n []) integer_none

int_refuses : (n : ℕ) (z : List ℕ) → int_at n (35 ∷ z) ≡ Err (length z + 1)
int_refuses n z = ap (λ r. made literal.Int (λ _ _. r) n (35 ∷ z)) (integer_refuses z)

hash_up : (a : Literal) → IsHash a → IsLiteral a × (literal_text a ≡ 35 ∷ hash_text a)
unfolding hash_text IsHash
hash_up (literal.Bool true) is = (tt, refl)
hash_up (literal.Bool false) is = (tt, refl)
hash_up (literal.Char c) is = (is, by_case (is_plain c))
  where
    by_case : (b : Bool) → cond b (codes "#\\" ++ c ∷ []) (codes "#\\u" ++ digits 16 false c) ≡ 35 ∷ (92 ∷ cond b (c ∷ []) (117 ∷ digits 16 false c))
    by_case true = refl
    by_case false = refl
hash_up (literal.Int z) is = absurd is

int_up : (a : Literal) → IsInt a → IsLiteral a × (literal_text a ≡ int_text a)
unfolding int_text IsInt
int_up (literal.Int (pos n)) is = (is, refl)
int_up (literal.Int (negsuc n)) is = (is, refl)
int_up (literal.Bool b) is = absurd is
int_up (literal.Char c) is = absurd is

literal_down : (a : Literal) → IsLiteral a → IsHash a ⊎ IsInt a
unfolding IsHash IsInt
literal_down (literal.Int (pos n)) is = inr is
literal_down (literal.Int (negsuc n)) is = inr is
literal_down (literal.Bool b) is = inl tt
literal_down (literal.Char c) is = inl is

-- a base atom
pub literal_codec : Codec false true literal_at literal_text IsLiteral
literal_codec = either_codec 35 (choice marks marked_at) int_at int_none int_refuses hash_text int_text IsHash IsInt literal_text IsLiteral true hash_codec int_codec hash_up int_up literal_down
