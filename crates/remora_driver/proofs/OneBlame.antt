-- A code text is blamed at one place, if at all.
use Rattle.std.proofs.Common.{◌≡◌, sym, ap, ◌∙◌, ℕ, ◌+◌, ◌<◌, ◌≤◌, arith, List, ◌++◌, take, drop, append_assoc, ⊎_elim}
use Rattle.std.proofs.Math.Nat.{eq-or-lt_of_le}
use Rattle.std.proofs.lemmas.Bool.{cases_lt}
use Rattle.std.proofs.lemmas.List.{take-append-drop, take-take}
use Rattle.machine_table.specs.Codes.{Code}
use Rattle.code_text.specs.declared.refusal.CodeKind.{CodeKind}
use Rattle.code_text.specs.declared.refusal.CodeKind.TheVariants.{Byte, End}
use Rattle.code_text.specs.Blame.{CodeText, IsFront, IsBadByte, EndsEarly, Blame}
use Rattle.remora_driver.specs.Due.{refused, text_number, text_place}

-- a front of a front is one
shorter_front : (bytes : List ℕ) (n m : ℕ) → n ≤ m → IsFront (take m bytes) → IsFront (take n bytes)
shorter_front bytes n m le f =
    record {
      code = f.code;
      rest = drop n (take m bytes) ++ f.rest;
      is = f.is;
      text = f.text ∙ ap (λ (front : List ℕ). front ++ f.rest) (sym (take-append-drop n (take m bytes))) ∙ append_assoc (take n (take m bytes)) (drop n (take m bytes)) f.rest ∙ ap (λ (front : List ℕ). front ++ (drop n (take m bytes) ++ f.rest)) (take-take n m bytes le);
    }

-- a whole text is a front
whole_front : (bytes : List ℕ) (n : ℕ) (c : Code) → CodeText c bytes → IsFront (take n bytes)
whole_front bytes n c text = record { code = c; rest = drop n bytes; is = text.is; text = sym text.text ∙ sym (take-append-drop n bytes) }

-- what ends early is a front
early_front : (bytes : List ℕ) (n at : ℕ) → EndsEarly bytes at → IsFront (take n bytes)
early_front bytes n at e =
    record {
      code = e.before.code;
      rest = drop n bytes ++ e.before.rest;
      is = e.before.is;
      text = e.before.text ∙ ap (λ (front : List ℕ). front ++ e.before.rest) (sym (take-append-drop n bytes)) ∙ append_assoc (take n bytes) (drop n bytes) e.before.rest;
    }

-- there is one first bad byte
not_before : (bytes : List ℕ) (n m : ℕ) → IsBadByte bytes n → IsBadByte bytes m → n < m → ⊥
not_before bytes n m b b' lt = b.ends (shorter_front bytes (n + 1) m (omega (arith, lt)) b'.before)

one_byte : (bytes : List ℕ) (n m : ℕ) → IsBadByte bytes n → IsBadByte bytes m → n ≡ m
one_byte bytes n m b b' = ⊎_elim (λ lt. absurd (not_before bytes n m b b' lt)) (λ le. ⊎_elim (λ e. sym e) (λ lt. absurd (not_before bytes m n b' b lt)) (eq-or-lt_of_le le)) (cases_lt n m)

-- a text is blamed once, and a code's text isn't blamed
pub one_blamed : (bytes : List ℕ) (k l : CodeKind) (n m : ℕ) → Blame k bytes n → Blame l bytes m → refused (text_number k) (text_place k n bytes) ≡ refused (text_number l) (text_place l m bytes)
one_blamed bytes Byte Byte n m b b' = ap (λ (at : ℕ). refused 32 (text_place Byte at bytes)) (one_byte bytes n m b b')
one_blamed bytes Byte End n m b e = absurd (b.ends (early_front bytes (n + 1) m e))
one_blamed bytes End Byte n m e b = absurd (b.ends (early_front bytes (m + 1) n e))
one_blamed bytes End End n m e e' = ap (λ (at : ℕ). refused 33 (text_place End at bytes)) (e.is ∙ sym e'.is)

pub unblamed : (bytes : List ℕ) (k : CodeKind) (n : ℕ) (c : Code) → Blame k bytes n → CodeText c bytes → ⊥
unblamed bytes Byte n c b text = b.ends (whole_front bytes (n + 1) c text)
unblamed bytes End n c e text = e.no_text c text
