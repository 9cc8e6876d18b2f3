-- What is due, from what an answer is.
use Rattle.std.proofs.Common.{◌≡◌, refl, sym, ap, ◌∙◌, ℕ, Bool, true, false, List, [], ◌++◌, length, replicate, Option, Some, None}
use Rattle.std.specs.Prelude.{IsTrue}
use Rattle.std.specs.Io.KnownBytes.{IsAtEnd, Consumes}
use Rattle.std.proofs.lemmas.List.{append-nil, length-replicate}
use Rattle.remora_driver.specs.Top.{IsTold}

-- what is false isn't true
pub not_true : (b : Bool) → b ≡ false → IsTrue b → ⊥
not_true b e h = let x : false ≡ true = sym e ∙ h in cc

-- bytes that were read to their end are those that were left
pub told_read : (old new : Option (List ℕ)) (bytes : List ℕ) → Consumes old new bytes → IsAtEnd new → IsTold old bytes
told_read None new bytes taken end = tt
told_read (Some a) None bytes taken end = absurd taken
told_read (Some a) (Some b) bytes taken end = taken ∙ ap (λ rest. bytes ++ rest) end ∙ append-nil bytes

-- some bytes that the source tells
pub told_some : (left : Option (List ℕ)) → (bytes : List ℕ) × IsTold left bytes
told_some (Some bytes) = (bytes, refl)
told_some None = ([], tt)

-- there are as many bytes as one likes
pub some_bytes : (n : ℕ) → (bytes : List ℕ) × (length bytes ≡ n)
some_bytes n = (replicate n 0, length-replicate n 0)
