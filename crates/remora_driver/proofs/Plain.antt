-- Tests of two parts, one after the other.
use Rattle.std.proofs.Common.{◌≡◌, sym, ◌∙◌, Bool, true, false}
use Rattle.std.specs.Prelude.{◌&&◌}

-- the first holds, so the second decides
pub and_then : (b r p q : Bool) → b ≡ p → b ≡ true → r ≡ q → r ≡ p && q
and_then b r true q e t h = h
and_then b r false q e t h = let x : true ≡ false = sym t ∙ e in absurd (cc)

-- the first doesn't hold, and decides
pub and_else : (b p q : Bool) → b ≡ p → b ≡ false → b ≡ p && q
and_else b true q e f = let x : false ≡ true = sym f ∙ e in absurd (cc)
and_else b false q e f = e
