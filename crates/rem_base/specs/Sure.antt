-- What a source that never fails shows of itself.
use Rattle.std.specs.Prelude.{ℕ, List, drop}
use Rattle.rem_base.specs.declared.sure.SureSource.{SureSource}

-- the bytes that the source has left
abbrev pub sure_left : SureSource → List ℕ
sure_left s = drop s.at s.bytes.items
