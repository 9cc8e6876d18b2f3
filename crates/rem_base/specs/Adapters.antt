-- What the adapters over std's readers, writers and files show of themselves.
use Rattle.std.specs.Prelude.{ℕ}
use Rattle.rem_base.specs.declared.adapters.ReadSource.{ReadSource}
use Rattle.rem_base.specs.declared.adapters.WriteSink.{WriteSink}
use Rattle.rem_base.specs.declared.adapters.FileSource.{FileSource}

-- the reader that a source reads from
abbrev pub reader_of : {R : Type 0} → ReadSource R → R
reader_of s = s.inner

-- how many of its reads have failed
abbrev pub reads_failed : {R : Type 0} → ReadSource R → ℕ
reads_failed s = s.faults

-- the writer that a sink writes to
abbrev pub writer_of : {W : Type 0} → WriteSink W → W
writer_of k = k.inner

-- how many of its writes have failed
abbrev pub writes_failed : {W : Type 0} → WriteSink W → ℕ
writes_failed k = k.faults

-- how many openings and reads of the file have failed
abbrev pub file_faults : {R A F : Type 0} → FileSource R A F → ℕ
file_faults s = s.faults
