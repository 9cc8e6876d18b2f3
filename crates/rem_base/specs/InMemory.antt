-- What a source and a sink in memory show of themselves.
use Rattle.std.specs.Prelude.{ℕ, List, ◌-◌, take, drop, vec_len}
use Rattle.rem_base.specs.declared.memory.MemSource.{MemSource}
use Rattle.rem_base.specs.declared.memory.MemSink.{MemSink}

-- the bytes that the source has left
abbrev pub source_left : MemSource → List ℕ
source_left s = drop s.at s.bytes.items

-- how many bytes the source gives at most in one call
abbrev pub source_step : MemSource → ℕ
source_step s = s.step

-- the numbers of the source's calls that fail
abbrev pub source_failing : MemSource → List ℕ
source_failing s = s.failing.items

-- how many calls the source has had
abbrev pub source_calls : MemSource → ℕ
source_calls s = s.calls

-- how many of the source's calls have failed
abbrev pub source_faults : MemSource → ℕ
source_faults s = s.faults

-- the bytes that the sink holds
abbrev pub sink_written : MemSink → List ℕ
sink_written s = take s.used s.room.items

-- how many bytes still find room in the sink
abbrev pub sink_free : MemSink → ℕ
sink_free s = vec_len s.room - s.used

-- how many bytes the sink takes at most in one call
abbrev pub sink_step : MemSink → ℕ
sink_step s = s.step

-- the numbers of the sink's calls that fail
abbrev pub sink_failing : MemSink → List ℕ
sink_failing s = s.failing.items

-- how many calls the sink has had
abbrev pub sink_calls : MemSink → ℕ
sink_calls s = s.calls

-- how many of the sink's calls have failed
abbrev pub sink_faults : MemSink → ℕ
sink_faults s = s.faults
