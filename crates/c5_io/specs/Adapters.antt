-- What a clause reads of a source or a sink over std.
use Rattle.std.specs.Prelude.{ℕ, Bool}
use Rattle.c5_io.specs.declared.adapters.StdSource.{StdSource}
use Rattle.c5_io.specs.declared.adapters.StdSink.{StdSink}

-- the reader that is read
abbrev pub reader_of : {R : Type 0} → StdSource R → R
reader_of s = s.reader

-- how often a read has failed
abbrev pub source_faults : {R : Type 0} → StdSource R → ℕ
source_faults s = s.faults

-- the writer that is written to
abbrev pub writer_of : {W : Type 0} → StdSink W → W
writer_of s = s.writer

-- how often a write or a flush has failed
abbrev pub sink_faults : {W : Type 0} → StdSink W → ℕ
sink_faults s = s.faults

-- whether the last call was a flush that was Ok
abbrev pub is_flushed : {W : Type 0} → StdSink W → Bool
is_flushed s = s.flushed
