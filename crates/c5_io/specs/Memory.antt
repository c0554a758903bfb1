-- Sources and sinks in memory: what they hold, and what each call makes of it.
use Rattle.std.specs.Prelude.{◌<◌, ◌≤◌, ◌⊎◌, ℕ, ◌+◌, ◌-◌, ◌^◌, min, Bool, true, false, List, ◌++◌}
use Rattle.std.specs.Prelude.{length, drop, Contains}

-- the number of the next call, which stops at `u64::MAX`
abbrev pub next_call : ℕ → ℕ
next_call calls = min (calls + 1) (2 ^ 64 - 1)

-- one fault more, up to `u64::MAX`
abbrev pub one_fault_more : ℕ → ℕ
one_fault_more faults = min (faults + 1) (2 ^ 64 - 1)

-- the bytes left, the most that a call gives, the numbers of the calls that fail, and how many
-- calls and faults there were
pub record SourceState : Type 0 where
  pub left : List ℕ
  pub step : ℕ
  pub fails : List ℕ
  pub calls : ℕ
  pub faults : ℕ

-- the next read fails
abbrev pub ReadFails : SourceState → Type 0
ReadFails s = Contains s.fails (next_call s.calls)

-- how many bytes a read gives into a buffer of this length
abbrev pub read_count : SourceState → ℕ → ℕ
read_count s room = min (min s.step (length s.left)) room

-- a source from which n bytes were read
abbrev pub after_read : SourceState → ℕ → SourceState
after_read s n = record s { left = drop n s.left; calls = next_call s.calls }

-- a source after a read that failed
abbrev pub after_failed_read : SourceState → SourceState
after_failed_read s = record s { calls = next_call s.calls; faults = one_fault_more s.faults }

-- the bytes held, how many fit, the most that a write takes, the numbers of the calls that fail,
-- how many calls and faults there were, and whether the last call was a flush that was Ok
pub record SinkState : Type 0 where
  pub held : List ℕ
  pub room : ℕ
  pub step : ℕ
  pub fails : List ℕ
  pub calls : ℕ
  pub faults : ℕ
  pub flushed : Bool

-- the next call fails by its number
abbrev pub FailsByNumber : SinkState → Type 0
FailsByNumber s = Contains s.fails (next_call s.calls)

-- no room is left
abbrev pub IsFull : SinkState → Type 0
IsFull s = s.room ≤ length s.held

-- the next write, of this piece, fails
abbrev pub WriteFails : SinkState → List ℕ → Type 0
WriteFails s piece = FailsByNumber s ⊎ ((0 < length piece) × IsFull s)

-- how many bytes a write takes of a piece of this length
abbrev pub bytes_taken : SinkState → ℕ → ℕ
bytes_taken s len = min (min s.step (s.room - length s.held)) len

-- a sink that took these bytes
abbrev pub after_taken : SinkState → List ℕ → SinkState
after_taken s taken =
    record s { held = s.held ++ taken; calls = next_call s.calls; flushed = false }

-- a sink after a flush that was Ok
abbrev pub after_flush : SinkState → SinkState
after_flush s = record s { calls = next_call s.calls; flushed = true }

-- a sink after a write or a flush that failed
abbrev pub after_failed_call : SinkState → SinkState
after_failed_call s =
    record s { calls = next_call s.calls; faults = one_fault_more s.faults; flushed = false }
