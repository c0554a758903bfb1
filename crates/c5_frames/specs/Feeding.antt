-- What taking a piece of a log does.
use Rattle.std.specs.Prelude.{◌≡◌, ◌++◌, ℕ, List, Result, Ok, Err}
use Rattle.c5_definitions.specs.Items.{Reading, after_bytes, at_start, log_of}
use Rattle.c5_definitions.specs.declared.fault.LogFault.{LogFault}
use Rattle.c5_frames.specs.Log.{Log}
use Rattle.c5_frames.specs.declared.decoder.FeedFault.{FeedFault}
use Rattle.c5_frames.specs.declared.decoder.FeedFault.TheVariants as faults

-- the piece follows the bytes that were taken, which have no fault so far, or this one; or
-- nothing has changed
abbrev pub Feeds : {A : Type 0} → List ℕ → List ℕ → List ℕ → Result A FeedFault → Type 0
Feeds old piece new (Ok done) = (new ≡ old ++ piece) × (r : Reading)
    × (after_bytes at_start new ≡ Ok r)
Feeds old piece new (Err (faults.Log fault)) = (new ≡ old ++ piece)
    × (after_bytes at_start new ≡ Err fault)
Feeds old piece new (Err faults.NoMemory) = new ≡ old

-- the bytes are the log of these tables and transactions, or have this fault
abbrev pub FinishesLog : List ℕ → Result Log LogFault → Type 0
FinishesLog bytes (Ok log) = (log.bytes ≡ bytes)
    × (log_of bytes ≡ Ok (record { tables = log.tables; txns = log.txns }))
FinishesLog bytes (Err fault) = log_of bytes ≡ Err fault
