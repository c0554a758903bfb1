-- How a buffer holds a log.
use Rattle.c5_frames.specs.declared.buffer.LogBuffer.TheInside.{Inside}
use Rattle.c5_frames.specs.Log.{Log}
use Rattle.c5_frames.specs.Holding.{txns_in, HoldsLog}

abbrev pub log_in : Inside → Log
log_in b = record { bytes = b.bytes.items; tables = b.schema; txns = txns_in b.bytes.items }

abbrev pub IsBuffer : Inside → Type 0
IsBuffer b = HoldsLog b.bytes.items b.schema b.index
