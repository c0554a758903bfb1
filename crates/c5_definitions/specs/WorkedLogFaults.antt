-- Faults that were worked out by hand: the log of one transaction, with one thing changed.
use Rattle.std.specs.Prelude.{◌≡◌, ℕ, List, [], ◌∷◌, ◌++◌, take, drop, set, replicate, Some}
use Rattle.std.specs.List.{AllByRecursion}
use Rattle.c5_definitions.specs.declared.fault.LogKind.{LogKind}
use Rattle.c5_definitions.specs.declared.fault.LogKind.TheVariants.{Magic, Header, Length, Kind}
use Rattle.c5_definitions.specs.declared.fault.LogKind.TheVariants.{Table, Key, Cell, Order, Stamp}
use Rattle.c5_definitions.specs.declared.fault.LogKind.TheVariants.{Count, End, Cut, After}
use Rattle.c5_definitions.specs.Worked.{worked_bytes, text_bytes}
use Rattle.c5_definitions.specs.Items.{log_fault_of}

-- the header of the worked log, of 12 bytes
abbrev pub header : List ℕ
header = take 12 worked_bytes

-- the frame of a put of 0 under a key of one byte, of 17 bytes
abbrev pub put_frame : ℕ → List ℕ
put_frame key = 0 ∷ 0 ∷ 0 ∷ 13 ∷ 0x57 ∷ 0 ∷ 1 ∷ key ∷ 0 ∷ replicate 8 0

-- two tables `a` of one Int column
abbrev pub two_tables : List ℕ
two_tables = take 4 worked_bytes ++ 2 ∷ 1 ∷ 0x61 ∷ 1 ∷ 1 ∷ 1 ∷ 0x61 ∷ 1 ∷ 1 ∷ []

-- bytes, and the offset and the kind of their first fault
pub record Faulty : Type 0 where
  pub bytes : List ℕ
  pub offset : ℕ
  pub kind : LogKind

-- each has its fault
abbrev pub HaveFaults : List Faulty → Type 0
HaveFaults =
    AllByRecursion (λ faulty. log_fault_of faulty.bytes
    ≡ Some (record { offset = faulty.offset; kind = faulty.kind }))

-- bytes whose header is faulty
abbrev pub header_faults : List Faulty
header_faults =
    record { bytes = set worked_bytes 3 0x32; offset = 0; kind = Magic } ∷  -- version 2
    record { bytes = set worked_bytes 4 0; offset = 4; kind = Header } ∷  -- no table
    record { bytes = set worked_bytes 4 17; offset = 4; kind = Header } ∷  -- 17 tables
    record { bytes = set worked_bytes 5 0; offset = 5; kind = Header } ∷  -- a name of no byte
    record { bytes = set worked_bytes 5 17; offset = 5; kind = Header } ∷  -- a name of 17 bytes
    -- a name with a capital letter
    record { bytes = set worked_bytes 9 0x54; offset = 6; kind = Header } ∷
    record { bytes = two_tables; offset = 10; kind = Header } ∷  -- two tables of one name
    record { bytes = set worked_bytes 10 0; offset = 10; kind = Header } ∷  -- no column
    record { bytes = set worked_bytes 10 9; offset = 10; kind = Header } ∷  -- 9 columns
    record { bytes = set worked_bytes 11 3; offset = 11; kind = Header } ∷  -- a type 3
    []

-- bytes of which a frame is faulty by itself
abbrev pub frame_faults : List Faulty
frame_faults =
    -- a length past 300, without its payload
    record { bytes = header ++ 0xFF ∷ 0xFF ∷ 0xFF ∷ 0xFF ∷ []; offset = 12; kind = Length } ∷
    -- a length of 301
    record { bytes = header ++ 0 ∷ 0 ∷ 1 ∷ 0x2D ∷ []; offset = 12; kind = Length } ∷
    record { bytes = header ++ 0 ∷ 0 ∷ 0 ∷ 4 ∷ []; offset = 12; kind = Length } ∷  -- a length of 4
    -- a payload that begins with `X`
    record {
      bytes = header ++ 0 ∷ 0 ∷ 0 ∷ 5 ∷ 0x58 ∷ 0 ∷ 0 ∷ 0 ∷ 0 ∷ [];
      offset = 12;
      kind = Kind;
    } ∷
    -- a commit mark of 16 bytes
    record { bytes = set worked_bytes 32 16; offset = 29; kind = Length } ∷
    record { bytes = set worked_bytes 17 1; offset = 12; kind = Table } ∷  -- table 1 of one table
    record { bytes = set worked_bytes 18 0; offset = 12; kind = Key } ∷  -- a key of no byte
    record { bytes = set worked_bytes 18 11; offset = 12; kind = Key } ∷  -- a key past the payload
    record { bytes = set worked_bytes 19 0x20; offset = 12; kind = Key } ∷  -- a key with a blank
    record { bytes = set worked_bytes 20 2; offset = 12; kind = Cell } ∷  -- an op byte 02
    -- cells after the op byte 01
    record { bytes = set worked_bytes 20 1; offset = 12; kind = Cell } ∷
    -- a cell that lacks a byte
    record { bytes = set worked_bytes 15 12; offset = 12; kind = Cell } ∷
    record { bytes = set text_bytes 19 33; offset = 10; kind = Cell } ∷  -- a text past the payload
    []

-- bytes of which a frame is faulty at its place
abbrev pub place_faults : List Faulty
place_faults =
    -- key `a` after key `b`
    record { bytes = header ++ put_frame 0x62 ++ put_frame 0x61; offset = 29; kind = Order } ∷
    -- the same key twice
    record { bytes = header ++ put_frame 0x61 ++ put_frame 0x61; offset = 29; kind = Order } ∷
    -- a stamp of 0
    record { bytes = header ++ 0 ∷ 0 ∷ 0 ∷ 17 ∷ 0x43 ∷ replicate 16 0; offset = 12; kind = Stamp } ∷
    -- a stamp of 0 and a wrong count
    record {
      bytes = header ++ 0 ∷ 0 ∷ 0 ∷ 17 ∷ 0x43 ∷ replicate 15 0 ++ 1 ∷ [];
      offset = 12;
      kind = Stamp;
    } ∷
    -- key `a` after key `b`, with an op byte 02
    record {
      bytes = header ++ put_frame 0x62 ++ set (put_frame 0x61) 8 2;
      offset = 29;
      kind = Cell;
    } ∷
    -- a count of 2 after one write
    record { bytes = set worked_bytes 49 2; offset = 29; kind = Count } ∷
    -- the number 2 after one commit mark
    record { bytes = set worked_bytes 58 2; offset = 50; kind = End } ∷
    -- an end mark after a write
    record { bytes = take 29 worked_bytes ++ drop 50 worked_bytes; offset = 29; kind = End } ∷
    record { bytes = worked_bytes ++ 0 ∷ []; offset = 59; kind = After } ∷  -- a byte more
    -- a wrong number and a byte more
    record { bytes = set worked_bytes 58 2 ++ 0 ∷ []; offset = 50; kind = End } ∷
    []

-- bytes of which some are missing
abbrev pub cut_faults : List Faulty
cut_faults =
    record { bytes = []; offset = 0; kind = Cut } ∷  -- no bytes
    -- a wrong magic that is short
    record { bytes = 0x58 ∷ 0x58 ∷ 0x58 ∷ []; offset = 0; kind = Cut } ∷
    record { bytes = take 11 worked_bytes; offset = 11; kind = Cut } ∷  -- no type of the column
    record { bytes = header; offset = 12; kind = Cut } ∷  -- a header alone
    record { bytes = take 28 worked_bytes; offset = 12; kind = Cut } ∷  -- a write that lacks a byte
    record { bytes = take 32 worked_bytes; offset = 29; kind = Cut } ∷  -- three bytes of a length
    -- an end mark that lacks a byte
    record { bytes = take 58 worked_bytes; offset = 50; kind = Cut } ∷
    []
