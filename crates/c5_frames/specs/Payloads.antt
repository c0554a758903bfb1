-- What the check of a payload shows of what it holds.
use Rattle.std.specs.Prelude.{◌≡◌, ℕ, List, Result, Ok, Err}
use Rattle.c5_rows.specs.declared.tables.TableDef.{TableDef}
use Rattle.c5_rows.specs.declared.writes.RowName.{RowName}
use Rattle.c5_definitions.specs.declared.fault.LogKind.{LogKind}
use Rattle.c5_definitions.specs.Steps.{◌>>=◌}
use Rattle.c5_definitions.specs.Frames.{Frame, write, mark, end, write_at, frame_at}
use Rattle.c5_definitions.specs.Frames as frames
use Rattle.c5_frames.specs.declared.payload.Checked.{Checked}
use Rattle.c5_frames.specs.declared.payload.Checked.TheVariants as checked
use Rattle.c5_frames.specs.declared.payload.Mark.{Mark}
use Rattle.c5_frames.specs.declared.payload.NameRef.{NameRef}

-- a test fails if and only if reading does, with its kind
abbrev pub Passes : {X Y : Type 0} → Result X LogKind → Result Y LogKind → Type 0
Passes {X} {Y} (Ok x) read = (y : Y) × (read ≡ Ok y)
Passes (Err kind) read = read ≡ Err kind

-- the bytes after what was read
abbrev pub unread : {X : Type 0} → Result (X × List ℕ) LogKind → Result (List ℕ) LogKind
unread read = read >>= λ x. Ok x.1

-- the name of the write that follows the byte `W`
abbrev pub write_name_at : List TableDef → List ℕ → Result RowName LogKind
write_name_at tables bytes = write_at tables bytes >>= λ w. Ok w.name

-- what is shown of a payload: the name of a write, or the numbers of a mark
pub data Shown : Type 0 where
  shows_name : RowName → Shown
  marked : frames.Mark → Shown
  ended : ℕ → Shown

abbrev pub shown : Frame → Shown
shown (write w) = shows_name w.name
shown (mark m) = marked m
shown (end count) = ended count

-- the name of a write that a payload holds, or the numbers of a mark; or the kind of the first test
-- that fails
abbrev pub shown_at : List TableDef → List ℕ → Result Shown LogKind
shown_at tables payload = frame_at tables payload >>= λ frame. Ok (shown frame)

-- the numbers of a mark
abbrev pub numbers_of : Mark → frames.Mark
numbers_of m = record { script = m.script; stamp = m.stamp; count = m.count }

-- the name that a borrowed one shows
abbrev pub name_of : NameRef → RowName
name_of n = record { table = n.table; key = n.key.now }

abbrev pub shown_by : Checked → Shown
shown_by (checked.Write n) = shows_name (name_of n)
shown_by (checked.Mark m) = marked (numbers_of m)
shown_by (checked.End count) = ended count
