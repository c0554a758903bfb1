-- The versions of all rows, as a map from each version to its greatest reader.
use Rattle.std.specs.Prelude.{◌≡◌, ◌<◌, ◌≤◌, ◌==◌, ◌&&◌, ℕ, Bool, cond, max, List, ◌∷◌, ◌++◌}
use Rattle.std.specs.Prelude.{Option, Some, None, is_some, IsSome, unwrap_or}
use Rattle.std.specs.declared.cmp.Ordering.{Ordering}
use Rattle.std.specs.Ordering.{nat_cmp, ordering_then}
use Rattle.std.specs.BTreeMap.{BTreeMap, get, is_at}
use Rattle.std.specs.List.{All}
use Rattle.c5_rows.specs.declared.writes.RowName.{RowName}
use Rattle.c5_rows.specs.declared.writes.Write.{Write}
use Rattle.c5_rows.specs.Order.{row_name_cmp}
use Rattle.c5_definitions.specs.History.{writes_row}
use Rattle.c5_order.specs.declared.marks.VersionKey.{VersionKey}
use Rattle.c5_order.specs.declared.marks.Found.{Found}
use Rattle.c5_order.specs.declared.marks.LaterReader.{LaterReader}

-- by row, and then by stamp
abbrev pub version_key_cmp : VersionKey → VersionKey → Ordering
version_key_cmp a b = ordering_then (row_name_cmp a.name b.name) (nat_cmp a.wrote b.wrote)

abbrev pub version_key : RowName → ℕ → VersionKey
version_key name wrote = record { name = name; wrote = wrote }

-- the greatest reader of a version, if it has an entry
abbrev pub noted_mark : BTreeMap VersionKey ℕ → VersionKey → Option ℕ
noted_mark versions key = get version_key_cmp versions key

-- the version with the greatest stamp below s that has an entry, and 0 if none has
pub record IsMarkFoundBefore (versions : BTreeMap VersionKey ℕ) (name : RowName) (s : ℕ)
    (found : Found) : Type 0 where
  pub entry : found.wrote ≡ 0 → found.read_by
      ≡ unwrap_or (noted_mark versions (version_key name 0)) 0
  pub there : 1 ≤ found.wrote → (found.wrote < s)
      × (noted_mark versions (version_key name found.wrote) ≡ Some found.read_by)
  pub greatest : (w : ℕ) → w < s → IsSome (noted_mark versions (version_key name w))
      → w ≤ found.wrote

-- what is noted of a version once a stamp has read one
abbrev pub marked : VersionKey → ℕ → VersionKey → Option ℕ → Option ℕ
marked key stamp q old = cond (is_at (version_key_cmp key) q)
    (Some (max (unwrap_or old 0) stamp)) old

-- what is noted of a version once a stamp has written rows
abbrev pub mark_after_install : ℕ → List Write → VersionKey → Option ℕ → Option ℕ
mark_after_install stamp writes q old =
    cond (q.wrote == stamp && writes_row q.name writes) (Some 0) old

-- what is noted of a version once those that a stamp wrote are taken out
abbrev pub removed : ℕ → List Write → VersionKey → Option ℕ → Option ℕ
removed stamp writes q old = cond (q.wrote == stamp && writes_row q.name writes) None old

-- no stamp above s has read the version of the row that s sees
abbrev pub IsUnread : BTreeMap VersionKey ℕ → ℕ → Write → Type 0
IsUnread versions s write = (found : Found) × IsMarkFoundBefore versions write.name s found
    × (found.read_by ≤ s)

-- the version before s of the row of a write was read by a greater stamp, and those of the writes
-- before it by none
pub record IsFirstRead (versions : BTreeMap VersionKey ℕ) (s : ℕ) (writes : List Write)
    (later : LaterReader) : Type 0 where
  pub before : List Write
  pub write : Write
  pub rest : List Write
  pub is : writes ≡ before ++ write ∷ rest
  pub unread : All (IsUnread versions s) before
  pub row : write.name ≡ later.row
  pub found : Found
  pub found_is : IsMarkFoundBefore versions write.name s found
  pub reader : found.read_by ≡ later.reader
  pub above : s < later.reader
