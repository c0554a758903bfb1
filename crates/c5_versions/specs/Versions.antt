-- The versions of one row, and which of them a stamp finds.
use Rattle.std.specs.Prelude.{◌≡◌, ◌<◌, ◌==◌, ℕ, List, [], ◌∷◌, Option, Some, None, if◌then◌else◌}
use Rattle.std.specs.Prelude.{map, max, nat_lt, unwrap_or}
use Rattle.c5_rows.specs.Ascending.{IsBelowFirstBy, IsAscendingBy}
use Rattle.c5_versions.specs.declared.versions.Version.{Version}

-- the versions, and how many more can be inserted without memory
pub record VersionList : Type 0 where
  pub versions : List Version
  pub spare : ℕ

-- the first of the versions, if there is one, was written above this stamp
abbrev pub IsBelowFirstStamp : ℕ → List Version → Type 0
IsBelowFirstStamp = IsBelowFirstBy ◌<◌ (λ version. version.wrote)

-- each was written above the one before it
abbrev pub AscendsByStamp : List Version → Type 0
AscendsByStamp = IsAscendingBy ◌<◌ (λ version. version.wrote)

-- there is a first one, and it was written at 0
abbrev pub BeginsAtZero : List Version → Type 0
BeginsAtZero [] = ⊥
BeginsAtZero (version ∷ versions) = version.wrote ≡ 0

-- what the versions of a row are at all times
pub record IsVersions (versions : List Version) : Type 0 where
  pub begins : BeginsAtZero versions
  pub ascending : AscendsByStamp versions

-- the version with the greatest `wrote` below the stamp, if they ascend
abbrev pub version_before : ℕ → List Version → Option Version
version_before stamp [] = None
version_before stamp (version ∷ versions) =
    if nat_lt version.wrote stamp then Some (unwrap_or (version_before stamp versions) version)
    else None

-- the version that was found has been read by the stamp; any other one stays
abbrev pub with_reader : ℕ → Option Version → Version → Version
with_reader stamp None version = version
with_reader stamp (Some found) version = if version.wrote == found.wrote
    then record version { read_by = max version.read_by stamp } else version

-- the one before the stamp has been read by it
abbrev pub mark_version : ℕ → List Version → List Version
mark_version stamp versions = map (with_reader stamp (version_before stamp versions)) versions

-- a version in its place among others that ascend
abbrev pub put_version : Version → List Version → List Version
put_version new [] = new ∷ []
put_version new (version ∷ versions) = if nat_lt new.wrote version.wrote
    then new ∷ version ∷ versions else version ∷ put_version new versions
