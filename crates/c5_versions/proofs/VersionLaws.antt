-- What a stamp finds in versions that were marked or put: for the crates that call this one.
use Rattle.std.specs.Option.{unwrap_or}
use Rattle.std.proofs.Common.{get_or, ◌≡◌, ◌<◌, ◌≤◌, ℕ, zero, suc, Bool, true, false, cond, List}
use Rattle.std.proofs.Common.{[], ◌∷◌, Option, Some, None, map, option_map, ltb, inl, inr, refl, ap}
use Rattle.std.proofs.Common.{◌∙◌, arith, lt-ltb, le-ltb}
use Rattle.std.specs.List.{All, Contains}
use Rattle.std.proofs.lemmas.Bool.{cases_lt}
use Rattle.std.proofs.lemmas.List.Elements.{All-cons, All-tail}
use Rattle.c5_versions.specs.declared.versions.Version.{Version}
use Rattle.c5_versions.specs.Versions.{AscendsByStamp, version_before, with_reader, mark_version}
use Rattle.c5_versions.specs.Versions.{put_version}
use Rattle.c5_versions.proofs.VersionLemmas.{first_below, version_before-none, with_reader-wrote}

-- the greatest of those below the stamp is the one that is found
pub version_before-is : (stamp : ℕ) (versions : List Version) (x : Version)
    → AscendsByStamp versions → Contains versions x → x.wrote < stamp
    → All (λ v. v.wrote < stamp → v.wrote ≤ x.wrote) versions
    → version_before stamp versions ≡ Some x
version_before-is stamp [] x up (k, lt, is) below greatest = absurd (omega arith)
version_before-is stamp (version ∷ versions) x up (zero, lt, is) below greatest =
    let e : ltb version.wrote stamp ≡ true =
    lt-ltb version.wrote stamp (omega (arith, ap (λ v. v.wrote) is)) in
    let none : version_before stamp versions ≡ None =
    version_before-none stamp versions
    (λ k d p q. elim (cases_lt (get_or versions k d).wrote stamp) [
      | inl under ↦ absurd
          (omega (
            arith,
            greatest (suc k) d (omega arith) under,
            ap (λ v. v.wrote) is,
            first_below version.wrote versions up.0 up.1 k d q,
          ))
      | inr le ↦ le
    ]) in
    rw (e, none) (ap Some is)
version_before-is stamp (version ∷ versions) x up (suc k, lt, is) below greatest =
    let e : ltb version.wrote stamp ≡ true =
    lt-ltb version.wrote stamp
    (omega (
      arith,
      ap (λ v. v.wrote) is,
      first_below version.wrote versions up.0 up.1 k x (omega arith),
    )) in
    let found : version_before stamp versions ≡ Some x =
    version_before-is stamp versions x up.1 (k, omega arith, is) below
    (All-tail (λ v. v.wrote < stamp → v.wrote ≤ x.wrote) version versions greatest) in
    rw (e, found) refl

map_found : (f : Version → Version) (version : Version) (b : Bool) (o : Option Version)
    → cond b (Some (unwrap_or (option_map f o) (f version))) None
    ≡ option_map f (cond b (Some (unwrap_or o version)) None)
map_found f version true None = refl
map_found f version true (Some found) = refl
map_found f version false o = refl

-- a function that keeps each stamp changes what is found and not which
pub version_before-map : (f : Version → Version) → ((v : Version) → (f v).wrote ≡ v.wrote)
    → (stamp : ℕ) (versions : List Version)
    → version_before stamp (map f versions) ≡ option_map f (version_before stamp versions)
version_before-map f keeps stamp [] = refl
version_before-map f keeps stamp (version ∷ versions) =
    ap (λ n. cond (ltb n stamp)
    (Some (unwrap_or (version_before stamp (map f versions)) (f version))) None) (keeps version)
    ∙ ap (λ o. cond (ltb version.wrote stamp) (Some (unwrap_or o (f version))) None)
    (version_before-map f keeps stamp versions)
    ∙ map_found f version (ltb version.wrote stamp) (version_before stamp versions)

pub version_before-mark : (stamp reader : ℕ) (versions : List Version)
    → version_before stamp (mark_version reader versions)
    ≡ option_map (with_reader reader (version_before reader versions))
    (version_before stamp versions)
version_before-mark stamp reader versions =
    version_before-map (with_reader reader (version_before reader versions))
    (with_reader-wrote reader (version_before reader versions)) stamp versions

-- a version that isn't below the stamp isn't found by it
pub version_before-put_above : (stamp : ℕ) (new : Version) (versions : List Version)
    → stamp ≤ new.wrote → version_before stamp (put_version new versions)
    ≡ version_before stamp versions
version_before-put_above stamp new [] le = rw (le-ltb new.wrote stamp le) refl
version_before-put_above stamp new (version ∷ versions) le =
    elim (cases_lt new.wrote version.wrote) [
      | inl lt ↦ rw (
        lt-ltb new.wrote version.wrote lt,
        le-ltb new.wrote stamp le,
        le-ltb version.wrote stamp (omega arith),
      ) refl
      | inr not_below ↦ rw (
        le-ltb new.wrote version.wrote not_below,
        version_before-put_above stamp new versions le,
      ) refl
    ]

-- one above each that was below the stamp is found from now on
pub version_before-put_new : (stamp : ℕ) (new : Version) (versions : List Version)
    → new.wrote < stamp → All (λ v. v.wrote < stamp → v.wrote < new.wrote) versions
    → version_before stamp (put_version new versions) ≡ Some new
version_before-put_new stamp new [] lt above = rw (lt-ltb new.wrote stamp lt) refl
version_before-put_new stamp new (version ∷ versions) lt above =
    elim (cases_lt new.wrote version.wrote) [
      | inl under ↦
          let not_below : stamp ≤ version.wrote = elim (cases_lt version.wrote stamp) [
            | inl below ↦ absurd (omega (arith, above 0 version (omega arith) below))
            | inr le ↦ le
          ] in
          rw (
            lt-ltb new.wrote version.wrote under,
            lt-ltb new.wrote stamp lt,
            le-ltb version.wrote stamp not_below,
          ) refl
      | inr le ↦ rw (
        le-ltb new.wrote version.wrote le,
        lt-ltb version.wrote stamp (omega arith),
        version_before-put_new stamp new versions lt
            (All-tail (λ v. v.wrote < stamp → v.wrote < new.wrote) version versions above),
      ) refl
    ]

put_under : (stamp : ℕ) (new version x : Version) (versions : List Version) (o : Option Version)
    → version_before stamp versions ≡ o → Some (unwrap_or o version) ≡ Some x
    → version.wrote ≤ new.wrote → new.wrote < x.wrote → version_before stamp versions ≡ Some x
put_under stamp new version x versions None e is le lt =
    absurd (let same : version ≡ x = cc in omega (arith, ap (λ v. v.wrote) same))
put_under stamp new version x versions (Some found) e is le lt = e ∙ is

-- one below the version that the stamp finds isn't found by it
pub version_before-put_old : (stamp : ℕ) (new x : Version) (versions : List Version)
    → version_before stamp versions ≡ Some x → new.wrote < x.wrote → x.wrote < stamp
    → version_before stamp (put_version new versions) ≡ Some x
version_before-put_old stamp new x [] found lt below = absurd cc
version_before-put_old stamp new x (version ∷ versions) found lt below =
    elim (cases_lt new.wrote version.wrote) [
      | inl under ↦ rw (lt-ltb new.wrote version.wrote under, lt-ltb new.wrote stamp (omega arith))
          (rw found refl)
      | inr le ↦
          let e : ltb version.wrote stamp ≡ true = lt-ltb version.wrote stamp (omega arith) in
          let is : Some (unwrap_or (version_before stamp versions) version) ≡ Some x =
          rw e at found in
          let rest = version_before-put_old stamp new x versions
          (put_under stamp new version x versions (version_before stamp versions) refl is le lt)
          lt below in
          rw (le-ltb new.wrote version.wrote le, e, rest) refl
    ]

-- what holds of a version and of each other holds of each once it was put
pub All-put : (P : Version → Type 0) (new : Version) (versions : List Version) → P new
    → All P versions → All P (put_version new versions)
All-put P new [] here each = All-cons P new [] here each
All-put P new (version ∷ versions) here each =
    elim (ltb new.wrote version.wrote) as
    (λ b. All P (cond b (new ∷ version ∷ versions) (version ∷ put_version new versions))) [
      | true ↦ All-cons P new (version ∷ versions) here each
      | false ↦ All-cons P version (put_version new versions) (each 0 version (omega arith))
          (All-put P new versions here (All-tail P version versions each))
    ]
