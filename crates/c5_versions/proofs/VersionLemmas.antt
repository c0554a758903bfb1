-- Versions found, marked and put in their place.
use Rattle.std.proofs.Common.{◌≡◌, ◌<◌, ◌≤◌, ◌==◌, ◌+◌, ℕ, zero, suc, true, false, cond, List, []}
use Rattle.std.proofs.Common.{◌∷◌, Option, Some, None, length, map, set, get_or, max, ltb, eqb, inl}
use Rattle.std.proofs.Common.{inr, refl, ap, sym, ◌∙◌, arith, lt-ltb, le-ltb, eq-eqb, ne_eqb}
use Rattle.std.specs.Prelude.{insert}
use Rattle.std.specs.List.{All, AllWithin}
use Rattle.std.proofs.lemmas.Bool.{cases_lt, cases_order}
use Rattle.std.proofs.lemmas.List.Elements.{All-tail}
use Rattle.c5_versions.specs.declared.versions.Version.{Version}
use Rattle.c5_versions.specs.Versions.{IsBelowFirstStamp, AscendsByStamp, BeginsAtZero, IsVersions}
use Rattle.c5_versions.specs.Versions.{version_before, with_reader, mark_version, put_version}

-- ---- the order

-- a stamp below the first is below each
pub first_below : (stamp : ℕ) (versions : List Version) → IsBelowFirstStamp stamp versions
    → AscendsByStamp versions → (k : ℕ) (d : Version) → k < length versions
    → stamp < (get_or versions k d).wrote
first_below stamp [] below up k d lt = absurd (omega arith)
first_below stamp (version ∷ versions) below up zero d lt = below
first_below stamp (version ∷ versions) below up (suc k) d lt =
    omega (arith, below, first_below version.wrote versions up.0 up.1 k d (omega arith))

-- of two versions the earlier one has the smaller stamp
pub far_below : (versions : List Version) (i j : ℕ) (d e : Version) → AscendsByStamp versions
    → i < j → j < length versions → (get_or versions i d).wrote < (get_or versions j e).wrote
far_below [] i j d e up lt within = absurd (omega arith)
far_below (version ∷ versions) i zero d e up lt within = absurd (omega arith)
far_below (version ∷ versions) zero (suc j) d e up lt within =
    first_below version.wrote versions up.0 up.1 j e (omega arith)
far_below (version ∷ versions) (suc i) (suc j) d e up lt within =
    far_below versions i j d e up.1 (omega arith) (omega arith)

pub not_above : (versions : List Version) (i j : ℕ) (d e : Version) → AscendsByStamp versions
    → i ≤ j → j < length versions → (get_or versions i d).wrote ≤ (get_or versions j e).wrote
not_above [] i j d e up le within = absurd (omega arith)
not_above (version ∷ versions) zero zero d e up le within = omega arith
not_above (version ∷ versions) (suc i) zero d e up le within = absurd (omega arith)
not_above (version ∷ versions) zero (suc j) d e up le within =
    omega (arith, far_below (version ∷ versions) zero (suc j) d e up (omega arith) within)
not_above (version ∷ versions) (suc i) (suc j) d e up le within =
    not_above versions i j d e up.1 (omega arith) (omega arith)

-- if the first stamp is 0, some stamp is below one that is not
pub some_below : (stamp : ℕ) (versions : List Version) (n : ℕ) → BeginsAtZero versions → 1 ≤ stamp
    → AllWithin (λ v. stamp ≤ v.wrote) versions n (length versions) → 1 ≤ n
some_below stamp [] n begins positive high = absurd begins
some_below stamp (version ∷ versions) zero begins positive high =
    absurd (omega (arith, begins, high 0 version (omega arith) (omega arith)))
some_below stamp (version ∷ versions) (suc n) begins positive high = omega arith

-- ---- a version that is found

pub version_before-none : (stamp : ℕ) (versions : List Version)
    → AllWithin (λ v. stamp ≤ v.wrote) versions 0 (length versions)
    → version_before stamp versions ≡ None
version_before-none stamp [] high = refl
version_before-none stamp (version ∷ versions) high =
    let e : ltb version.wrote stamp ≡ false =
    le-ltb version.wrote stamp (high 0 version (omega arith) (omega arith)) in
    rw e refl

pub version_before-at : (stamp : ℕ) (versions : List Version) (i : ℕ) (d : Version)
    → i < length versions → AllWithin (λ v. v.wrote < stamp) versions 0 (i + 1)
    → AllWithin (λ v. stamp ≤ v.wrote) versions (i + 1) (length versions)
    → version_before stamp versions ≡ Some (get_or versions i d)
version_before-at stamp [] i d lt low high = absurd (omega arith)
version_before-at stamp (version ∷ versions) zero d lt low high =
    let e : ltb version.wrote stamp ≡ true =
    lt-ltb version.wrote stamp (low 0 version (omega arith) (omega arith)) in
    let none : version_before stamp versions ≡ None =
    version_before-none stamp versions
    (λ k d p q. high (suc k) d (omega arith) (omega arith)) in
    rw (e, none) refl
version_before-at stamp (version ∷ versions) (suc i) d lt low high =
    let e : ltb version.wrote stamp ≡ true =
    lt-ltb version.wrote stamp (low 0 version (omega arith) (omega arith)) in
    let found : version_before stamp versions ≡ Some (get_or versions i d) =
    version_before-at stamp versions i d (omega arith)
    (λ k d p q. low (suc k) d (omega arith) (omega arith))
    (λ k d p q. high (suc k) d (omega arith) (omega arith)) in
    rw (e, found) refl

-- no other version below the stamp is above the last of them
pub greatest_at : (stamp : ℕ) (versions : List Version) (i : ℕ) (d : Version)
    → AscendsByStamp versions → i < length versions
    → AllWithin (λ v. stamp ≤ v.wrote) versions (i + 1) (length versions)
    → All (λ v. v.wrote < stamp → v.wrote ≤ (get_or versions i d).wrote) versions
greatest_at stamp versions i d up lt high k e within below =
    elim (cases_lt i k) [
      | inl after ↦ absurd (omega (arith, below, high k e (omega arith) within))
      | inr le ↦ not_above versions k i e d up le lt
    ]

-- ---- a version that is marked

map_none : (f : Version → Version) (versions : List Version)
    → ((k : ℕ) (d : Version) → k < length versions → f (get_or versions k d) ≡ get_or versions k d)
    → map f versions ≡ versions
map_none f [] stays = refl
map_none f (version ∷ versions) stays =
    rw (stays 0 version (omega arith), map_none f versions (λ k d p. stays (suc k) d (omega arith)))
    refl

-- a function that changes one version alone
map_at : (f : Version → Version) (versions : List Version) (i : ℕ) (d : Version)
    → i < length versions
    → ((k : ℕ) (e : Version) → k < length versions → (k ≡ i → ⊥)
    → f (get_or versions k e) ≡ get_or versions k e)
    → set versions i (f (get_or versions i d)) ≡ map f versions
map_at f [] i d lt stays = absurd (omega arith)
map_at f (version ∷ versions) zero d lt stays =
    ap (λ vs. f version ∷ vs)
    (sym (map_none f versions
    (λ k e p. stays (suc k) e (omega arith) (λ q. absurd (omega arith)))))
map_at f (version ∷ versions) (suc i) d lt stays =
    rw (stays 0 version (omega arith) (λ q. absurd (omega arith)))
    (ap (λ vs. version ∷ vs)
    (map_at f versions i d (omega arith)
    (λ k e p apart. stays (suc k) e (omega arith) (λ q. apart (omega arith)))))

pub mark_version-at : (stamp : ℕ) (versions : List Version) (i : ℕ) (x : Version)
    → AscendsByStamp versions → i < length versions → x ≡ get_or versions i x
    → version_before stamp versions ≡ Some x
    → set versions i (record x { read_by = max x.read_by stamp }) ≡ mark_version stamp versions
mark_version-at stamp versions i x up lt is found =
    let f : Version → Version = with_reader stamp (Some x) in
    let other : (k : ℕ) (e : Version) → k < length versions → (k ≡ i → ⊥)
    → f (get_or versions k e) ≡ get_or versions k e = λ k e within apart.
    let differ : eqb (get_or versions k e).wrote x.wrote ≡ false =
    ne_eqb _ _ (λ same. elim (cases_order k i) [
      | inl eq ↦ apart eq
      | inr (inl before) ↦ omega
          (arith, same, ap (λ v. v.wrote) is, far_below versions k i e x up before lt)
      | inr (inr after) ↦ omega
          (arith, same, ap (λ v. v.wrote) is, far_below versions i k x e up after within)
    ]) in
    rw differ refl in
    let here : f x ≡ record x { read_by = max x.read_by stamp } =
    rw (eq-eqb x.wrote x.wrote refl) refl in
    rw found (ap (λ v. set versions i v) (sym here ∙ ap f is) ∙ map_at f versions i x lt other)

pub with_reader-wrote : (stamp : ℕ) (found : Option Version) (version : Version)
    → (with_reader stamp found version).wrote ≡ version.wrote
with_reader-wrote stamp None version = refl
with_reader-wrote stamp (Some found) version =
    elim (version.wrote == found.wrote) as
    (λ b. (cond b (record version { read_by = max version.read_by stamp }) version).wrote
    ≡ version.wrote) [ true ↦ refl | false ↦ refl ]

BeginsAtZero-map : (f : Version → Version) → ((v : Version) → (f v).wrote ≡ v.wrote)
    → (versions : List Version) → BeginsAtZero versions → BeginsAtZero (map f versions)
BeginsAtZero-map f keeps [] begins = begins
BeginsAtZero-map f keeps (version ∷ versions) begins = keeps version ∙ begins

IsAscending-map : (f : Version → Version) → ((v : Version) → (f v).wrote ≡ v.wrote)
    → (versions : List Version) → AscendsByStamp versions → AscendsByStamp (map f versions)
IsAscending-map f keeps [] up = tt
IsAscending-map f keeps (version ∷ []) up = (tt, tt)
IsAscending-map f keeps (version ∷ next ∷ versions) up =
    (omega (arith, up.0, keeps version, keeps next), IsAscending-map f keeps (next ∷ versions) up.1)

pub IsVersions-mark : (stamp : ℕ) (versions : List Version) → IsVersions versions
    → IsVersions (mark_version stamp versions)
IsVersions-mark stamp versions h =
    let keeps = with_reader-wrote stamp (version_before stamp versions) in
    let f = with_reader stamp (version_before stamp versions) in
    record {
      begins = BeginsAtZero-map f keeps versions h.begins;
      ascending = IsAscending-map f keeps versions h.ascending;
    }

-- ---- a version that is put in its place

pub put_version-gap : (new : Version) (versions : List Version) (i : ℕ) → i ≤ length versions
    → AllWithin (λ v. v.wrote < new.wrote) versions 0 i
    → AllWithin (λ v. new.wrote ≤ v.wrote) versions i (length versions)
    → All (λ v. ¬ (v.wrote ≡ new.wrote)) versions → insert versions i new ≡ put_version new versions
put_version-gap new [] zero le low high absent = refl
put_version-gap new [] (suc i) le low high absent = absurd (omega arith)
put_version-gap new (version ∷ versions) zero le low high absent =
    let at_most = high 0 version (omega arith) (omega arith) in
    let apart = absent 0 version (omega arith) in
    let e : ltb new.wrote version.wrote ≡ true = lt-ltb new.wrote version.wrote (omega arith) in
    rw e refl
put_version-gap new (version ∷ versions) (suc i) le low high absent =
    let below = low 0 version (omega arith) (omega arith) in
    let e : ltb new.wrote version.wrote ≡ false = le-ltb new.wrote version.wrote (omega arith) in
    rw e (ap (λ vs. version ∷ vs)
    (put_version-gap new versions i (omega arith)
    (λ k d p q. low (suc k) d (omega arith) (omega arith))
    (λ k d p q. high (suc k) d (omega arith) (omega arith))
    (All-tail (λ v. ¬ (v.wrote ≡ new.wrote)) version versions absent)))

below_put : (stamp : ℕ) (new : Version) (versions : List Version) → IsBelowFirstStamp stamp versions
    → stamp < new.wrote → IsBelowFirstStamp stamp (put_version new versions)
below_put stamp new [] below lt = lt
below_put stamp new (version ∷ versions) below lt =
    elim (ltb new.wrote version.wrote) as
    (λ b. IsBelowFirstStamp stamp
    (cond b (new ∷ version ∷ versions) (version ∷ put_version new versions)))
    [ true ↦ lt | false ↦ below ]

IsAscending-put : (new : Version) (versions : List Version)
    → All (λ v. ¬ (v.wrote ≡ new.wrote)) versions → AscendsByStamp versions
    → AscendsByStamp (put_version new versions)
IsAscending-put new [] absent up = (tt, tt)
IsAscending-put new (version ∷ versions) absent up =
    let apart = absent 0 version (omega arith) in
    elim (cases_lt new.wrote version.wrote) [
      | inl lt ↦ rw (lt-ltb new.wrote version.wrote lt) (lt, up)
      | inr le ↦ rw (le-ltb new.wrote version.wrote le) (
        below_put version.wrote new versions up.0 (omega arith),
        IsAscending-put new versions
            (All-tail (λ v. ¬ (v.wrote ≡ new.wrote)) version versions absent) up.1,
      )
    ]

BeginsAtZero-put : (new : Version) (versions : List Version) → 1 ≤ new.wrote → BeginsAtZero versions
    → BeginsAtZero (put_version new versions)
BeginsAtZero-put new [] positive begins = absurd begins
BeginsAtZero-put new (version ∷ versions) positive begins =
    let e : ltb new.wrote version.wrote ≡ false =
    le-ltb new.wrote version.wrote (omega (arith, begins)) in
    rw e begins

pub IsVersions-put : (new : Version) (versions : List Version) → 1 ≤ new.wrote
    → All (λ v. ¬ (v.wrote ≡ new.wrote)) versions → IsVersions versions
    → IsVersions (put_version new versions)
IsVersions-put new versions positive absent h =
    record {
      begins = BeginsAtZero-put new versions positive h.begins;
      ascending = IsAscending-put new versions absent h.ascending;
    }
