-- What holds of every history that timestamp ordering allows.
use Rattle.std.proofs.Common.{◌≡◌, ◌<◌, ◌≤◌, ◌+◌, ◌^◌, ◌⊎◌, ℕ, zero, suc, Bool, true, false, cond}
use Rattle.std.proofs.Common.{not, ◌&&◌, ◌||◌, max, eqb, ltb, true≢false, List, [], ◌∷◌, ◌++◌}
use Rattle.std.proofs.Common.{length, map, get_or, Option, Some, None, inl, inr, refl, ap, sym}
use Rattle.std.proofs.Common.{subst, ◌∙◌, append_assoc, arith}
use Rattle.std.specs.FinMap.{get}
use Rattle.std.specs.List.{All, Contains, filter, flat_map}
use Rattle.std.specs.Map.{lookup}
use Rattle.std.specs.Ordering.{is_eq}
use Rattle.std.proofs.lemmas.Bool.{cases_Bool, cases_lt, cases_eq, and_parts, or_parts, not-true}
use Rattle.std.proofs.lemmas.Bool.{ltb-true, lt-ltb, eqb-true, eqb-false, eq-eqb, ne_eqb, both_ways}
use Rattle.std.proofs.lemmas.List.{append-nil}
use Rattle.std.proofs.lemmas.List.Concat.{flat_map-append}
use Rattle.std.proofs.lemmas.List.Elements.{All-nil, All-cons, All-head, All-tail, All-append}
use Rattle.std.proofs.lemmas.List.Elements.{All-push, All-weaker, All-contains, All-contains_itself}
use Rattle.std.proofs.lemmas.List.Elements.{All-filter, filter_passes, filter-append}
use Rattle.std.proofs.lemmas.List.Elements.{Contains-append_left, Contains-append_right}
use Rattle.std.proofs.lemmas.List.Elements.{Contains-push, Contains-push_cases}
use Rattle.c5_rows.specs.declared.cells.Cell.{Cell}
use Rattle.c5_rows.specs.declared.writes.RowName.{RowName}
use Rattle.c5_rows.specs.declared.writes.Write.{Write}
use Rattle.c5_rows.specs.Order.{row_name_cmp, row_name_cmp_exact}
use Rattle.c5_rows.specs.State.{State}
use Rattle.c5_rows.specs.Writes.{IsAscending}
use Rattle.c5_definitions.specs.declared.history.Entry.{Entry}
use Rattle.c5_definitions.specs.declared.history.Event.{Event}
use Rattle.c5_definitions.specs.declared.history.Event.TheVariants.{Begin, Read, Commit as Commits}
use Rattle.c5_definitions.specs.declared.history.Event.TheVariants.{Cancel}
use Rattle.c5_definitions.specs.declared.history.OrderBase.{OrderBase}
use Rattle.c5_definitions.specs.Follows.{Follows}
use Rattle.c5_definitions.specs.SerialRun.{body_at}
use Rattle.c5_definitions.specs.History.{Begun, VersionRead, begun_in, committed_in, ended_in}
use Rattle.c5_definitions.specs.History.{begun, commits, ended_stamps, open_txns, last_begun}
use Rattle.c5_definitions.specs.History.{last_stamp, writes_row, version_in, version_at, left_by}
use Rattle.c5_definitions.specs.History.{row_of_version, row_seen, read_in, reads_from, reads}
use Rattle.c5_definitions.specs.History.{answered}
use Rattle.c5_rows.specs.Numbers.{is_among}
use Rattle.c5_definitions.specs.OrderLog.{Conflict, reads_version, conflicts_on, conflicts, IsOpen}
use Rattle.c5_definitions.specs.OrderLog.{IsOutcome, BeginsNext, Allows, AllowsFrom, IsOrderHistory}
use Rattle.c5_order.proofs.Versions.{Commit, seen, version_in-push_no, version_in-push_yes}
use Rattle.c5_order.proofs.Versions.{version_in-attained, version_in-narrow, contains-head}
use Rattle.c5_order.proofs.Versions.{contains-tail, lookup-contains, lookup-more, lookup-push}
use Rattle.c5_order.proofs.Versions.{lookup-none}

-- ---- one more entry

abbrev pub entry : ℕ → ℕ → Event → Entry
entry caller stamp event = record { caller = caller; stamp = stamp; event = event }

pub begun-push : (h : List Entry) (caller stamp : ℕ) (event : Event)
    → begun (h ++ entry caller stamp event ∷ []) ≡ begun h ++ begun_in caller stamp event
unfolding begun
begun-push h caller stamp event =
    flat_map-append (λ (e : Entry). begun_in e.caller e.stamp e.event) h
    (entry caller stamp event ∷ []) ∙ ap (λ bs. begun h ++ bs)
    (append-nil (begun_in caller stamp event))

pub commits-push : (h : List Entry) (caller stamp : ℕ) (event : Event)
    → commits (h ++ entry caller stamp event ∷ []) ≡ commits h ++ committed_in stamp event
unfolding commits
commits-push h caller stamp event =
    flat_map-append (λ (e : Entry). committed_in e.stamp e.event) h
    (entry caller stamp event ∷ []) ∙ ap (λ cs. commits h ++ cs)
    (append-nil (committed_in stamp event))

pub ended-push : (h : List Entry) (caller stamp : ℕ) (event : Event)
    → ended_stamps (h ++ entry caller stamp event ∷ []) ≡ ended_stamps h ++ ended_in stamp event
unfolding ended_stamps
ended-push h caller stamp event =
    flat_map-append (λ (e : Entry). ended_in e.stamp e.event) h (entry caller stamp event ∷ []) ∙ ap
    (λ es. ended_stamps h ++ es) (append-nil (ended_in stamp event))

reads_from-push : (before h : List Entry) (caller stamp : ℕ) (event : Event)
    → reads_from before (h ++ entry caller stamp event ∷ [])
    ≡ reads_from before h ++ read_in (before ++ h) stamp event
reads_from-push before [] caller stamp event =
    append-nil (read_in before stamp event) ∙ ap (λ b. read_in b stamp event)
    (sym (append-nil before))
reads_from-push before (x ∷ h) caller stamp event =
    ap (λ rs. read_in before x.stamp x.event ++ rs)
    (reads_from-push (before ++ x ∷ []) h caller stamp event ∙ ap
    (λ b. reads_from (before ++ x ∷ []) h ++ read_in b stamp event)
    (append_assoc before (x ∷ []) h))
    ∙ sym (append_assoc (read_in before x.stamp x.event) (reads_from (before ++ x ∷ []) h)
    (read_in (before ++ x ∷ h) stamp event))

pub reads-push : (h : List Entry) (caller stamp : ℕ) (event : Event)
    → reads (h ++ entry caller stamp event ∷ []) ≡ reads h ++ read_in h stamp event
unfolding reads
reads-push h caller stamp event = reads_from-push [] h caller stamp event

-- what holds at the beginning and is kept by each allowed entry holds of every allowed history
pub allowed-from : (base : OrderBase) (P : List Entry → Type 0)
    → ((h : List Entry) (caller stamp : ℕ) (event : Event) → P h → Allows base h caller stamp event
    → P (h ++ entry caller stamp event ∷ [])) → (before h : List Entry) → P before
    → AllowsFrom base before h → P (before ++ h)
allowed-from base P step before [] p all = subst P (sym (append-nil before)) p
allowed-from base P step before (e ∷ h) p all =
    subst P (append_assoc before (e ∷ []) h)
    (allowed-from base P step (before ++ e ∷ []) h
    (step before e.caller e.stamp e.event p all.0) all.1)

allows-more : (base : OrderBase) (before h : List Entry) (caller stamp : ℕ) (event : Event)
    → AllowsFrom base before h → Allows base (before ++ h) caller stamp event
    → AllowsFrom base before (h ++ entry caller stamp event ∷ [])
allows-more base before [] caller stamp event all allowed =
    (subst (λ b. Allows base b caller stamp event) (append-nil before) allowed, tt)
allows-more base before (e ∷ h) caller stamp event all allowed = (
  all.0,
  allows-more base (before ++ e ∷ []) h caller stamp event all.1
      (subst (λ b. Allows base b caller stamp event)
      (sym (append_assoc before (e ∷ []) h)) allowed),
)

pub history-push : (base : OrderBase) (h : List Entry) (caller stamp : ℕ) (event : Event)
    → IsOrderHistory base h → Allows base h caller stamp event
    → IsOrderHistory base (h ++ entry caller stamp event ∷ [])
unfolding IsOrderHistory
history-push base h caller stamp event all allowed =
    allows-more base [] h caller stamp event all allowed

-- ---- stamps that count on

-- each stamp is one more than that before it
abbrev pub CountsOn : ℕ → List Begun → Type 0
CountsOn last [] = Unit {0}
CountsOn last (b ∷ bs) = (b.stamp ≡ last + 1) × CountsOn b.stamp bs

pub counts-push : (last : ℕ) (bs : List Begun) (b : Begun) → CountsOn last bs
    → b.stamp ≡ last_begun last bs + 1 → CountsOn last (bs ++ b ∷ [])
counts-push last [] b counts next = (next, tt)
counts-push last (x ∷ bs) b counts next = (counts.0, counts-push x.stamp bs b counts.1 next)

pub last_begun-push : (last : ℕ) (bs : List Begun) (b : Begun)
    → last_begun last (bs ++ b ∷ []) ≡ b.stamp
last_begun-push last [] b = refl
last_begun-push last (x ∷ bs) b = last_begun-push x.stamp bs b

pub counts-last : (last : ℕ) (bs : List Begun) → CountsOn last bs
    → last_begun last bs ≡ last + length bs
counts-last last [] counts = omega arith
counts-last last (b ∷ bs) counts = let rest : last_begun b.stamp bs ≡ b.stamp + length bs =
    counts-last b.stamp bs counts.1 in omega (arith, counts.0)

pub counts-at : (last : ℕ) (bs : List Begun) (k : ℕ) (d : Begun) → CountsOn last bs → k < length bs
    → (get_or bs k d).stamp ≡ last + 1 + k
counts-at last [] k d counts lt = absurd (omega arith)
counts-at last (b ∷ bs) zero d counts lt = omega (arith, counts.0)
counts-at last (b ∷ bs) (suc k) d counts lt = let rest : (get_or bs k d).stamp ≡ b.stamp + 1 + k =
    counts-at b.stamp bs k d counts.1 (omega arith) in omega (arith, counts.0)

pub counts-within : (last : ℕ) (bs : List Begun) (b : Begun) → CountsOn last bs → Contains bs b
    → (last < b.stamp) × (b.stamp ≤ last_begun last bs)
counts-within last bs b counts (k, lt, is) =
    let at : (get_or bs k b).stamp ≡ last + 1 + k = counts-at last bs k b counts lt in
    let same : (get_or bs k b).stamp ≡ b.stamp = ap (λ x. x.stamp) is in
    let end : last_begun last bs ≡ last + length bs = counts-last last bs counts in
    (omega arith, omega arith)

pub within-default : {X : Type 0} (xs : List X) (k : ℕ) (d e : X) → k < length xs
    → get_or xs k d ≡ get_or xs k e
within-default [] k d e lt = absurd (omega arith)
within-default (x ∷ xs) zero d e lt = refl
within-default (x ∷ xs) (suc k) d e lt = within-default xs k d e (omega arith)

pub counts-unique : (last : ℕ) (bs : List Begun) (a b : Begun) → CountsOn last bs → Contains bs a
    → Contains bs b → a.stamp ≡ b.stamp → a ≡ b
counts-unique last bs a b counts (i, low, is) (j, high, at) same =
    let first : (get_or bs i a).stamp ≡ last + 1 + i = counts-at last bs i a counts low in
    let second : (get_or bs j b).stamp ≡ last + 1 + j = counts-at last bs j b counts high in
    let one : i ≡ j = omega (arith, ap (λ x. x.stamp) is, ap (λ x. x.stamp) at) in
    sym is ∙ ap (λ k. get_or bs k a) one ∙ within-default bs j a b high ∙ at

-- ---- open stamps

pub open-begun : (h : List Entry) (b : Begun) → IsOpen h b → Contains (begun h) b
    × (is_among b.stamp (ended_stamps h) ≡ false)
unfolding open_txns
open-begun h b there =
    let test : Begun → Bool = λ x. not (is_among x.stamp (ended_stamps h)) in (
      All-contains (Contains (begun h)) (filter test (begun h)) b
          (All-filter test (Contains (begun h)) (begun h) (All-contains_itself (begun h))) there,
      not-true (is_among b.stamp (ended_stamps h))
          (All-contains (λ x. test x ≡ true) (filter test (begun h)) b
          (filter_passes test (begun h)) there),
    )

pub filter-keeps : {X : Type 0} (p : X → Bool) (xs : List X) (x : X) → Contains xs x → p x ≡ true
    → Contains (filter p xs) x
filter-keeps p [] x (k, lt, is) pass = absurd (omega arith)
filter-keeps p (y ∷ xs) x (zero, lt, is) pass =
    rw (ap p is ∙ pass)
    (subst (λ z. Contains (z ∷ filter p xs) x) (sym is) (contains-head x (filter p xs)))
filter-keeps p (y ∷ xs) x (suc k, lt, is) pass =
    by (filter-keeps p xs x (k, omega arith, is) pass) (p y)
  where
    by : Contains (filter p xs) x → (b : Bool) → Contains (cond b (y ∷ filter p xs) (filter p xs)) x
    by rest true = contains-tail y (filter p xs) x rest
    by rest false = rest

pub begun-open : (h : List Entry) (b : Begun) → Contains (begun h) b
    → is_among b.stamp (ended_stamps h) ≡ false → IsOpen h b
unfolding open_txns
begun-open h b there none = filter-keeps (λ x. not (is_among x.stamp (ended_stamps h)))
    (begun h) b there (rw none refl)

uncommitted-by : (s stamp : ℕ) (es : List ℕ) (cs : List Commit) (event : Event)
    → (is_among s es ≡ false → lookup (λ n. eqb n s) cs ≡ None)
    → is_among s (ended_in stamp event ++ es) ≡ false
    → lookup (λ n. eqb n s) (committed_in stamp event ++ cs) ≡ None
uncommitted-by s stamp es cs (Begin script) rest e = rest e
uncommitted-by s stamp es cs (Read name) rest e = rest e
uncommitted-by s stamp es cs (Commits writes) rest e =
    let p = or_parts (eqb s stamp) (is_among s es) e in
    rw (ne_eqb stamp s (λ same. eqb-false s stamp p.0 (sym same))) (rest p.1)
uncommitted-by s stamp es cs Cancel rest e = rest (or_parts (eqb s stamp) (is_among s es) e).1

-- a stamp that hasn't ended has no commit
pub uncommitted : (h : List Entry) (s : ℕ) → is_among s (ended_stamps h) ≡ false
    → lookup (λ n. eqb n s) (commits h) ≡ None
unfolding ended_stamps commits
uncommitted [] s e = refl
uncommitted (x ∷ h) s e = uncommitted-by s x.stamp (ended_stamps h) (commits h) x.event
    (uncommitted h s) e

-- ---- what a history shows, part by part

-- a version that there is
abbrev pub IsVersion : List Commit → ℕ → Type 0
IsVersion cs v = (v ≡ 0) ⊎ ((w : List Write) × (lookup (λ n. eqb n v) cs ≡ Some w))

abbrev pub row_in : State → List Commit → RowName → ℕ → Option (List Cell)
row_in start cs name v = cond (eqb v 0) (get start name) (left_by (lookup (λ n. eqb n v) cs) name)

abbrev pub answers_in : State → List Commit → List VersionRead → ℕ
    → List (RowName × Option (List Cell))
answers_in start cs rs s = map (λ r. (r.name, row_in start cs r.name r.version))
    (filter (λ r. eqb r.reader s) rs)

abbrev pub OutcomeIn : OrderBase → List Commit → List VersionRead → Begun → List Write → Type 0
OutcomeIn base cs rs b writes = (declined : Bool)
    × Follows (body_at base.bodies b.script) (answers_in base.start cs rs b.stamp) declined writes

pub outcome-in : (base : OrderBase) (h : List Entry) (b : Begun) (writes : List Write)
    → IsOutcome base h b writes → OutcomeIn base (commits h) (reads h) b writes
unfolding answered row_of_version
outcome-in base h b writes o = o

-- not cancelled
abbrev pub IsLive : List Commit → List ℕ → ℕ → Type 0
IsLive cs es s = (is_among s es ≡ false) ⊎ ((w : List Write) × (lookup (λ n. eqb n s) cs ≡ Some w))

pub record Sound (base : OrderBase) (bs : List Begun) (cs : List Commit) (es : List ℕ)
    (rs : List VersionRead) : Type 0 where
  pub counted : CountsOn base.last bs
  pub fit : All (λ b. b.stamp < 2 ^ 64) bs
  pub known : All (λ b. b.script < length base.bodies) bs
  pub from_begun : All (λ c. (b : Begun) × Contains bs b × (b.stamp ≡ c.0)) cs
  pub ended_begun : All (λ s. (b : Begun) × Contains bs b × (b.stamp ≡ s)) es
  pub once : All (λ c. lookup (λ n. eqb n c.0) cs ≡ Some c.1) cs
  pub stay : All (λ r. version_in r.name r.reader cs ≡ r.version) rs
  pub outcomes : (b : Begun) → Contains bs b → (w : List Write)
      → lookup (λ n. eqb n b.stamp) cs ≡ Some w → OutcomeIn base cs rs b w × IsAscending w
  pub live : (a b : Begun) → Contains bs a → Contains bs b → a.script ≡ b.script
      → IsLive cs es a.stamp → IsLive cs es b.stamp → a.stamp ≡ b.stamp

pub sound-nothing : (base : OrderBase) → Sound base [] [] [] []
sound-nothing base = record {
  counted = tt;
  fit = All-nil (λ b. b.stamp < 2 ^ 64);
  known = All-nil (λ b. b.script < length base.bodies);
  from_begun = All-nil (λ c. (b : Begun) × Contains [] b × (b.stamp ≡ c.0));
  ended_begun = All-nil (λ s. (b : Begun) × Contains [] b × (b.stamp ≡ s));
  once = All-nil (λ c. lookup (λ n. eqb n c.0) [] ≡ Some c.1);
  stay = All-nil (λ r. version_in r.name r.reader [] ≡ r.version);
  outcomes = λ b there w e. absurd cc;
  live = λ a b (i, lt, is) there same la lb. absurd (omega arith);
}

-- the versions that were read are there
pub read-version : (base : OrderBase) (bs : List Begun) (cs : List Commit) (es : List ℕ)
    (rs : List VersionRead) → Sound base bs cs es rs → All (λ r. IsVersion cs r.version) rs
read-version base bs cs es rs sound =
    All-weaker (λ r. version_in r.name r.reader cs ≡ r.version) (λ r. IsVersion cs r.version)
    (λ r is. elim (version_in-attained r.name r.reader cs) [
      | inl z ↦ inl (sym is ∙ z)
      | inr a ↦ inr (
        a.commit.1,
        subst (λ v. lookup (λ n. eqb n v) cs ≡ Some a.commit.1) (a.is ∙ is)
            (All-contains (λ c. lookup (λ n. eqb n c.0) cs
            ≡ Some c.1) cs a.commit sound.once a.there),
      )
    ]) rs sound.stay

-- ---- what more entries leave

row-kept : (start : State) (cs more : List Commit) (name : RowName) (v : ℕ) → IsVersion cs v
    → row_in start (cs ++ more) name v ≡ row_in start cs name v
row-kept start cs more name v (inl z) = rw z refl
row-kept start cs more name v (inr (w, e)) = rw (lookup-more v cs more w e, e) refl

pub map_agree : {X Y : Type 0} (f g : X → Y) (xs : List X) → All (λ x. f x ≡ g x) xs
    → map f xs ≡ map g xs
map_agree f g [] all = refl
map_agree f g (x ∷ xs) all = ap (λ y. y ∷ map f xs) (All-head (λ x. f x ≡ g x) x xs all) ∙ ap
    (λ ys. g x ∷ ys) (map_agree f g xs (All-tail (λ x. f x ≡ g x) x xs all))

pub answers-kept : (start : State) (cs more : List Commit) (rs new : List VersionRead) (s : ℕ)
    → All (λ r. IsVersion cs r.version) rs → filter (λ r. eqb r.reader s) new ≡ []
    → answers_in start (cs ++ more) (rs ++ new) s ≡ answers_in start cs rs s
answers-kept start cs more rs new s versions none =
    let f : VersionRead → RowName × Option (List Cell) =
    λ r. (r.name, row_in start (cs ++ more) r.name r.version) in
    let g : VersionRead → RowName × Option (List Cell) =
    λ r. (r.name, row_in start cs r.name r.version) in
    let p : VersionRead → Bool = λ r. eqb r.reader s in
    ap (map f)
    (filter-append p rs new ∙ ap (λ xs. filter p rs ++ xs) none ∙ append-nil (filter p rs))
    ∙ map_agree f g (filter p rs)
    (All-filter p (λ r. f r ≡ g r) rs
    (All-weaker (λ r. IsVersion cs r.version) (λ r. f r ≡ g r)
    (λ r is. ap (λ row. (r.name, row)) (row-kept start cs more r.name r.version is)) rs
    versions))
