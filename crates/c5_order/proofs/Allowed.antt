-- What holds of every allowed history.
use Rattle.std.proofs.Common.{◌≡◌, ◌<◌, ◌≤◌, ◌+◌, ◌^◌, ◌⊎◌, ℕ, zero, suc, Bool, true, false, cond}
use Rattle.std.proofs.Common.{not, ◌&&◌, ◌||◌, eqb, ltb, true≢false, List, [], ◌∷◌, ◌++◌, length}
use Rattle.std.proofs.Common.{map, get_or, Option, Some, None, is_some, Equal, Less, Greater}
use Rattle.std.proofs.Common.{Ordering, inl, inr, refl, ap, sym, subst, ◌∙◌, append_assoc, arith}
use Rattle.std.specs.List.{All, Contains, filter, flat_map}
use Rattle.std.specs.Map.{lookup}
use Rattle.std.specs.Ordering.{is_eq}
use Rattle.std.specs.Cmp.{tied_itself}
use Rattle.std.proofs.lemmas.Bool.{cases_Bool, and_from, lt-ltb, eqb-true, eq-eqb, both_ways}
use Rattle.std.proofs.lemmas.List.{append-nil}
use Rattle.std.proofs.lemmas.List.Elements.{All-weaker, All-contains, All-contains_itself}
use Rattle.std.proofs.lemmas.List.Elements.{Contains-append_left, Contains-append_right}
use Rattle.c5_rows.specs.declared.writes.RowName.{RowName}
use Rattle.c5_rows.specs.declared.writes.Write.{Write}
use Rattle.c5_rows.specs.declared.writes.Txn.{Txn}
use Rattle.c5_rows.specs.Order.{row_name_cmp, row_name_cmp_total, row_name_cmp_exact}
use Rattle.c5_rows.specs.Writes.{change_of}
use Rattle.c5_definitions.specs.declared.history.Entry.{Entry}
use Rattle.c5_definitions.specs.declared.history.Event.{Event}
use Rattle.c5_definitions.specs.declared.history.Event.TheVariants.{Begin, Read, Commit as Commits}
use Rattle.c5_definitions.specs.declared.history.Event.TheVariants.{Cancel}
use Rattle.c5_definitions.specs.declared.history.OrderBase.{OrderBase}
use Rattle.c5_definitions.specs.History.{Begun, VersionRead, begun, commits, ended_stamps}
use Rattle.c5_definitions.specs.History.{open_txns, last_begun, last_stamp, writes_row, version_in}
use Rattle.c5_definitions.specs.History.{version_at, reads}
use Rattle.c5_rows.specs.Numbers.{is_among}
use Rattle.c5_definitions.specs.OrderLog.{Conflict, reads_version, conflicts_on, conflicts, txn_of}
use Rattle.c5_definitions.specs.OrderLog.{committed, committed_stamp, open_stamp, IsOpen}
use Rattle.c5_definitions.specs.OrderLog.{BeginsNext, Allows, AllowsFrom, IsOrderHistory}
use Rattle.c5_order.proofs.Versions.{Commit, contains-head, contains-tail}
use Rattle.c5_order.proofs.Histories.{entry, begun-push, commits-push, ended-push, reads-push}
use Rattle.c5_order.proofs.Histories.{allowed-from, open-begun, begun-open, filter-keeps}
use Rattle.c5_order.proofs.Histories.{uncommitted, outcome-in, IsLive, Sound, sound-nothing}
use Rattle.c5_order.proofs.Steps.{sound-begin, sound-read, sound-cancel, NoneReads, sound-commit}

abbrev pub SoundAt : OrderBase → List Entry → Type 0
SoundAt base h = Sound base (begun h) (commits h) (ended_stamps h) (reads h)

along : (base : OrderBase) (bs bs' : List Begun) (cs cs' : List Commit) (es es' : List ℕ)
    (rs rs' : List VersionRead) → bs ≡ bs' → cs ≡ cs' → es ≡ es' → rs ≡ rs' → Sound base bs cs es rs
    → Sound base bs' cs' es' rs'
along base bs bs' cs cs' es es' rs rs' b c e r s =
    subst (λ x. Sound base x cs' es' rs') b
    (subst (λ x. Sound base bs x es' rs') c
    (subst (λ x. Sound base bs cs x rs') e (subst (λ x. Sound base bs cs es x) r s)))

pub last_stamp-is : (last : ℕ) (h : List Entry) → last_stamp last h ≡ last_begun last (begun h)
unfolding last_stamp
last_stamp-is last h = refl

pub version_at-is : (h : List Entry) (name : RowName) (s : ℕ)
    → version_at h name s ≡ version_in name s (commits h)
unfolding version_at
version_at-is h name s = refl

-- ---- no other transaction of a body

not_none : {X : Type 0} (t : Bool) (x : X) (o : Option X) → t ≡ true → cond t (Some x) o ≡ None → ⊥
not_none true x o is e = cc
not_none false x o is e = true≢false (sym is)

rest_none : {X : Type 0} (t : Bool) (x : X) (o : Option X) → cond t (Some x) o ≡ None → o ≡ None
rest_none true x o e = absurd cc
rest_none false x o e = e

pub none-open : (script : ℕ) (bs : List Begun) (b : Begun) → open_stamp script bs ≡ None
    → Contains bs b → b.script ≡ script → ⊥
none-open script [] b e (k, lt, is) same = absurd (omega arith)
none-open script (x ∷ bs) b e (zero, lt, is) same =
    not_none (eqb x.script script) x.stamp (open_stamp script bs)
    (eq-eqb x.script script (ap (λ y. y.script) is ∙ same)) e
none-open script (x ∷ bs) b e (suc k, lt, is) same =
    none-open script bs b (rest_none (eqb x.script script) x.stamp (open_stamp script bs) e)
    (k, omega arith, is) same

pub none-committed : (script : ℕ) (ts : List Txn) (t : Txn) → committed_stamp script ts ≡ None
    → Contains ts t → t.script ≡ script → ⊥
none-committed script [] b e (k, lt, is) same = absurd (omega arith)
none-committed script (x ∷ ts) b e (zero, lt, is) same =
    not_none (eqb x.script script) x.stamp (committed_stamp script ts)
    (eq-eqb x.script script (ap (λ y. y.script) is ∙ same)) e
none-committed script (x ∷ ts) b e (suc k, lt, is) same =
    none-committed script ts b
    (rest_none (eqb x.script script) x.stamp (committed_stamp script ts) e)
    (k, omega arith, is) same

pub flat_map-contains : {X Y : Type 0} (f : X → List Y) (xs : List X) (x : X) (y : Y)
    → Contains xs x → Contains (f x) y → Contains (flat_map f xs) y
flat_map-contains f [] x y (k, lt, is) there = absurd (omega arith)
flat_map-contains f (z ∷ xs) x y (zero, lt, is) there =
    Contains-append_left (f z) (flat_map f xs) y (subst (λ v. Contains (f v) y) (sym is) there)
flat_map-contains f (z ∷ xs) x y (suc k, lt, is) there =
    Contains-append_right (f z) (flat_map f xs) y
    (flat_map-contains f xs x y (k, omega arith, is) there)

-- the committed transactions among these
abbrev pub committed_of : List Commit → List Begun → List Txn
committed_of cs bs = flat_map (λ b. txn_of b (lookup (λ n. eqb n b.stamp) cs)) bs

pub committed-is : (h : List Entry) → committed h ≡ committed_of (commits h) (begun h)
unfolding committed
committed-is h = refl

pub txn_with : Begun → List Write → Txn
txn_with b w = record { script = b.script; stamp = b.stamp; writes = w }

pub committed_of-contains : (cs : List Commit) (bs : List Begun) (b : Begun) (w : List Write)
    → Contains bs b → lookup (λ n. eqb n b.stamp) cs ≡ Some w
    → Contains (committed_of cs bs) (record { script = b.script; stamp = b.stamp; writes = w })
committed_of-contains cs bs b w there e =
    flat_map-contains (λ b. txn_of b (lookup (λ n. eqb n b.stamp) cs)) bs b
    (record { script = b.script; stamp = b.stamp; writes = w }) there
    (subst (λ o. Contains (txn_of b o) (record { script = b.script; stamp = b.stamp; writes = w }))
    (sym e) (contains-head (record { script = b.script; stamp = b.stamp; writes = w }) []))

alone : (h : List Entry) (script : ℕ) → committed_stamp script (committed h) ≡ None
    → open_stamp script (open_txns h) ≡ None → (a : Begun) → Contains (begun h) a
    → a.script ≡ script → IsLive (commits h) (ended_stamps h) a.stamp → ⊥
alone h script gone closed a there same (inl e) =
    none-open script (open_txns h) a closed (begun-open h a there e) same
alone h script gone closed a there same (inr (w, e)) =
    none-committed script (committed h)
    (record { script = a.script; stamp = a.stamp; writes = w }) gone
    (subst (λ ts. Contains ts (record { script = a.script; stamp = a.stamp; writes = w }))
    (sym (committed-is h)) (committed_of-contains (commits h) (begun h) a w there e)) same

-- ---- no conflict

append-nil_left : {X : Type 0} (xs ys : List X) → xs ++ ys ≡ [] → xs ≡ []
append-nil_left [] ys e = refl
append-nil_left (x ∷ xs) ys e = absurd cc

append-nil_right : {X : Type 0} (xs ys : List X) → xs ++ ys ≡ [] → ys ≡ []
append-nil_right [] ys e = e
append-nil_right (x ∷ xs) ys e = absurd cc

map-nil_back : {X Y : Type 0} (f : X → Y) (xs : List X) → map f xs ≡ [] → xs ≡ []
map-nil_back f [] e = refl
map-nil_back f (x ∷ xs) e = absurd cc

contains-nil : {X : Type 0} (xs : List X) (x : X) → xs ≡ [] → Contains xs x → ⊥
contains-nil [] x e (k, lt, is) = omega arith
contains-nil (y ∷ xs) x e there = absurd cc

pub equal_names : (a b : RowName) → is_eq (row_name_cmp a b) ≡ true → a ≡ b
equal_names a b e = row_name_cmp_exact a b (by (row_name_cmp a b) e)
  where
    by : (o : Ordering) → is_eq o ≡ true → o ≡ Equal
    by Less e = absurd cc
    by Equal e = refl
    by Greater e = absurd cc

pub same_name : (a : RowName) → is_eq (row_name_cmp a a) ≡ true
same_name a = ap is_eq (tied_itself row_name_cmp_total a)

-- a read of a written row would be a conflict
pub reads-conflict : (h : List Entry) (s : ℕ) (ws : List Write) (r : VersionRead)
    → flat_map (conflicts_on h s) ws ≡ [] → Contains (reads h) r → writes_row r.name ws ≡ true
    → s < r.reader → r.version ≡ version_in r.name s (commits h) → ⊥
reads-conflict h s [] r none there writes later is = absurd (true≢false (sym writes))
reads-conflict h s (w ∷ ws) r none there writes later is =
    by (reads-conflict h s ws r
    (append-nil_right (conflicts_on h s w) (flat_map (conflicts_on h s) ws) none) there)
    (is_eq (row_name_cmp r.name w.name)) refl writes
  where
    by : (writes_row r.name ws ≡ true → s < r.reader → r.version ≡ version_in r.name s (commits h)
        → ⊥) → (t : Bool) → is_eq (row_name_cmp r.name w.name) ≡ t
        → is_some (cond t (Some w.change) (change_of r.name ws)) ≡ true → ⊥
    by rest false is_other e = rest e later is
    by rest true is_same e =
        let none_here : filter (reads_version w.name s (version_at h w.name s)) (reads h) ≡ [] =
        map-nil_back (λ r. record { row = w.name; reader = r.reader })
        (filter (reads_version w.name s (version_at h w.name s)) (reads h))
        (append-nil_left (conflicts_on h s w) (flat_map (conflicts_on h s) ws) none) in
        let version : r.version ≡ version_at h w.name s =
        is ∙ sym (version_at-is h r.name s) ∙ ap (λ n. version_at h n s)
        (equal_names r.name w.name is_same) in
        contains-nil (filter (reads_version w.name s (version_at h w.name s)) (reads h)) r none_here
        (filter-keeps (reads_version w.name s (version_at h w.name s)) (reads h) r there
        (and_from (is_eq (row_name_cmp r.name w.name) && ltb s r.reader)
        (eqb r.version (version_at h w.name s))
        (and_from (is_eq (row_name_cmp r.name w.name)) (ltb s r.reader) is_same
        (lt-ltb s r.reader later))
        (eq-eqb r.version (version_at h w.name s) version)))

pub none-reads : (h : List Entry) (s : ℕ) (ws : List Write) → conflicts h s ws ≡ []
    → NoneReads (commits h) (reads h) s ws
unfolding conflicts
none-reads h s ws none = All-weaker (Contains (reads h))
    (λ r. writes_row r.name ws ≡ true → s < r.reader → r.version ≡ version_in r.name s (commits h)
    → ⊥) (λ r there. reads-conflict h s ws r none there) (reads h) (All-contains_itself (reads h))

-- ---- every allowed history

sound-step : (base : OrderBase) (h : List Entry) (caller stamp : ℕ) (event : Event) → SoundAt base h
    → Allows base h caller stamp event → SoundAt base (h ++ entry caller stamp event ∷ [])
sound-step base h caller stamp (Begin script) sound allowed =
    let b : Begun = record { caller = caller; stamp = stamp; script = script } in
    along base (begun h ++ b ∷ []) (begun (h ++ entry caller stamp (Begin script) ∷ [])) (commits h)
    (commits (h ++ entry caller stamp (Begin script) ∷ [])) (ended_stamps h)
    (ended_stamps (h ++ entry caller stamp (Begin script) ∷ [])) (reads h)
    (reads (h ++ entry caller stamp (Begin script) ∷ []))
    (sym (begun-push h caller stamp (Begin script)))
    (sym (commits-push h caller stamp (Begin script) ∙ append-nil (commits h)))
    (sym (ended-push h caller stamp (Begin script) ∙ append-nil (ended_stamps h)))
    (sym (reads-push h caller stamp (Begin script) ∙ append-nil (reads h)))
    (sound-begin base (begun h) (commits h) (ended_stamps h) (reads h) b sound
    (allowed.next ∙ ap (λ n. n + 1) (last_stamp-is base.last h)) allowed.fits
    allowed.script_known (alone h script allowed.not_committed allowed.not_open))
sound-step base h caller stamp (Read name) sound allowed =
    let r : VersionRead =
    record { reader = stamp; name = name; version = version_at h name stamp } in
    along base (begun h) (begun (h ++ entry caller stamp (Read name) ∷ [])) (commits h)
    (commits (h ++ entry caller stamp (Read name) ∷ [])) (ended_stamps h)
    (ended_stamps (h ++ entry caller stamp (Read name) ∷ [])) (reads h ++ r ∷ [])
    (reads (h ++ entry caller stamp (Read name) ∷ []))
    (sym (begun-push h caller stamp (Read name) ∙ append-nil (begun h)))
    (sym (commits-push h caller stamp (Read name) ∙ append-nil (commits h)))
    (sym (ended-push h caller stamp (Read name) ∙ append-nil (ended_stamps h)))
    (sym (reads-push h caller stamp (Read name)))
    (sound-read base (begun h) (commits h) (ended_stamps h) (reads h) r sound
    (sym (version_at-is h name stamp))
    (uncommitted h stamp
    (open-begun h (record { caller = caller; stamp = stamp; script = allowed.0 }) allowed.1).1))
sound-step base h caller stamp (Commits writes) sound allowed =
    let b : Begun = record { caller = caller; stamp = stamp; script = allowed.0 } in
    let o = open-begun h b allowed.1 in
    along base (begun h) (begun (h ++ entry caller stamp (Commits writes) ∷ []))
    (commits h ++ (stamp, writes) ∷ [])
    (commits (h ++ entry caller stamp (Commits writes) ∷ [])) (ended_stamps h ++ stamp ∷ [])
    (ended_stamps (h ++ entry caller stamp (Commits writes) ∷ [])) (reads h)
    (reads (h ++ entry caller stamp (Commits writes) ∷ []))
    (sym (begun-push h caller stamp (Commits writes) ∙ append-nil (begun h)))
    (sym (commits-push h caller stamp (Commits writes)))
    (sym (ended-push h caller stamp (Commits writes)))
    (sym (reads-push h caller stamp (Commits writes) ∙ append-nil (reads h)))
    (sound-commit base (begun h) (commits h) (ended_stamps h) (reads h) b writes sound o.0 o.1
    (uncommitted h stamp o.1) (outcome-in base h b writes allowed.2) allowed.3
    (none-reads h stamp writes allowed.4))
sound-step base h caller stamp Cancel sound allowed =
    along base (begun h) (begun (h ++ entry caller stamp Cancel ∷ [])) (commits h)
    (commits (h ++ entry caller stamp Cancel ∷ [])) (ended_stamps h ++ stamp ∷ [])
    (ended_stamps (h ++ entry caller stamp Cancel ∷ [])) (reads h)
    (reads (h ++ entry caller stamp Cancel ∷ []))
    (sym (begun-push h caller stamp Cancel ∙ append-nil (begun h)))
    (sym (commits-push h caller stamp Cancel ∙ append-nil (commits h)))
    (sym (ended-push h caller stamp Cancel))
    (sym (reads-push h caller stamp Cancel ∙ append-nil (reads h)))
    (sound-cancel base (begun h) (commits h) (ended_stamps h) (reads h) stamp (
      record { caller = caller; stamp = stamp; script = allowed.0 },
      (open-begun h (record { caller = caller; stamp = stamp; script = allowed.0 }) allowed.1).0,
      refl,
    ) sound)

sound-start : (base : OrderBase) → SoundAt base []
unfolding begun commits ended_stamps reads
sound-start base = sound-nothing base

pub sound-history : (base : OrderBase) (h : List Entry) → IsOrderHistory base h → SoundAt base h
unfolding IsOrderHistory
sound-history base h all = allowed-from base (SoundAt base) (sound-step base) [] h
    (sound-start base) all
