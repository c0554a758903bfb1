-- What more entries leave of the transactions of a history.
use Rattle.std.proofs.Common.{◌≡◌, ◌<◌, ◌≤◌, ◌+◌, ◌⊎◌, ℕ, zero, suc, Bool, true, false, cond, not}
use Rattle.std.proofs.Common.{◌&&◌, ◌||◌, eqb, ltb, List, [], ◌∷◌, ◌++◌, length, map, get_or}
use Rattle.std.proofs.Common.{Option, Some, None, IsSome, inl, inr, refl, ap, sym, subst, ◌∙◌}
use Rattle.std.proofs.Common.{append_assoc, arith}
use Rattle.std.specs.List.{All, Contains, filter, flat_map}
use Rattle.std.specs.Map.{lookup}
use Rattle.std.specs.Ordering.{is_eq}
use Rattle.std.proofs.lemmas.Bool.{eq-eqb, ne_eqb, eqb-false, cases_lt, cases_Bool, ltb-true}
use Rattle.std.proofs.lemmas.Bool.{both_ways}
use Rattle.std.proofs.lemmas.List.{append-nil}
use Rattle.std.proofs.lemmas.List.Concat.{flat_map-append}
use Rattle.std.proofs.lemmas.List.Folds.{list_any-append}
use Rattle.std.proofs.lemmas.List.Elements.{All-nil, All-cons, All-head, All-tail, All-append}
use Rattle.std.proofs.lemmas.List.Elements.{All-weaker, All-contains, filter-append}
use Rattle.std.proofs.lemmas.List.Elements.{Contains-append_left, Contains-push}
use mathlib.Core.List.{map-append}
use Rattle.c5_rows.specs.declared.cells.Cell.{Cell}
use Rattle.c5_rows.specs.declared.writes.RowName.{RowName}
use Rattle.c5_rows.specs.declared.writes.Write.{Write}
use Rattle.c5_rows.specs.declared.writes.Txn.{Txn}
use Rattle.c5_rows.specs.Order.{row_name_cmp}
use Rattle.c5_rows.specs.State.{State}
use Rattle.c5_rows.specs.Numbers.{is_among}
use Rattle.c5_definitions.specs.declared.history.Entry.{Entry}
use Rattle.c5_definitions.specs.declared.history.Event.{Event}
use Rattle.c5_definitions.specs.declared.history.Event.TheVariants.{Begin, Read, Commit as Commits}
use Rattle.c5_definitions.specs.declared.history.Event.TheVariants.{Cancel}
use Rattle.c5_definitions.specs.declared.history.OrderBase.{OrderBase}
use Rattle.c5_definitions.specs.History.{Begun, VersionRead, begun_in, committed_in, ended_in}
use Rattle.c5_definitions.specs.History.{begun, commits, ended_stamps, open_txns, last_begun}
use Rattle.c5_definitions.specs.History.{last_stamp, version_at, row_of_version, row_seen, read_in}
use Rattle.c5_definitions.specs.History.{reads, answered}
use Rattle.c5_definitions.specs.OrderLog.{Conflict, reads_version, conflicts_on, conflicts}
use Rattle.c5_definitions.specs.OrderLog.{committed, committed_stamp, IsOpen, BeginsNext, Allows}
use Rattle.c5_definitions.specs.OrderLog.{AllowsFrom, IsOrderHistory}
use Rattle.c5_order.specs.Transactions.{with_event, BeginsUnread, ReadAdds, OthersKeep}
use Rattle.c5_order.specs.Transactions.{open_without, EndsOne, LastIsFree, CommitsStay}
use Rattle.c5_order.specs.Transactions.{CommitCounts}
use Rattle.c5_order.proofs.Versions.{Commit, lookup-more, lookup-push}
use Rattle.c5_order.proofs.Histories.{entry, begun-push, commits-push, ended-push, reads-push}
use Rattle.c5_order.proofs.Histories.{allowed-from, history-push, counts-within, counts-unique}
use Rattle.c5_order.proofs.Histories.{last_begun-push, open-begun, begun-open, uncommitted}
use Rattle.c5_order.proofs.Histories.{IsVersion, row_in, answers_in, read-version, answers-kept}
use Rattle.c5_order.proofs.Allowed.{SoundAt, last_stamp-is, none-committed, committed_of}
use Rattle.c5_order.proofs.Allowed.{committed_of-contains, committed-is, sound-history}
use Rattle.c5_order.proofs.Parts.{fresh-unended}
use Rattle.c5_order.proofs.Answering.{committed-with}

-- ---- an allowed history, part by part

split-from : (base : OrderBase) (before h g : List Entry) → AllowsFrom base before (h ++ g)
    → AllowsFrom base before h × AllowsFrom base (before ++ h) g
split-from base before [] g all =
    (tt, subst (λ b. AllowsFrom base b g) (sym (append-nil before)) all)
split-from base before (e ∷ h) g all =
    let rest = split-from base (before ++ e ∷ []) h g all.1 in
    ((all.0, rest.0), subst (λ b. AllowsFrom base b g) (append_assoc before (e ∷ []) h) rest.1)

history-split : (base : OrderBase) (h g : List Entry) → IsOrderHistory base (h ++ g)
    → IsOrderHistory base h × AllowsFrom base h g
unfolding IsOrderHistory
history-split base h g all = split-from base [] h g all

open-is : (h : List Entry) → open_txns h
    ≡ filter (λ b. not (is_among b.stamp (ended_stamps h))) (begun h)
unfolding open_txns
open-is h = refl

answered-is : (start : State) (h : List Entry) (s : ℕ)
    → answered start h s ≡ answers_in start (commits h) (reads h) s
unfolding answered row_of_version
answered-is start h s = refl

-- ---- open transactions, and what they were answered

among-other : (s t : ℕ) (es : List ℕ) → is_among s es ≡ false → (s ≡ t → ⊥)
    → is_among s (es ++ t ∷ []) ≡ false
among-other s t es e ne = list_any-append (λ m. eqb s m) es (t ∷ []) ∙ rw (e, ne_eqb s t ne) refl

other-stamp : (base : OrderBase) (h : List Entry) (a b : Begun) → SoundAt base h → IsOpen h a
    → IsOpen h b → (a.caller ≡ b.caller → ⊥) → b.stamp ≡ a.stamp → ⊥
other-stamp base h a b sound oa ob other same =
    other (ap (λ (x : Begun). x.caller)
    (counts-unique base.last (begun h) a b sound.counted (open-begun h a oa).0
    (open-begun h b ob).0 (sym same)))

open-from : (h g : List Entry) (b : Begun) (bs : List Begun) (es : List ℕ) → begun g ≡ begun h ++ bs
    → ended_stamps g ≡ ended_stamps h ++ es → is_among b.stamp (ended_stamps h ++ es) ≡ false
    → IsOpen h b → IsOpen g b
open-from h g b bs es e f none is_open =
    begun-open g b
    (subst (λ x. Contains x b) (sym e)
    (Contains-append_left (begun h) bs b (open-begun h b is_open).0))
    (subst (λ x. is_among b.stamp x ≡ false) (sym f) none)

answers-from : (start : State) (h g : List Entry) (s : ℕ) (more : List Commit)
    (new : List VersionRead) → commits g ≡ commits h ++ more → reads g ≡ reads h ++ new
    → All (λ r. IsVersion (commits h) r.version) (reads h) → filter (λ r. eqb r.reader s) new ≡ []
    → answered start g s ≡ answered start h s
answers-from start h g s more new e f versions none =
    answered-is start g s
    ∙ ap (λ cs. answers_in start cs (reads g) s) e
    ∙ ap (λ rs. answers_in start (commits h ++ more) rs s) f
    ∙ answers-kept start (commits h) more (reads h) new s versions none
    ∙ sym (answered-is start h s)

none-more : (s : ℕ) (es : List ℕ) → is_among s es ≡ false → is_among s (es ++ []) ≡ false
none-more s es e = subst (λ x. is_among s x ≡ false) (sym (append-nil es)) e

others-ended : (base : OrderBase) (h : List Entry) (b : Begun) (caller stamp : ℕ) (event : Event)
    → SoundAt base h → IsOpen h b → (caller ≡ b.caller → ⊥) → Allows base h caller stamp event
    → is_among b.stamp (ended_stamps h ++ ended_in stamp event) ≡ false
others-ended base h b caller stamp (Begin script) sound is_open other allowed =
    none-more b.stamp (ended_stamps h) (open-begun h b is_open).1
others-ended base h b caller stamp (Read name) sound is_open other allowed =
    none-more b.stamp (ended_stamps h) (open-begun h b is_open).1
others-ended base h b caller stamp (Commits writes) sound is_open other allowed =
    among-other b.stamp stamp (ended_stamps h) (open-begun h b is_open).1
    (other-stamp base h
    (record { caller = caller; stamp = stamp; script = allowed.0 }) b sound allowed.1 is_open
    other)
others-ended base h b caller stamp Cancel sound is_open other allowed =
    among-other b.stamp stamp (ended_stamps h) (open-begun h b is_open).1
    (other-stamp base h
    (record { caller = caller; stamp = stamp; script = allowed.0 }) b sound allowed.1 is_open
    other)

others-read : (base : OrderBase) (h : List Entry) (b : Begun) (caller stamp : ℕ) (event : Event)
    → SoundAt base h → IsOpen h b → (caller ≡ b.caller → ⊥) → Allows base h caller stamp event
    → filter (λ r. eqb r.reader b.stamp) (read_in h stamp event) ≡ []
others-read base h b caller stamp (Begin script) sound is_open other allowed = refl
others-read base h b caller stamp (Read name) sound is_open other allowed =
    rw (ne_eqb stamp b.stamp
    (λ same. other-stamp base h
    (record { caller = caller; stamp = stamp; script = allowed.0 }) b sound allowed.1 is_open
    other (sym same))) refl
others-read base h b caller stamp (Commits writes) sound is_open other allowed = refl
others-read base h b caller stamp Cancel sound is_open other allowed = refl

abbrev Keeps : State → List Entry → List Entry → Begun → Type 0
Keeps start h g b = IsOpen g b × (answered start g b.stamp ≡ answered start h b.stamp)

keeps-step : (base : OrderBase) (h : List Entry) (b : Begun) (caller stamp : ℕ) (event : Event)
    → SoundAt base h → IsOpen h b → (caller ≡ b.caller → ⊥) → Allows base h caller stamp event
    → Keeps base.start h (h ++ entry caller stamp event ∷ []) b
keeps-step base h b caller stamp event sound is_open other allowed =
    let g = h ++ entry caller stamp event ∷ [] in (
      open-from h g b (begun_in caller stamp event) (ended_in stamp event)
          (begun-push h caller stamp event) (ended-push h caller stamp event)
          (others-ended base h b caller stamp event sound is_open other allowed) is_open,
      answers-from base.start h g b.stamp (committed_in stamp event) (read_in h stamp event)
          (commits-push h caller stamp event) (reads-push h caller stamp event)
          (read-version base (begun h) (commits h) (ended_stamps h) (reads h) sound)
          (others-read base h b caller stamp event sound is_open other allowed),
    )

keeps-all : (base : OrderBase) (h more : List Entry) (b : Begun) → IsOrderHistory base h
    → AllowsFrom base h more → IsOpen h b → All (λ e. e.caller ≡ b.caller → ⊥) more
    → Keeps base.start h (h ++ more) b
keeps-all base h [] b history all is_open others =
    subst (λ g. Keeps base.start h g b) (sym (append-nil h)) (is_open, refl)
keeps-all base h (e ∷ more) b history all is_open others =
    let one = keeps-step base h b e.caller e.stamp e.event (sound-history base h history) is_open
    (All-head (λ e. e.caller ≡ b.caller → ⊥) e more others) all.0 in
    let rest = keeps-all base (h ++ e ∷ []) more b
    (history-push base h e.caller e.stamp e.event history all.0) all.1 one.0
    (All-tail (λ e. e.caller ≡ b.caller → ⊥) e more others) in
    subst (λ g. Keeps base.start h g b) (append_assoc h (e ∷ []) more) (rest.0, rest.1 ∙ one.1)

pub others-keep : OthersKeep
others-keep base h more b all is_open others = let s = history-split base h more all in
    keeps-all base h more b s.0 s.1 is_open others

-- ---- a read

one-more : (start : State) (cs : List Commit) (rs : List VersionRead) (r : VersionRead) (s : ℕ)
    → r.reader ≡ s → answers_in start cs (rs ++ r ∷ []) s
    ≡ answers_in start cs rs s ++ (r.name, row_in start cs r.name r.version) ∷ []
one-more start cs rs r s is =
    let f : VersionRead → RowName × Option (List Cell) =
    λ r. (r.name, row_in start cs r.name r.version) in
    let p : VersionRead → Bool = λ r. eqb r.reader s in
    let here : filter p (r ∷ []) ≡ r ∷ [] = rw (eq-eqb r.reader s is) refl in
    ap (map f) (filter-append p rs (r ∷ []) ∙ ap (λ xs. filter p rs ++ xs) here) ∙ map-append f
    (filter p rs) (r ∷ [])

row-seen-is : (start : State) (h : List Entry) (name : RowName) (s : ℕ)
    → row_seen start h name s ≡ row_in start (commits h) name (version_at h name s)
unfolding row_seen row_of_version
row-seen-is start h name s = refl

same-open : (h g : List Entry) → begun g ≡ begun h → ended_stamps g ≡ ended_stamps h
    → open_txns g ≡ open_txns h
same-open h g e f =
    open-is g ∙ ap (λ bs. filter (λ b. not (is_among b.stamp (ended_stamps g))) bs) e ∙ ap
    (λ es. filter (λ b. not (is_among b.stamp es)) (begun h)) f ∙ sym (open-is h)

same-last : (last : ℕ) (h g : List Entry) → begun g ≡ begun h
    → last_stamp last g ≡ last_stamp last h
same-last last h g e = last_stamp-is last g ∙ ap (last_begun last) e ∙ sym (last_stamp-is last h)

pub read-adds : ReadAdds
read-adds start h b name is_open =
    let g = h ++ entry b.caller b.stamp (Read name) ∷ [] in
    let r : VersionRead =
    record { reader = b.stamp; name = name; version = version_at h name b.stamp } in
    let bs : begun g ≡ begun h = begun-push h b.caller b.stamp (Read name) ∙ append-nil (begun h) in
    let es : ended_stamps g ≡ ended_stamps h =
    ended-push h b.caller b.stamp (Read name) ∙ append-nil (ended_stamps h) in
    let cs : commits g ≡ commits h =
    commits-push h b.caller b.stamp (Read name) ∙ append-nil (commits h) in
    let rs : reads g ≡ reads h ++ r ∷ [] = reads-push h b.caller b.stamp (Read name) in
    let o = open-begun h b is_open in (
      begun-open g b (subst (λ x. Contains x b) (sym bs) o.0)
          (subst (λ x. is_among b.stamp x ≡ false) (sym es) o.1),
      answered-is start g b.stamp
          ∙ ap (λ x. answers_in start x (reads g) b.stamp) cs
          ∙ ap (λ x. answers_in start (commits h) x b.stamp) rs
          ∙ one-more start (commits h) (reads h) r b.stamp refl
          ∙ ap (λ x. x ++ (name, row_in start (commits h) name (version_at h name b.stamp)) ∷ [])
          (sym (answered-is start h b.stamp))
          ∙ ap (λ row. answered start h b.stamp ++ (name, row) ∷ [])
          (sym (row-seen-is start h name b.stamp)),
      same-open h g bs es,
      (λ last. same-last last h g bs),
      committed-is g ∙ ap (λ x. committed_of (commits g) x) bs ∙ ap
          (λ x. committed_of x (begun h)) cs ∙ sym (committed-is h),
    )

-- ---- a begin

readers-in : (h : List Entry) (stamp : ℕ) (event : Event) (base : OrderBase) (caller : ℕ)
    → Allows base h caller stamp event
    → All (λ r. (x : Begun) × Contains (begun h) x × (x.stamp ≡ r.reader)) (read_in h stamp event)
readers-in h stamp (Begin script) base caller allowed =
    All-nil (λ r. (x : Begun) × Contains (begun h) x × (x.stamp ≡ r.reader))
readers-in h stamp (Read name) base caller allowed =
    All-cons (λ r. (x : Begun) × Contains (begun h) x × (x.stamp ≡ r.reader))
    (record { reader = stamp; name = name; version = version_at h name stamp }) [] (
      record { caller = caller; stamp = stamp; script = allowed.0 },
      (open-begun h (record { caller = caller; stamp = stamp; script = allowed.0 }) allowed.1).0,
      refl,
    )
    (All-nil (λ r. (x : Begun) × Contains (begun h) x × (x.stamp ≡ r.reader)))
readers-in h stamp (Commits writes) base caller allowed =
    All-nil (λ r. (x : Begun) × Contains (begun h) x × (x.stamp ≡ r.reader))
readers-in h stamp Cancel base caller allowed =
    All-nil (λ r. (x : Begun) × Contains (begun h) x × (x.stamp ≡ r.reader))

abbrev ReadersBegun : List Entry → Type 0
ReadersBegun h = All (λ r. (x : Begun) × Contains (begun h) x × (x.stamp ≡ r.reader)) (reads h)

readers-step : (base : OrderBase) (h : List Entry) (caller stamp : ℕ) (event : Event)
    → ReadersBegun h → Allows base h caller stamp event
    → ReadersBegun (h ++ entry caller stamp event ∷ [])
readers-step base h caller stamp event p allowed =
    let g = h ++ entry caller stamp event ∷ [] in
    let P : VersionRead → Type 0 = λ r. (x : Begun) × Contains (begun h) x × (x.stamp ≡ r.reader) in
    let Q : VersionRead → Type 0 = λ r. (x : Begun) × Contains (begun g) x × (x.stamp ≡ r.reader) in
    let up : (r : VersionRead) → P r → Q r =
    λ r q. (
      q.0,
      subst (λ bs. Contains bs q.0) (sym (begun-push h caller stamp event))
          (Contains-append_left (begun h) (begun_in caller stamp event) q.0 q.1),
      q.2,
    ) in
    subst (All Q) (sym (reads-push h caller stamp event))
    (All-append Q (reads h) (read_in h stamp event) (All-weaker P Q up (reads h) p)
    (All-weaker P Q up (read_in h stamp event) (readers-in h stamp event base caller allowed)))

readers-start : ReadersBegun []
unfolding reads
readers-start = All-nil (λ r. (x : Begun) × Contains (begun []) x × (x.stamp ≡ r.reader))

readers-begun : (base : OrderBase) (h : List Entry) → IsOrderHistory base h → ReadersBegun h
unfolding IsOrderHistory
readers-begun base h all = allowed-from base ReadersBegun (readers-step base) [] h readers-start all

-- each reader is at most the last stamp
readers-low : (base : OrderBase) (h : List Entry) → IsOrderHistory base h
    → All (λ r. r.reader ≤ last_stamp base.last h) (reads h)
readers-low base h all = All-weaker (λ r. (x : Begun) × Contains (begun h) x × (x.stamp ≡ r.reader))
    (λ r. r.reader ≤ last_stamp base.last h)
    (λ r q. let w = counts-within base.last (begun h) q.0 (sound-history base h all).counted q.1 in
    omega (arith, w.1, q.2, last_stamp-is base.last h)) (reads h) (readers-begun base h all)

none-reads : (s : ℕ) (rs : List VersionRead) → All (λ r. r.reader < s) rs
    → filter (λ r. eqb r.reader s) rs ≡ []
none-reads s [] all = refl
none-reads s (r ∷ rs) all =
    let low = All-head (λ r. r.reader < s) r rs all in
    rw (ne_eqb r.reader s (λ same. omega (arith, low, same)))
    (none-reads s rs (All-tail (λ r. r.reader < s) r rs all))

pub begins-unread : BeginsUnread
begins-unread base h b all =
    let g = h ++ entry b.caller b.stamp (Begin b.script) ∷ [] in
    let s = history-split base h (entry b.caller b.stamp (Begin b.script) ∷ []) all in
    let next = (s.1.0).next in
    let sound = sound-history base h s.0 in
    let fresh : is_among b.stamp (ended_stamps h) ≡ false =
    fresh-unended base h b.stamp sound next in
    let bs : begun g ≡ begun h ++ b ∷ [] = begun-push h b.caller b.stamp (Begin b.script) in
    let es : ended_stamps g ≡ ended_stamps h =
    ended-push h b.caller b.stamp (Begin b.script) ∙ append-nil (ended_stamps h) in
    let rs : reads g ≡ reads h =
    reads-push h b.caller b.stamp (Begin b.script) ∙ append-nil (reads h) in
    let below = All-weaker (λ r. r.reader ≤ last_stamp base.last h) (λ r. r.reader < b.stamp)
    (λ r low. omega (arith, low, next)) (reads h) (readers-low base h s.0) in
    let test : List ℕ → Begun → Bool = λ ends x. not (is_among x.stamp ends) in
    let last : filter (test (ended_stamps h)) (b ∷ []) ≡ b ∷ [] = rw fresh refl in (
      begun-open g b (subst (λ x. Contains x b) (sym bs) (Contains-push (begun h) b))
          (subst (λ x. is_among b.stamp x ≡ false) (sym es) fresh),
      answered-is base.start g b.stamp
          ∙ ap (λ x. answers_in base.start (commits g) x b.stamp) rs
          ∙ ap (map (λ r. (r.name, row_in base.start (commits g) r.name r.version)))
          (none-reads b.stamp (reads h) below),
      open-is g ∙ ap (λ x. filter (test (ended_stamps g)) x) bs ∙ ap
          (λ x. filter (test x) (begun h ++ b ∷ [])) es
          ∙ filter-append (test (ended_stamps h)) (begun h) (b ∷ []) ∙ ap
          (λ x. filter (test (ended_stamps h)) (begun h) ++ x) last ∙ ap (λ x. x ++ b ∷ [])
          (sym (open-is h)),
      last_stamp-is base.last g ∙ ap (last_begun base.last) bs ∙ last_begun-push base.last
          (begun h) b,
    )

-- ---- an end

ends-filter : (s : ℕ) (es : List ℕ) (bs : List Begun)
    → filter (λ b. not (is_among b.stamp (es ++ s ∷ []))) bs
    ≡ filter (λ b. not (eqb b.stamp s)) (filter (λ b. not (is_among b.stamp es)) bs)
ends-filter s es [] = refl
ends-filter s es (b ∷ bs) =
    ap (λ t. cond (not t) (b ∷ filter (λ b. not (is_among b.stamp (es ++ s ∷ []))) bs)
    (filter (λ b. not (is_among b.stamp (es ++ s ∷ []))) bs))
    (list_any-append (λ m. eqb b.stamp m) es (s ∷ []))
    ∙ by (is_among b.stamp es) (eqb b.stamp s) refl (ends-filter s es bs)
  where
    by : (p q : Bool) → eqb b.stamp s ≡ q
        → filter (λ b. not (is_among b.stamp (es ++ s ∷ []))) bs
        ≡ filter (λ b. not (eqb b.stamp s)) (filter (λ b. not (is_among b.stamp es)) bs)
        → cond (not (p || (q || false)))
        (b ∷ filter (λ b. not (is_among b.stamp (es ++ s ∷ []))) bs)
        (filter (λ b. not (is_among b.stamp (es ++ s ∷ []))) bs)
        ≡ filter (λ b. not (eqb b.stamp s))
        (cond (not p) (b ∷ filter (λ b. not (is_among b.stamp es)) bs)
        (filter (λ b. not (is_among b.stamp es)) bs))
    by true q e rest = rest
    by false true e rest = rw e rest
    by false false e rest = rw e (ap (λ xs. b ∷ xs) rest)

ends-open : (h g : List Entry) (s : ℕ) → begun g ≡ begun h
    → ended_stamps g ≡ ended_stamps h ++ s ∷ [] → open_txns g ≡ open_without s h
ends-open h g s e f =
    open-is g ∙ ap (λ bs. filter (λ b. not (is_among b.stamp (ended_stamps g))) bs) e ∙ ap
    (λ es. filter (λ b. not (is_among b.stamp es)) (begun h)) f
    ∙ ends-filter s (ended_stamps h) (begun h) ∙ ap (λ bs. filter (λ b. not (eqb b.stamp s)) bs)
    (sym (open-is h))

pub ends-one : EndsOne
ends-one h b writes =
    let c = h ++ entry b.caller b.stamp (Commits writes) ∷ [] in
    let x = h ++ entry b.caller b.stamp Cancel ∷ [] in
    let cb : begun c ≡ begun h =
    begun-push h b.caller b.stamp (Commits writes) ∙ append-nil (begun h) in
    let xb : begun x ≡ begun h = begun-push h b.caller b.stamp Cancel ∙ append-nil (begun h) in (
      ends-open h c b.stamp cb (ended-push h b.caller b.stamp (Commits writes)),
      ends-open h x b.stamp xb (ended-push h b.caller b.stamp Cancel),
      (λ last. same-last last h c cb),
      (λ last. same-last last h x xb),
    )

-- ---- the greatest stamp

and-mid : (a b c : Bool) → b ≡ false → (a && b && c) ≡ false
and-mid true b c e = rw e refl
and-mid false b c e = refl

none-later : (name : RowName) (s v : ℕ) (rs : List VersionRead) → All (λ r. r.reader ≤ s) rs
    → filter (reads_version name s v) rs ≡ []
none-later name s v [] all = refl
none-later name s v (r ∷ rs) all =
    let low = All-head (λ r. r.reader ≤ s) r rs all in
    let no : ltb s r.reader ≡ false = elim (cases_Bool (ltb s r.reader)) [
      | inl lt ↦ absurd (omega (arith, ltb-true s r.reader lt, low))
      | inr e ↦ e
    ] in
    rw (and-mid (is_eq (row_name_cmp r.name name)) (ltb s r.reader) (eqb r.version v) no)
    (none-later name s v rs (All-tail (λ r. r.reader ≤ s) r rs all))

free-all : (h : List Entry) (s : ℕ) (ws : List Write) → All (λ r. r.reader ≤ s) (reads h)
    → flat_map (conflicts_on h s) ws ≡ []
free-all h s [] low = refl
free-all h s (w ∷ ws) low =
    rw (none-later w.name s (version_at h w.name s) (reads h) low) (free-all h s ws low)

pub last-is-free : LastIsFree
unfolding conflicts
last-is-free base h s ws all last =
    free-all h s ws
    (All-weaker (λ r. r.reader ≤ last_stamp base.last h) (λ r. r.reader ≤ s)
    (λ r low. omega (arith, low, last)) (reads h) (readers-low base h all))

-- ---- committed bodies

some-of : (o : Option ℕ) → (o ≡ None → ⊥) → IsSome o
some-of None not_none = absurd (not_none refl)
some-of (Some x) not_none = refl

committed-by : (h : List Entry) (b : Begun) (w : List Write) → Contains (begun h) b
    → lookup (λ n. eqb n b.stamp) (commits h) ≡ Some w
    → IsSome (committed_stamp b.script (committed h))
committed-by h b w there e =
    let t : Txn = record { script = b.script; stamp = b.stamp; writes = w } in
    some-of (committed_stamp b.script (committed h))
    (λ none. none-committed b.script (committed h) t none
    (subst (λ ts. Contains ts t) (sym (committed-is h))
    (committed_of-contains (commits h) (begun h) b w there e)) refl)

begun-append : (h g : List Entry) → begun (h ++ g) ≡ begun h ++ begun g
unfolding begun
begun-append h g = flat_map-append (λ (e : Entry). begun_in e.caller e.stamp e.event) h g

commits-append : (h g : List Entry) → commits (h ++ g) ≡ commits h ++ commits g
unfolding commits
commits-append h g = flat_map-append (λ (e : Entry). committed_in e.stamp e.event) h g

pub commits-stay : CommitsStay
commits-stay h more script some = by (committed_stamp script (committed h)) refl some
  where
    by : (o : Option ℕ) → committed_stamp script (committed h) ≡ o → IsSome o
        → IsSome (committed_stamp script (committed (h ++ more)))
    by None e there = absurd cc
    by (Some s) e some_there =
        let c = committed-with h script s e in
        let there : Contains (begun (h ++ more)) c.0 =
        subst (λ bs. Contains bs c.0) (sym (begun-append h more))
        (Contains-append_left (begun h) (begun more) c.0 c.1) in
        let found : lookup (λ n. eqb n c.0.stamp) (commits (h ++ more)) ≡ Some c.4.0 =
        ap (λ cs. lookup (λ n. eqb n c.0.stamp) cs)
        (commits-append h more) ∙ lookup-more c.0.stamp (commits h)
        (commits more) c.4.0 c.4.1 in
        subst (λ n. IsSome (committed_stamp n (committed (h ++ more)))) c.2
        (committed-by (h ++ more) c.0 c.4.0 there found)

pub commit-counts : CommitCounts
commit-counts h b writes is_open =
    let g = h ++ entry b.caller b.stamp (Commits writes) ∷ [] in
    let o = open-begun h b is_open in
    let there : Contains (begun g) b =
    subst (λ bs. Contains bs b)
    (sym (begun-push h b.caller b.stamp (Commits writes) ∙ append-nil (begun h))) o.0 in
    let same : eqb b.stamp b.stamp ≡ true = eq-eqb b.stamp b.stamp refl in
    let found : lookup (λ n. eqb n b.stamp) (commits g) ≡ Some writes =
    ap (λ cs. lookup (λ n. eqb n b.stamp) cs)
    (commits-push h b.caller b.stamp (Commits writes)) ∙ lookup-push b.stamp (commits h)
    (b.stamp, writes) (uncommitted h b.stamp o.1) ∙ rw same refl in
    committed-by g b writes there found
