-- An order book after one more entry.
use Rattle.std.proofs.Common.{◌≡◌, ◌<◌, ◌≤◌, ◌+◌, ◌^◌, ◌⊎◌, ℕ, zero, suc, Bool, true, false, cond}
use Rattle.std.proofs.Common.{not, ◌&&◌, eqb, true≢false, List, [], ◌∷◌, ◌++◌, length, map, set}
use Rattle.std.proofs.Common.{get_or, Option, Some, None, IsSome, Ok, Err, inl, inr, refl, ap, sym}
use Rattle.std.proofs.Common.{subst, ◌∙◌, arith}
use Rattle.std.specs.List.{All, AllZip, Contains}
use Rattle.std.specs.Map.{lookup}
use Rattle.std.specs.Ordering.{nat_cmp}
use Rattle.std.specs.BTreeMap.{BTreeMap, is_at}
use Rattle.std.specs.BTreeSet.{contains}
use Rattle.std.proofs.lemmas.Bool.{ne_eqb, eq-eqb, or_right, and_from}
use Rattle.std.proofs.lemmas.List.{append-nil}
use Rattle.std.proofs.lemmas.List.Folds.{list_any_none}
use Rattle.std.proofs.lemmas.List.Elements.{All-weaker, All-contains, Contains-push}
use mathlib.Core.List.{map-append}
use Rattle.c5_rows.specs.declared.writes.RowName.{RowName}
use Rattle.c5_rows.specs.declared.writes.Write.{Write}
use Rattle.c5_rows.specs.Writes.{IsAscending}
use Rattle.c5_definitions.specs.declared.history.Entry.{Entry}
use Rattle.c5_definitions.specs.declared.history.Event.{Event}
use Rattle.c5_definitions.specs.declared.history.Event.TheVariants.{Begin, Read, Commit as Commits}
use Rattle.c5_definitions.specs.declared.history.Event.TheVariants.{Cancel}
use Rattle.c5_definitions.specs.declared.history.OrderBase.{OrderBase}
use Rattle.c5_definitions.specs.History.{Begun, VersionRead, begun, commits, ended_stamps}
use Rattle.c5_definitions.specs.History.{last_begun, last_stamp, reads, version_at, open_txns}
use Rattle.c5_rows.specs.Numbers.{is_among}
use Rattle.c5_definitions.specs.OrderLog.{conflicts, committed, committed_stamp, open_stamp, IsOpen}
use Rattle.c5_definitions.specs.OrderLog.{IsOutcome, BeginsNext, Allows, IsOrderHistory}
use Rattle.c5_order.specs.declared.marks.VersionKey.{VersionKey}
use Rattle.c5_order.specs.declared.book.TxnState.{TxnState}
use Rattle.c5_order.specs.declared.book.BodyState.{BodyState}
use Rattle.c5_order.specs.declared.book.BodyState.TheVariants.{Free, Open, Committed}
use Rattle.c5_order.specs.declared.book.Book.{Book}
use Rattle.c5_order.specs.declared.answers.BeginFault.TheVariants as faults
use Rattle.c5_order.specs.Answers.{begin_answer}
use Rattle.c5_order.specs.Marks.{version_key, noted_mark, marked, mark_after_install}
use Rattle.c5_order.specs.Book.{writes_of_stamp, HoldsPlace, HoldsTxn, is_open, IsLiveTxn}
use Rattle.c5_order.specs.Book.{HoldsState, HoldsMarks, HoldsBook, base_of}
use Rattle.c5_order.proofs.Versions.{Commit, contains-head, contains-tail, lookup-push}
use Rattle.c5_order.proofs.Versions.{lookup-other}
use Rattle.c5_order.proofs.Histories.{entry, begun-push, commits-push, ended-push, reads-push}
use Rattle.c5_order.proofs.Histories.{history-push, CountsOn, counts-at, counts-within}
use Rattle.c5_order.proofs.Histories.{counts-unique, within-default, last_begun-push, open-begun}
use Rattle.c5_order.proofs.Histories.{begun-open, uncommitted, IsLive, Sound}
use Rattle.c5_order.proofs.Allowed.{SoundAt, last_stamp-is, sound-history}
use Rattle.c5_order.proofs.BookLemmas.{txns-more, txn-more, at_end, open-ends, open-begins}
use Rattle.c5_order.proofs.StateLemmas.{StateIn, state-in, state-out, state-along, state-begin}
use Rattle.c5_order.proofs.StateLemmas.{state-cancel, state-free, state-commit, state-committed}
use Rattle.c5_order.proofs.StateLemmas.{states-set, set-here, set-other}
use Rattle.c5_order.proofs.Readers.{marks-same, marks-read, marks-commit}
use Rattle.c5_order.proofs.Answering.{state-committed-is, state-open-is}

-- the parts of a book, but for the room that is left
pub record Parts (base : OrderBase) (last : ℕ) (h : List Entry) (ts : List TxnState) (o : ℕ → Bool)
    (sts : List BodyState) (m : BTreeMap VersionKey ℕ) : Type 0 where
  pub allowed : IsOrderHistory base h
  pub last_is : last ≡ last_stamp base.last h
  pub txns : AllZip (HoldsTxn h) (begun h) ts
  pub opened : (s : ℕ) → o s ≡ is_open s h
  pub count : length sts ≡ length base.bodies
  pub states : (n : ℕ) → n < length sts → HoldsState h n (get_or sts n Free)
  pub marks : HoldsMarks h m

pub parts-of : (book : Book) → HoldsBook book
    → Parts (base_of book) book.last book.history.items book.txns.items
    (contains nat_cmp book.open_stamps) book.states.items book.versions
parts-of book holds = record {
  allowed = holds.allowed;
  last_is = holds.last;
  txns = holds.txns;
  opened = holds.opened;
  count = holds.count;
  states = λ n lt. holds.states n (subst (λ k. n < k) holds.count lt);
  marks = holds.marks;
}

sound-parts : (base : OrderBase) (last : ℕ) (h : List Entry) (ts : List TxnState) (o : ℕ → Bool)
    (sts : List BodyState) (m : BTreeMap VersionKey ℕ) → Parts base last h ts o sts m
    → SoundAt base h
sound-parts base last h ts o sts m parts = sound-history base h parts.allowed

last-same : (last : ℕ) (h g : List Entry) → begun g ≡ begun h
    → last_stamp last g ≡ last_stamp last h
last-same last h g same = last_stamp-is last g ∙ ap (last_begun last) same ∙ sym
    (last_stamp-is last h)

set-length : {X : Type 0} (xs : List X) (i : ℕ) (v : X) → length (set xs i v) ≡ length xs
set-length [] i v = refl
set-length (x ∷ xs) zero v = refl
set-length (x ∷ xs) (suc i) v = ap suc (set-length xs i v)

-- ---- open stamps

among-map : (bs : List Begun) (b : Begun) → Contains bs b
    → is_among b.stamp (map (λ x. x.stamp) bs) ≡ true
among-map [] b (k, lt, is) = absurd (omega arith)
among-map (x ∷ bs) b (zero, lt, is) =
    rw (eq-eqb b.stamp x.stamp (sym (ap (λ (y : Begun). y.stamp) is))) refl
among-map (x ∷ bs) b (suc k, lt, is) =
    or_right (eqb b.stamp x.stamp) (is_among b.stamp (map (λ y. y.stamp) bs))
    (among-map bs b (k, omega arith, is))

pub is-open-true : (h : List Entry) (b : Begun) → IsOpen h b → is_open b.stamp h ≡ true
is-open-true h b is_open_b =
    let o = open-begun h b is_open_b in
    and_from (is_among b.stamp (map (λ x. x.stamp) (begun h)))
    (not (is_among b.stamp (ended_stamps h))) (among-map (begun h) b o.0) (ap not o.1)

-- the stamp is among the open ones
pub stamp-open : (book : Book) (b : Begun) (stamp : ℕ) → HoldsBook book
    → IsOpen book.history.items b → b.stamp ≡ stamp → contains nat_cmp book.open_stamps stamp ≡ true
stamp-open book b stamp holds is_open_b is =
    holds.opened stamp ∙ ap (λ s. is_open s book.history.items)
    (sym is) ∙ is-open-true book.history.items b is_open_b

-- ---- an end without a commit

pub cancel-parts : (base : OrderBase) (last : ℕ) (h : List Entry) (ts : List TxnState)
    (o p : ℕ → Bool) (sts : List BodyState) (m : BTreeMap VersionKey ℕ) (b : Begun)
    → Parts base last h ts o sts m → IsOpen h b
    → ((q : ℕ) → p q ≡ cond (is_at (nat_cmp b.stamp) q) false (o q))
    → Parts base last (h ++ entry b.caller b.stamp Cancel ∷ []) ts p (set sts b.script Free) m
cancel-parts base last h ts o p sts m b parts is_open_b is_p = record {
  allowed = history-push base h b.caller b.stamp Cancel parts.allowed (b.script, is_open_b);
  last_is = parts.last_is ∙ sym (last-same base.last h g bs);
  txns = subst (λ x. AllZip (HoldsTxn g) x ts) (sym bs)
      (txns-more h (entry b.caller b.stamp Cancel) (begun h) ts cs parts.txns);
  opened = λ q. is_p q ∙ ap (cond (is_at (nat_cmp b.stamp) q) false)
      (parts.opened q) ∙ open-ends q b.stamp (map (λ x. x.stamp) (begun h)) (ended_stamps h)
      ∙ ap (λ x. is_among q (map (λ y. y.stamp) x)
      && not (is_among q (ended_stamps h ++ b.stamp ∷ []))) (sym bs) ∙ ap
      (λ x. is_among q (map (λ y. y.stamp) (begun g)) && not (is_among q x)) (sym es);
  count = set-length sts b.script Free ∙ parts.count;
  states = λ n lt. states-set (HoldsState h) (HoldsState g) sts b.script Free known
      (state-out g b.script Free
      (along b.script Free
      (state-free base (begun h) (commits h) (ended_stamps h) (reads h) sound b there.0 there.1
      (uncommitted h b.stamp there.1))))
      (λ k st other holds. state-out g k st
      (along k st
      (state-cancel base (begun h) (commits h) (ended_stamps h)
      (reads h) sound b there.0 there.1 (uncommitted h b.stamp there.1) k st other
      (state-in h k st holds))))
      parts.states n (subst (λ k. n < k) (set-length sts b.script Free) lt);
  marks = marks-same h g m cs rs parts.marks;
} where
  g : List Entry
  g = h ++ entry b.caller b.stamp Cancel ∷ []

  bs : begun (h ++ entry b.caller b.stamp Cancel ∷ []) ≡ begun h
  bs = begun-push h b.caller b.stamp Cancel ∙ append-nil (begun h)

  cs : commits (h ++ entry b.caller b.stamp Cancel ∷ []) ≡ commits h
  cs = commits-push h b.caller b.stamp Cancel ∙ append-nil (commits h)

  es : ended_stamps (h ++ entry b.caller b.stamp Cancel ∷ []) ≡ ended_stamps h ++ b.stamp ∷ []
  es = ended-push h b.caller b.stamp Cancel

  rs : reads (h ++ entry b.caller b.stamp Cancel ∷ []) ≡ reads h
  rs = reads-push h b.caller b.stamp Cancel ∙ append-nil (reads h)

  sound : SoundAt base h
  sound = sound-parts base last h ts o sts m parts

  there : Contains (begun h) b × (is_among b.stamp (ended_stamps h) ≡ false)
  there = open-begun h b is_open_b

  known : b.script < length sts
  known = subst (λ n. b.script < n) (sym parts.count)
      (All-contains (λ b. b.script < length base.bodies) (begun h) b sound.known there.0)

  along : (n : ℕ) (st : BodyState)
      → StateIn (begun h) (commits h) (ended_stamps h ++ b.stamp ∷ []) n st
      → StateIn (begun g) (commits g) (ended_stamps g) n st
  along n st = state-along (begun h) (begun g) (commits h) (commits g)
      (ended_stamps h ++ b.stamp ∷ []) (ended_stamps g) n st (sym bs) (sym cs) (sym es)

pub cancel-book : (base : OrderBase) (last : ℕ) (h new : List Entry) (ts : List TxnState)
    (o p : ℕ → Bool) (sts : List BodyState) (m : BTreeMap VersionKey ℕ) (b : Begun) (t : TxnState)
    (stamp : ℕ)
    → Parts base last h ts o sts m → IsOpen h b → b.stamp ≡ stamp → HoldsTxn h b t
    → new ≡ h ++ entry t.caller stamp Cancel ∷ []
    → ((q : ℕ) → p q ≡ cond (is_at (nat_cmp stamp) q) false (o q))
    → Parts base last new ts p (set sts t.script Free) m
cancel-book base last h new ts o p sts m b t stamp parts is_open_b is noted items is_p =
    let e : new ≡ h ++ entry b.caller b.stamp Cancel ∷ [] =
    items ∙ ap (λ c. h ++ entry c stamp Cancel ∷ []) noted.caller ∙ ap
    (λ s. h ++ entry b.caller s Cancel ∷ []) (sym is) in
    subst (λ x. Parts base last x ts p (set sts t.script Free) m) (sym e)
    (subst (λ n. Parts base last (h ++ entry b.caller b.stamp Cancel ∷ []) ts p
    (set sts n Free) m) (sym noted.script)
    (cancel-parts base last h ts o p sts m b parts is_open_b
    (λ q. is_p q ∙ ap (λ s. cond (is_at (nat_cmp s) q) false (o q)) (sym is))))

-- ---- a read

pub read-parts : (base : OrderBase) (last : ℕ) (h : List Entry) (ts : List TxnState) (o : ℕ → Bool)
    (sts : List BodyState) (m n : BTreeMap VersionKey ℕ) (b : Begun) (name : RowName)
    → Parts base last h ts o sts m → IsOpen h b
    → (1 ≤ version_at h name b.stamp
    → IsSome (noted_mark m (version_key name (version_at h name b.stamp))))
    → ((q : VersionKey) → noted_mark n q
    ≡ marked (version_key name (version_at h name b.stamp)) b.stamp q (noted_mark m q))
    → Parts base last (h ++ entry b.caller b.stamp (Read name) ∷ []) ts o sts n
read-parts base last h ts o sts m n b name parts is_open_b has is_n = record {
  allowed = history-push base h b.caller b.stamp (Read name) parts.allowed (b.script, is_open_b);
  last_is = parts.last_is ∙ sym (last-same base.last h g bs);
  txns = subst (λ x. AllZip (HoldsTxn g) x ts) (sym bs)
      (txns-more h (entry b.caller b.stamp (Read name)) (begun h) ts cs parts.txns);
  opened = λ q. parts.opened q ∙ ap
      (λ x. is_among q (map (λ y. y.stamp) x) && not (is_among q (ended_stamps h))) (sym bs) ∙ ap
      (λ x. is_among q (map (λ y. y.stamp) (begun g)) && not (is_among q x)) (sym es);
  count = parts.count;
  states = λ k lt. state-out g k (get_or sts k Free)
      (state-along (begun h) (begun g) (commits h) (commits g) (ended_stamps h) (ended_stamps g) k
      (get_or sts k Free) (sym bs) (sym cs) (sym es)
      (state-in h k (get_or sts k Free) (parts.states k lt)));
  marks = marks-read h g m n
      (record { reader = b.stamp; name = name; version = version_at h name b.stamp }) cs
      (reads-push h b.caller b.stamp (Read name)) has is_n parts.marks;
} where
  g : List Entry
  g = h ++ entry b.caller b.stamp (Read name) ∷ []

  bs : begun (h ++ entry b.caller b.stamp (Read name) ∷ []) ≡ begun h
  bs = begun-push h b.caller b.stamp (Read name) ∙ append-nil (begun h)

  cs : commits (h ++ entry b.caller b.stamp (Read name) ∷ []) ≡ commits h
  cs = commits-push h b.caller b.stamp (Read name) ∙ append-nil (commits h)

  es : ended_stamps (h ++ entry b.caller b.stamp (Read name) ∷ []) ≡ ended_stamps h
  es = ended-push h b.caller b.stamp (Read name) ∙ append-nil (ended_stamps h)

-- ---- a begin

zip-push : (R : Begun → TxnState → Type 0) (bs : List Begun) (ts : List TxnState) (b : Begun)
    (t : TxnState) → AllZip R bs ts → R b t → AllZip R (bs ++ b ∷ []) (ts ++ t ∷ [])
zip-push R [] [] b t z r = (r, tt)
zip-push R [] (u ∷ ts) b t z r = absurd z
zip-push R (a ∷ bs) [] b t z r = absurd z
zip-push R (a ∷ bs) (u ∷ ts) b t z r = (z.0, zip-push R bs ts b t z.1 r)

map-push : (bs : List Begun) (b : Begun) → map (λ x. x.stamp) (bs ++ b ∷ [])
    ≡ map (λ x. x.stamp) bs ++ b.stamp ∷ []
map-push [] b = refl
map-push (x ∷ bs) b = ap (λ ns. x.stamp ∷ ns) (map-push bs b)

-- a stamp above the last one has not ended, and has no commit
pub fresh-unended : (base : OrderBase) (h : List Entry) (s : ℕ) → SoundAt base h
    → s ≡ last_stamp base.last h + 1 → is_among s (ended_stamps h) ≡ false
fresh-unended base h s sound next = list_any_none (λ m. eqb s m) (ended_stamps h)
    (All-weaker (λ t. (b : Begun) × Contains (begun h) b × (b.stamp ≡ t)) (λ t. eqb s t ≡ false)
    (λ t f. let w = counts-within base.last (begun h) f.0 sound.counted f.1 in
    ne_eqb s t (λ same. omega (arith, f.2, w.1, last_stamp-is base.last h)))
    (ended_stamps h) sound.ended_begun)

pub begin-parts : (base : OrderBase) (last : ℕ) (h : List Entry) (ts : List TxnState)
    (o p : ℕ → Bool) (sts : List BodyState) (m : BTreeMap VersionKey ℕ) (caller stamp script : ℕ)
    → Parts base last h ts o sts m → script < length base.bodies → HoldsState h script Free
    → stamp ≡ last + 1 → stamp < 2 ^ 64
    → ((q : ℕ) → p q ≡ cond (is_at (nat_cmp stamp) q) true (o q))
    → Parts base stamp (h ++ entry caller stamp (Begin script) ∷ [])
    (ts ++ record { caller = caller; script = script; place = None } ∷ []) p
    (set sts script (Open stamp)) m
begin-parts base last h ts o p sts m caller stamp script parts known free next fits is_p = record {
  allowed = history-push base h caller stamp (Begin script) parts.allowed (record {
    script_known = known;
    not_committed = state-committed-is base h sound script Free free;
    not_open = state-open-is base h sound script Free free;
    next = at;
    fits = fits;
  });
  last_is =
      sym (last_stamp-is base.last g ∙ ap (last_begun base.last) bs ∙ last_begun-push base.last
      (begun h) b);
  txns = subst
      (λ x. AllZip (HoldsTxn g) x
      (ts ++ record { caller = caller; script = script; place = None } ∷ [])) (sym bs)
      (zip-push (HoldsTxn g) (begun h) ts b
      (record { caller = caller; script = script; place = None })
      (txns-more h (entry caller stamp (Begin script)) (begun h) ts cs parts.txns)
      (record {
        caller = refl;
        script = refl;
        place = ap (λ c. lookup (λ n. eqb n stamp) c) cs ∙ uncommitted h stamp unended;
      }));
  opened = λ q. is_p q ∙ ap (cond (is_at (nat_cmp stamp) q) true)
      (parts.opened q) ∙ open-begins q stamp (map (λ x. x.stamp) (begun h)) (ended_stamps h) unended
      ∙ ap (λ x. is_among q x && not (is_among q (ended_stamps h)))
      (sym (ap (map (λ y. y.stamp)) bs ∙ map-push (begun h) b)) ∙ ap
      (λ x. is_among q (map (λ y. y.stamp) (begun g)) && not (is_among q x)) (sym es);
  count = set-length sts script (Open stamp) ∙ parts.count;
  states = λ n lt. states-set (HoldsState h) (HoldsState g) sts script (Open stamp)
      (subst (λ n. script < n) (sym parts.count) known) (
        b,
        begun-open g b (subst (λ x. Contains x b) (sym bs) (Contains-push (begun h) b))
            (ap (is_among stamp) es ∙ unended),
        refl,
        refl,
      )
      (λ k st other holds. state-out g k st
      (state-along (begun h ++ b ∷ []) (begun g) (commits h) (commits g) (ended_stamps h)
      (ended_stamps g) k st (sym bs) (sym cs) (sym es)
      (state-begin (begun h) (commits h) (ended_stamps h) b k st (λ same. other (sym same))
      (state-in h k st holds))))
      parts.states n (subst (λ k. n < k) (set-length sts script (Open stamp)) lt);
  marks = marks-same h g m cs rs parts.marks;
} where
  b : Begun
  b = record { caller = caller; stamp = stamp; script = script }

  g : List Entry
  g = h ++ entry caller stamp (Begin script) ∷ []

  bs : begun (h ++ entry caller stamp (Begin script) ∷ [])
      ≡ begun h ++ record { caller = caller; stamp = stamp; script = script } ∷ []
  bs = begun-push h caller stamp (Begin script)

  cs : commits (h ++ entry caller stamp (Begin script) ∷ []) ≡ commits h
  cs = commits-push h caller stamp (Begin script) ∙ append-nil (commits h)

  es : ended_stamps (h ++ entry caller stamp (Begin script) ∷ []) ≡ ended_stamps h
  es = ended-push h caller stamp (Begin script) ∙ append-nil (ended_stamps h)

  rs : reads (h ++ entry caller stamp (Begin script) ∷ []) ≡ reads h
  rs = reads-push h caller stamp (Begin script) ∙ append-nil (reads h)

  sound : SoundAt base h
  sound = sound-parts base last h ts o sts m parts

  at : stamp ≡ last_stamp base.last h + 1
  at = next ∙ ap (λ n. n + 1) parts.last_is

  unended : is_among stamp (ended_stamps h) ≡ false
  unended = fresh-unended base h stamp sound at

-- ---- a commit

zip-above : (h g : List Entry) (s last : ℕ) (bs : List Begun) (ts : List TxnState)
    → CountsOn last bs → s ≤ last
    → ((b : Begun) (t : TxnState) → (b.stamp ≡ s → ⊥) → HoldsTxn h b t → HoldsTxn g b t)
    → AllZip (HoldsTxn h) bs ts → AllZip (HoldsTxn g) bs ts
zip-above h g s last [] [] counts le other z = tt
zip-above h g s last [] (t ∷ ts) counts le other z = absurd z
zip-above h g s last (b ∷ bs) [] counts le other z = absurd z
zip-above h g s last (b ∷ bs) (t ∷ ts) counts le other z = (
  other b t (λ e. omega (arith, counts.0)) z.0,
  zip-above h g s b.stamp bs ts counts.1 (omega (arith, counts.0)) other z.1,
)

zip-set : (h g : List Entry) (s last : ℕ) (bs : List Begun) (ts : List TxnState) (k : ℕ)
    (v : TxnState) → CountsOn last bs → k + 1 + last ≡ s
    → ((b : Begun) (t : TxnState) → (b.stamp ≡ s → ⊥) → HoldsTxn h b t → HoldsTxn g b t)
    → ((b : Begun) → Contains bs b → b.stamp ≡ s → HoldsTxn g b v) → AllZip (HoldsTxn h) bs ts
    → AllZip (HoldsTxn g) bs (set ts k v)
zip-set h g s last [] [] k v counts at other here z = tt
zip-set h g s last [] (t ∷ ts) k v counts at other here z = absurd z
zip-set h g s last (b ∷ bs) [] k v counts at other here z = absurd z
zip-set h g s last (b ∷ bs) (t ∷ ts) zero v counts at other here z = (
  here b (contains-head b bs) (omega (arith, counts.0)),
  zip-above h g s b.stamp bs ts counts.1 (omega (arith, counts.0)) other z.1,
)
zip-set h g s last (b ∷ bs) (t ∷ ts) (suc k) v counts at other here z = (
  other b t (λ e. omega (arith, counts.0)) z.0,
  zip-set h g s b.stamp bs ts k v counts.1 (omega (arith, counts.0)) other
      (λ a there e. here a (contains-tail b bs a there) e) z.1,
)

pub commit-parts : (base : OrderBase) (last : ℕ) (h : List Entry) (ts : List TxnState)
    (o p : ℕ → Bool) (sts : List BodyState) (m n : BTreeMap VersionKey ℕ) (b : Begun) (k : ℕ)
    (writes : List Write)
    → Parts base last h ts o sts m → IsOpen h b → k + 1 + base.last ≡ b.stamp
    → IsOutcome base h b writes → IsAscending writes → conflicts h b.stamp writes ≡ []
    → ((q : ℕ) → p q ≡ cond (is_at (nat_cmp b.stamp) q) false (o q))
    → ((q : VersionKey) → noted_mark n q ≡ mark_after_install b.stamp writes q (noted_mark m q))
    → Parts base last (h ++ entry b.caller b.stamp (Commits writes) ∷ [])
    (set ts k (record { caller = b.caller; script = b.script; place = Some (length h) })) p
    (set sts b.script (Committed b.stamp)) n
commit-parts base last h ts o p sts m n b k writes parts is_open_b at outcome ascending none is_p
    is_n = record {
      allowed = history-push base h b.caller b.stamp (Commits writes) parts.allowed
          (b.script, is_open_b, outcome, ascending, none);
      last_is = parts.last_is ∙ sym (last-same base.last h g bs);
      txns = subst (λ x. AllZip (HoldsTxn g) x (set ts k v)) (sym bs)
          (zip-set h g b.stamp base.last (begun h) ts k v sound.counted at
          (λ a t other holds. txn-more h (entry b.caller b.stamp (Commits writes)) a t
          (ap (λ c. lookup (λ n. eqb n a.stamp) c) cs ∙ lookup-other a.stamp b.stamp writes
          (commits h) other) holds)
          (λ a there same. subst (λ x. HoldsTxn g x v)
          (sym (counts-unique base.last (begun h) a b sound.counted there open_b.0 same)) (record {
            caller = refl;
            script = refl;
            place = (b.caller, writes, at_end h (entry b.caller b.stamp (Commits writes)), found);
          })) parts.txns);
      opened = λ q. is_p q ∙ ap (cond (is_at (nat_cmp b.stamp) q) false)
          (parts.opened q) ∙ open-ends q b.stamp (map (λ x. x.stamp) (begun h)) (ended_stamps h)
          ∙ ap (λ x. is_among q (map (λ y. y.stamp) x)
          && not (is_among q (ended_stamps h ++ b.stamp ∷ []))) (sym bs) ∙ ap
          (λ x. is_among q (map (λ y. y.stamp) (begun g)) && not (is_among q x)) (sym es);
      count = set-length sts b.script (Committed b.stamp) ∙ parts.count;
      states = λ i lt. states-set (HoldsState h) (HoldsState g) sts b.script (Committed b.stamp)
          (subst (λ n. b.script < n) (sym parts.count)
          (All-contains (λ b. b.script < length base.bodies) (begun h) b sound.known open_b.0))
          (state-out g b.script (Committed b.stamp)
          (along b.script (Committed b.stamp)
          (state-committed base (begun h) (commits h) (ended_stamps h)
          (reads h) sound b open_b.0 open_b.1 unsaid writes)))
          (λ j st other holds. state-out g j st
          (along j st
          (state-commit base (begun h) (commits h) (ended_stamps h)
          (reads h) sound b open_b.0 open_b.1 unsaid writes j st other (state-in h j st holds))))
          parts.states i (subst (λ n. i < n) (set-length sts b.script (Committed b.stamp)) lt);
      marks = marks-commit h g m n b.stamp writes cs rs
          (omega (arith, (counts-within base.last (begun h) b sound.counted open_b.0).0))
          unsaid is_n parts.marks;
    } where
      g : List Entry
      g = h ++ entry b.caller b.stamp (Commits writes) ∷ []

      v : TxnState
      v = record { caller = b.caller; script = b.script; place = Some (length h) }

      bs : begun (h ++ entry b.caller b.stamp (Commits writes) ∷ []) ≡ begun h
      bs = begun-push h b.caller b.stamp (Commits writes) ∙ append-nil (begun h)

      cs : commits (h ++ entry b.caller b.stamp (Commits writes) ∷ [])
          ≡ commits h ++ (b.stamp, writes) ∷ []
      cs = commits-push h b.caller b.stamp (Commits writes)

      es : ended_stamps (h ++ entry b.caller b.stamp (Commits writes) ∷ [])
          ≡ ended_stamps h ++ b.stamp ∷ []
      es = ended-push h b.caller b.stamp (Commits writes)

      rs : reads (h ++ entry b.caller b.stamp (Commits writes) ∷ []) ≡ reads h
      rs = reads-push h b.caller b.stamp (Commits writes) ∙ append-nil (reads h)

      sound : SoundAt base h
      sound = sound-parts base last h ts o sts m parts

      open_b : Contains (begun h) b × (is_among b.stamp (ended_stamps h) ≡ false)
      open_b = open-begun h b is_open_b

      unsaid : lookup (λ n. eqb n b.stamp) (commits h) ≡ None
      unsaid = uncommitted h b.stamp open_b.1

      found : lookup (λ n. eqb n b.stamp)
          (commits (h ++ entry b.caller b.stamp (Commits writes) ∷ [])) ≡ Some writes
      found = ap (λ c. lookup (λ n. eqb n b.stamp) c) cs ∙ lookup-push b.stamp (commits h)
          (b.stamp, writes) unsaid
          ∙ ap (λ t. cond t (Some writes) None) (eq-eqb b.stamp b.stamp refl)

      along : (i : ℕ) (st : BodyState)
          → StateIn (begun h) (commits h ++ (b.stamp, writes) ∷ [])
          (ended_stamps h ++ b.stamp ∷ []) i st
          → StateIn (begun g) (commits g) (ended_stamps g) i st
      along i st = state-along (begun h) (begun g) (commits h ++ (b.stamp, writes) ∷ []) (commits g)
          (ended_stamps h ++ b.stamp ∷ []) (ended_stamps g) i st (sym bs) (sym cs) (sym es)

pub begin-book : (base : OrderBase) (last : ℕ) (h new : List Entry) (ts us : List TxnState)
    (o p : ℕ → Bool) (sts : List BodyState) (m : BTreeMap VersionKey ℕ) (caller script : ℕ)
    → Parts base last h ts o sts m → script < length base.bodies → HoldsState h script Free
    → last + 1 < 2 ^ 64 → ((q : ℕ) → p q ≡ cond (is_at (nat_cmp (last + 1)) q) true (o q))
    → new ≡ h ++ entry caller (last + 1) (Begin script) ∷ []
    → us ≡ ts ++ record { caller = caller; script = script; place = None } ∷ []
    → Parts base (last + 1) new us p (set sts script (Open (last + 1))) m
begin-book base last h new ts us o p sts m caller script parts known free fits is_p items noted =
    subst (λ x. Parts base (last + 1) x us p (set sts script (Open (last + 1))) m) (sym items)
    (subst (λ x. Parts base (last + 1) (h ++ entry caller (last + 1) (Begin script) ∷ []) x p
    (set sts script (Open (last + 1))) m) (sym noted)
    (begin-parts base last h ts o p sts m caller (last + 1) script parts known free refl fits is_p))

pub read-book : (base : OrderBase) (last : ℕ) (h new : List Entry) (ts : List TxnState)
    (o : ℕ → Bool) (sts : List BodyState) (m n : BTreeMap VersionKey ℕ) (b : Begun) (t : TxnState)
    (stamp version : ℕ) (name : RowName)
    → Parts base last h ts o sts m → IsOpen h b → b.stamp ≡ stamp → HoldsTxn h b t
    → version ≡ version_at h name stamp
    → (1 ≤ version → IsSome (noted_mark m (version_key name version)))
    → ((q : VersionKey) → noted_mark n q
    ≡ marked (version_key name version) stamp q (noted_mark m q))
    → new ≡ h ++ entry t.caller stamp (Read name) ∷ [] → Parts base last new ts o sts n
read-book base last h new ts o sts m n b t stamp version name parts is_open_b is noted seen has is_n
    items =
    let e : new ≡ h ++ entry b.caller b.stamp (Read name) ∷ [] =
    items ∙ ap (λ c. h ++ entry c stamp (Read name) ∷ []) noted.caller ∙ ap
    (λ s. h ++ entry b.caller s (Read name) ∷ []) (sym is) in
    let v : version ≡ version_at h name b.stamp = seen ∙ ap (version_at h name) (sym is) in
    subst (λ x. Parts base last x ts o sts n) (sym e)
    (read-parts base last h ts o sts m n b name parts is_open_b
    (subst (λ w. 1 ≤ w → IsSome (noted_mark m (version_key name w))) v has)
    (λ q. is_n q ∙ ap (λ w. marked (version_key name w) stamp q (noted_mark m q)) v ∙ ap
    (λ s. marked (version_key name (version_at h name b.stamp)) s q (noted_mark m q)) (sym is)))

pub commit-book : (base : OrderBase) (last : ℕ) (h new : List Entry) (ts : List TxnState)
    (o p : ℕ → Bool) (sts : List BodyState) (m n : BTreeMap VersionKey ℕ) (b : Begun) (t : TxnState)
    (stamp k : ℕ) (writes copy : List Write)
    → Parts base last h ts o sts m → IsOpen h b → b.stamp ≡ stamp → HoldsTxn h b t
    → k + 1 + base.last ≡ stamp → IsOutcome base h b writes → IsAscending writes
    → conflicts h stamp writes ≡ [] → copy ≡ writes
    → ((q : ℕ) → p q ≡ cond (is_at (nat_cmp stamp) q) false (o q))
    → ((q : VersionKey) → noted_mark n q ≡ mark_after_install stamp writes q (noted_mark m q))
    → new ≡ h ++ entry t.caller stamp (Commits copy) ∷ []
    → Parts base last new
    (set ts k (record { caller = t.caller; script = t.script; place = Some (length h) })) p
    (set sts t.script (Committed stamp)) n
commit-book base last h new ts o p sts m n b t stamp k writes copy parts is_open_b is noted at
    outcome ascending none same is_p is_n items =
    let e : new ≡ h ++ entry b.caller b.stamp (Commits writes) ∷ [] =
    items ∙ ap (λ c. h ++ entry c stamp (Commits copy) ∷ []) noted.caller ∙ ap
    (λ s. h ++ entry b.caller s (Commits copy) ∷ []) (sym is) ∙ ap
    (λ w. h ++ entry b.caller b.stamp (Commits w) ∷ []) same in
    let parts_b : Parts base last (h ++ entry b.caller b.stamp (Commits writes) ∷ [])
    (set ts k (record { caller = b.caller; script = b.script; place = Some (length h) })) p
    (set sts b.script (Committed b.stamp)) n =
    commit-parts base last h ts o p sts m n b k writes parts is_open_b
    (at ∙ sym is) outcome ascending (ap (λ s. conflicts h s writes) is ∙ none)
    (λ q. is_p q ∙ ap (λ s. cond (is_at (nat_cmp s) q) false (o q)) (sym is))
    (λ q. is_n q ∙ ap (λ s. mark_after_install s writes q (noted_mark m q)) (sym is)) in
    subst (λ x. Parts base last x
    (set ts k (record { caller = t.caller; script = t.script; place = Some (length h) })) p
    (set sts t.script (Committed stamp)) n) (sym e)
    (subst (λ s. Parts base last (h ++ entry b.caller b.stamp (Commits writes) ∷ [])
    (set ts k (record { caller = t.caller; script = t.script; place = Some (length h) })) p
    (set sts t.script (Committed s)) n) is
    (subst (λ c. Parts base last (h ++ entry b.caller b.stamp (Commits writes) ∷ [])
    (set ts k (record { caller = c; script = t.script; place = Some (length h) })) p
    (set sts t.script (Committed b.stamp)) n) (sym noted.caller)
    (subst (λ s. Parts base last (h ++ entry b.caller b.stamp (Commits writes) ∷ [])
    (set ts k (record { caller = b.caller; script = s; place = Some (length h) })) p
    (set sts s (Committed b.stamp)) n) (sym noted.script) parts_b)))

pub one-at-most : (b : Bool) → cond b 1 0 ≤ 1
one-at-most true = omega arith
one-at-most false = omega arith

-- ---- what `begin` answers

pub state-at : (book : Book) (script : ℕ) (st : BodyState) → HoldsBook book
    → script < length book.bodies.now → st ≡ get_or book.states.items script st
    → HoldsState book.history.items script st
state-at book script st holds known is =
    subst (HoldsState book.history.items script)
    (within-default book.states.items script Free st
    (subst (λ n. script < n) (sym holds.count) known) ∙ sym is) (holds.states script known)

module _ (book : Book) (script : ℕ) (holds : HoldsBook book) where
  last-is : last_stamp book.first book.history.items ≡ book.last
  last-is = sym holds.last

  sound-book : SoundAt (base_of book) book.history.items
  sound-book = sound-history (base_of book) book.history.items holds.allowed

  pub answer-committed : (s : ℕ) → HoldsState book.history.items script (Committed s)
      → Err (faults.Committed s) ≡ begin_answer book.first book.history.items script
  answer-committed s state = rw
      (state-committed-is (base_of book) book.history.items sound-book script (Committed s) state)
      refl

  pub answer-open : (s : ℕ) → HoldsState book.history.items script (Open s)
      → Err (faults.Began s) ≡ begin_answer book.first book.history.items script
  answer-open s state =
      rw (
        state-committed-is (base_of book) book.history.items sound-book script (Open s) state,
        state-open-is (base_of book) book.history.items sound-book script (Open s) state,
      ) refl

  pub answer-last : HoldsState book.history.items script Free → book.last ≡ 18446744073709551615
      → Err (faults.Stamps book.last) ≡ begin_answer book.first book.history.items script
  answer-last state last =
      rw (
        state-committed-is (base_of book) book.history.items sound-book script Free state,
        state-open-is (base_of book) book.history.items sound-book script Free state,
        last-is,
        eq-eqb book.last 18446744073709551615 last,
      ) refl

  pub answer-next : HoldsState book.history.items script Free
      → (book.last ≡ 18446744073709551615 → ⊥)
      → Ok (book.last + 1) ≡ begin_answer book.first book.history.items script
  answer-next state last =
      rw (
        state-committed-is (base_of book) book.history.items sound-book script Free state,
        state-open-is (base_of book) book.history.items sound-book script Free state,
        last-is,
        ne_eqb book.last 18446744073709551615 last,
      ) refl
