-- The committed transactions, in the order of their stamps, are a serial run.
use Rattle.std.proofs.Common.{◌≡◌, ◌<◌, ◌≤◌, ◌+◌, ◌^◌, ◌⊎◌, ℕ, zero, suc, Bool, true, false, cond}
use Rattle.std.proofs.Common.{◌&&◌, max, eqb, ltb, true≢false, List, [], ◌∷◌, ◌++◌, length, map}
use Rattle.std.proofs.Common.{Option, Some, None, is_some, inl, inr, refl, ap, sym, subst, ◌∙◌}
use Rattle.std.proofs.Common.{append_assoc, arith}
use Rattle.std.specs.FinMap.{get}
use Rattle.std.specs.List.{All, AllZip, AllByRecursion, Contains, IsDistinct, filter, flat_map}
use Rattle.std.specs.Map.{lookup}
use Rattle.std.specs.Prelude.{nat_eq}
use Rattle.std.proofs.lemmas.Bool.{cases_Bool, cases_lt, and_from, and_right, and_left, ltb-true}
use Rattle.std.proofs.lemmas.Bool.{ltb-false, lt-ltb, le-ltb, eqb-true, eqb-false, eq-eqb, ne_eqb}
use Rattle.std.proofs.lemmas.List.{append-nil}
use Rattle.std.proofs.lemmas.List.Elements.{All-nil, All-cons, All-head, All-tail, All-append}
use Rattle.std.proofs.lemmas.List.Elements.{All-weaker, All-contains, All-contains_itself, All-map}
use Rattle.std.proofs.lemmas.List.Elements.{All-filter, filter_passes, recursion_from_All}
use Rattle.std.proofs.lemmas.List.Elements.{Contains-append_right}
use Rattle.c5_rows.specs.declared.cells.Cell.{Cell}
use Rattle.c5_rows.specs.declared.writes.RowName.{RowName}
use Rattle.c5_rows.specs.declared.writes.Change.{Change}
use Rattle.c5_rows.specs.declared.writes.Write.{Write}
use Rattle.c5_rows.specs.declared.writes.Txn.{Txn}
use Rattle.c5_rows.specs.State.{State, after_writes, after_txns}
use Rattle.c5_rows.specs.Writes.{IsAscending, change_of}
use Rattle.c5_definitions.specs.declared.script.Statement.{Statement}
use Rattle.c5_definitions.specs.declared.history.Entry.{Entry}
use Rattle.c5_definitions.specs.declared.history.OrderBase.{OrderBase}
use Rattle.c5_definitions.specs.Eval.{eval}
use Rattle.c5_definitions.specs.Follows.{Read as Answer, Follows, AnsweredBy}
use Rattle.c5_definitions.specs.Lawful.{StampsRise}
use Rattle.c5_definitions.specs.SerialRun.{body_at, serial_txns_from, script_numbers, AreAlike}
use Rattle.c5_definitions.specs.History.{Begun, VersionRead, begun, commits, ended_stamps, reads}
use Rattle.c5_definitions.specs.History.{writes_row, version_in, row_left, left_by}
use Rattle.c5_definitions.specs.OrderLog.{txn_of, committed, IsOrderHistory, IsStampOrderRun}
use Rattle.c5_order.proofs.Versions.{Commit, seen, version_in-yes, version_in-no}
use Rattle.c5_order.proofs.Versions.{version_in-attained, version_in-bound, version_in-is, Attains}
use Rattle.c5_order.proofs.Versions.{contains-head, contains-tail, lookup-contains}
use Rattle.c5_order.proofs.Histories.{CountsOn, counts-within, row_in, answers_in, OutcomeIn}
use Rattle.c5_order.proofs.Histories.{IsLive, Sound}
use Rattle.c5_order.proofs.Allowed.{committed_of, committed-is, sound-history}
use Rattle.c5_order.proofs.Rows.{left_or, get-after_writes}

-- ---- the commits in stamp order

abbrev pairs : List Txn → List Commit
pairs ts = map (λ t. (t.stamp, t.writes)) ts

pairs-none : (cs : List Commit) (v : ℕ) → lookup (λ n. eqb n v) cs ≡ None → (bs : List Begun)
    → lookup (λ n. eqb n v) (pairs (committed_of cs bs)) ≡ None
pairs-none cs v none [] = refl
pairs-none cs v none (b ∷ bs) = by (pairs-none cs v none bs) (lookup (λ n. eqb n b.stamp) cs) refl
  where
    by : lookup (λ n. eqb n v) (pairs (committed_of cs bs)) ≡ None → (o : Option (List Write))
        → lookup (λ n. eqb n b.stamp) cs ≡ o
        → lookup (λ n. eqb n v) (pairs (txn_of b o ++ committed_of cs bs)) ≡ None
    by rest None e = rest
    by rest (Some w) e =
        rw (ne_eqb b.stamp v (λ same. let bad : lookup (λ n. eqb n v) cs
        ≡ Some w = subst (λ s. lookup (λ n. eqb n s) cs ≡ Some w) same e in cc)) rest

pairs-some : (cs : List Commit) (v : ℕ) (w : List Write) → lookup (λ n. eqb n v) cs ≡ Some w
    → (bs : List Begun) (b : Begun) → Contains bs b → b.stamp ≡ v
    → lookup (λ n. eqb n v) (pairs (committed_of cs bs)) ≡ Some w
pairs-some cs v w found [] b (k, lt, is) same = absurd (omega arith)
pairs-some cs v w found (x ∷ bs) b (zero, lt, is) same =
    let here : x.stamp ≡ v = ap (λ (y : Begun). y.stamp) is ∙ same in
    let e : lookup (λ n. eqb n x.stamp) cs ≡ Some w =
    subst (λ s. lookup (λ n. eqb n s) cs ≡ Some w) (sym here) found in
    rw (e, eq-eqb x.stamp v here) refl
pairs-some cs v w found (x ∷ bs) b (suc k, lt, is) same =
    by (pairs-some cs v w found bs b (k, omega arith, is) same)
    (lookup (λ n. eqb n x.stamp) cs) refl
  where
    at : List Write → (t : Bool) → eqb x.stamp v ≡ t → (u : List Write)
        → lookup (λ n. eqb n x.stamp) cs ≡ Some u
        → lookup (λ n. eqb n v) (pairs (committed_of cs bs)) ≡ Some w
        → cond t (Some u) (lookup (λ n. eqb n v) (pairs (committed_of cs bs))) ≡ Some w
    at z true here u e rest = sym e ∙ subst (λ s. lookup (λ n. eqb n s) cs ≡ Some w)
        (sym (eqb-true x.stamp v here)) found
    at z false here u e rest = rest

    by : lookup (λ n. eqb n v) (pairs (committed_of cs bs)) ≡ Some w → (o : Option (List Write))
        → lookup (λ n. eqb n x.stamp) cs ≡ o
        → lookup (λ n. eqb n v) (pairs (txn_of x o ++ committed_of cs bs)) ≡ Some w
    by rest None e = rest
    by rest (Some u) e = at u (eqb x.stamp v) refl u e rest

-- each of them holds what holds of a committed one
pub each-committed : (P : Txn → Type 0) (cs : List Commit) (bs : List Begun)
    → ((b : Begun) → Contains bs b → (w : List Write) → lookup (λ n. eqb n b.stamp) cs ≡ Some w
    → P (record { script = b.script; stamp = b.stamp; writes = w })) → All P (committed_of cs bs)
each-committed P cs [] one = All-nil P
each-committed P cs (b ∷ bs) one =
    All-append P (txn_of b (lookup (λ n. eqb n b.stamp) cs)) (committed_of cs bs)
    (by (lookup (λ n. eqb n b.stamp) cs) refl)
    (each-committed P cs bs (λ a there. one a (contains-tail b bs a there)))
  where
    by : (o : Option (List Write)) → lookup (λ n. eqb n b.stamp) cs ≡ o → All P (txn_of b o)
    by None e = All-nil P
    by (Some w) e = All-cons P (record { script = b.script; stamp = b.stamp; writes = w }) []
        (one b (contains-head b bs) w e) (All-nil P)

module _ (base : OrderBase) (bs : List Begun) (cs : List Commit) (es : List ℕ)
    (rs : List VersionRead) (sound : Sound base bs cs es rs) where
  same-lookup : (v : ℕ) → lookup (λ n. eqb n v) (pairs (committed_of cs bs))
      ≡ lookup (λ n. eqb n v) cs
  same-lookup v = by (lookup (λ n. eqb n v) cs) refl
    where
      by : (o : Option (List Write)) → lookup (λ n. eqb n v) cs ≡ o
          → lookup (λ n. eqb n v) (pairs (committed_of cs bs)) ≡ o
      by None e = pairs-none cs v e bs
      by (Some w) e =
          let f = All-contains (λ c. (b : Begun) × Contains bs b × (b.stamp ≡ c.0)) cs
          (v, w) sound.from_begun (lookup-contains v cs w e) in
          pairs-some cs v w e bs f.0 f.1 f.2

  same-version : (name : RowName) (s : ℕ)
      → version_in name s (pairs (committed_of cs bs)) ≡ version_in name s cs
  same-version name s = version_in-is name s (pairs (committed_of cs bs)) (version_in name s cs)
      (elim (version_in-attained name s cs) [
        | inl z ↦ inl z
        | inr a ↦ inr (record {
          commit = a.commit;
          there = lookup-contains a.commit.0 (pairs (committed_of cs bs)) a.commit.1
              (same-lookup a.commit.0 ∙ All-contains
              (λ c. lookup (λ n. eqb n c.0) cs ≡ Some c.1) cs a.commit sound.once a.there);
          is_seen = a.is_seen;
          is = a.is;
        })
      ])
      (λ c there is. version_in-bound name s cs c
      (All-contains (Contains cs) (pairs (committed_of cs bs)) c
      (All-map (Contains cs) (λ t. (t.stamp, t.writes)) (committed_of cs bs)
      (each-committed (λ t. Contains cs (t.stamp, t.writes)) cs bs
      (λ b at w e. lookup-contains b.stamp cs w e))) there) is)

  same-row : (name : RowName) (v : ℕ) → row_in base.start (pairs (committed_of cs bs)) name v
      ≡ row_in base.start cs name v
  same-row name v = rw (same-lookup v) refl

-- ---- stamps that rise

rise-lower : (low high : ℕ) (ts : List Txn) → low ≤ high → StampsRise high ts → StampsRise low ts
rise-lower low high [] le rise = tt
rise-lower low high (t ∷ ts) le rise = (omega (arith, rise.0), rise.1, rise.2)

rise-all : (last : ℕ) (ts : List Txn) → StampsRise last ts → All (λ t. last < t.stamp) ts
rise-all last [] rise = All-nil (λ t. last < t.stamp)
rise-all last (t ∷ ts) rise = All-cons (λ t. last < t.stamp) t ts rise.0
    (All-weaker (λ x. t.stamp < x.stamp) (λ x. last < x.stamp) (λ x lt. omega (arith, rise.0)) ts
    (rise-all t.stamp ts rise.2))

committed-rise : (last : ℕ) (cs : List Commit) (bs : List Begun) → CountsOn last bs
    → All (λ b. b.stamp < 2 ^ 64) bs → StampsRise last (committed_of cs bs)
committed-rise last cs [] counts fit = tt
committed-rise last cs (b ∷ bs) counts fit =
    by (committed-rise b.stamp cs bs counts.1 (All-tail (λ b. b.stamp < 2 ^ 64) b bs fit))
    (lookup (λ n. eqb n b.stamp) cs)
  where
    by : StampsRise b.stamp (committed_of cs bs) → (o : Option (List Write))
        → StampsRise last (txn_of b o ++ committed_of cs bs)
    by rest None = rise-lower last b.stamp (committed_of cs bs) (omega (arith, counts.0)) rest
    by rest (Some w) = (omega (arith, counts.0), All-head (λ b. b.stamp < 2 ^ 64) b bs fit, rest)

-- ---- a row after the transactions below a stamp

abbrev pub below : ℕ → List Txn → List Txn
below s ts = filter (λ t. ltb t.stamp s) ts

-- what a version of the later ones leaves is what it leaves of them all
version-later : (start : State) (t : Txn) (cs : List Commit) (name : RowName) (v : ℕ) → t.stamp < v
    → row_in start ((t.stamp, t.writes) ∷ cs) name v ≡ row_in start cs name v
version-later start t cs name v lt = rw (ne_eqb t.stamp v (λ e. omega arith)) refl

-- a version above 0 does not depend on the start
start-free : (one two : State) (cs : List Commit) (name : RowName) (v : ℕ) → 1 ≤ v
    → row_in one cs name v ≡ row_in two cs name v
start-free one two cs name v some = rw (ne_eqb v 0 (λ e. omega arith)) refl

-- 0, or above the stamp that all are above
version-above : (last s : ℕ) (ts : List Txn) (name : RowName) → StampsRise last ts
    → (version_in name s (pairs ts) ≡ 0) ⊎ (last < version_in name s (pairs ts))
version-above last s ts name rise = elim (version_in-attained name s (pairs ts)) [
  | inl z ↦ inl z
  | inr a ↦
      let up = All-contains (λ c. last < c.0) (pairs ts) a.commit
      (All-map (λ c. last < c.0) (λ t. (t.stamp, t.writes)) ts (rise-all last ts rise)) a.there
      in
      inr (omega (arith, a.is, up))
]

left-change : (writes : List Write) (name : RowName) (change : Change)
    → change_of name writes ≡ Some change → left_by (Some writes) name ≡ row_left change
left-change writes name change e =
    ap (λ (o : Option Change). elim o [ None ↦ None | Some change ↦ row_left change ]) e

-- one transaction that wrote the row, or did not, before the version 0 of the later ones
row-first : (start : State) (t : Txn) (cs : List Commit) (name : RowName) (s : ℕ) → 1 ≤ t.stamp
    → ltb t.stamp s ≡ true → version_in name s cs ≡ 0 → (o : Option Change)
    → change_of name t.writes ≡ o
    → row_in start ((t.stamp, t.writes) ∷ cs) name (version_in name s ((t.stamp, t.writes) ∷ cs))
    ≡ left_or o (get start name)
row-first start t cs name s some under none None e =
    let v : version_in name s ((t.stamp, t.writes) ∷ cs) ≡ 0 =
    version_in-no name s (t.stamp, t.writes) cs
    (and_right (ltb t.stamp s) (writes_row name t.writes) (ap is_some e)) ∙ none in
    rw v refl
row-first start t cs name s some under none (Some change) e =
    let m : version_in name s ((t.stamp, t.writes) ∷ cs) ≡ max t.stamp (version_in name s cs) =
    version_in-yes name s (t.stamp, t.writes) cs
    (and_from (ltb t.stamp s) (writes_row name t.writes) under (ap is_some e)) in
    let v : version_in name s ((t.stamp, t.writes) ∷ cs) ≡ t.stamp = omega arith in
    ap (row_in start ((t.stamp, t.writes) ∷ cs) name) v ∙ rw
    (ne_eqb t.stamp 0 (λ z. omega arith), eq-eqb t.stamp t.stamp refl)
    (left-change t.writes name change e)

-- the version that a stamp sees is the row after the transactions below it
row-after : (last s : ℕ) (ts : List Txn) (start : State) (name : RowName) → StampsRise last ts
    → All (λ t. IsAscending t.writes) ts
    → row_in start (pairs ts) name (version_in name s (pairs ts))
    ≡ get (after_txns (below s ts) start) name
row-after last s [] start name rise up = refl
row-after last s (t ∷ ts) start name rise up =
    by (ltb t.stamp s) refl
    (λ st. row-after t.stamp s ts st name rise.2 (All-tail (λ t. IsAscending t.writes) t ts up))
    (version-above t.stamp s ts name rise.2)
  where
    cs : List Commit
    cs = pairs ts

    same_up : (t.stamp < version_in name s (pairs ts))
        → version_in name s ((t.stamp, t.writes) ∷ pairs ts) ≡ version_in name s (pairs ts)
    same_up lt = elim (cases_Bool (seen name s (t.stamp, t.writes))) [
      | inl e ↦ let m : version_in name s ((t.stamp, t.writes) ∷ pairs ts)
          ≡ max t.stamp (version_in name s (pairs ts)) =
          version_in-yes name s (t.stamp, t.writes) (pairs ts) e in omega arith
      | inr e ↦ version_in-no name s (t.stamp, t.writes) (pairs ts) e
    ]

    later : (one two : State) → (t.stamp < version_in name s (pairs ts))
        → row_in one ((t.stamp, t.writes) ∷ pairs ts) name
        (version_in name s ((t.stamp, t.writes) ∷ pairs ts))
        ≡ row_in two (pairs ts) name (version_in name s (pairs ts))
    later one two lt =
        ap (row_in one ((t.stamp, t.writes) ∷ pairs ts) name) (same_up lt)
        ∙ version-later one t (pairs ts) name (version_in name s (pairs ts)) lt
        ∙ start-free one two (pairs ts) name (version_in name s (pairs ts)) (omega arith)

    at_zero : (st : State) → version_in name s (pairs ts) ≡ 0
        → row_in st (pairs ts) name (version_in name s (pairs ts)) ≡ get st name
    at_zero st z = rw z refl

    by : (b : Bool) → ltb t.stamp s ≡ b
        → ((st : State) → row_in st (pairs ts) name (version_in name s (pairs ts))
        ≡ get (after_txns (below s ts) st) name) → (version_in name s (pairs ts) ≡ 0)
        ⊎ (t.stamp < version_in name s (pairs ts))
        → row_in start ((t.stamp, t.writes) ∷ pairs ts) name
        (version_in name s ((t.stamp, t.writes) ∷ pairs ts))
        ≡ get (after_txns (cond b (t ∷ below s ts) (below s ts)) start) name
    by true under rest (inr lt) =
        later start (after_writes t.writes start) lt ∙ rest (after_writes t.writes start)
    by true under rest (inl z) =
        row-first start t (pairs ts) name s (omega (arith, rise.0)) under z
        (change_of name t.writes) refl
        ∙ sym (get-after_writes t.writes start name (All-head (λ t. IsAscending t.writes) t ts up))
        ∙ sym (at_zero (after_writes t.writes start) z)
        ∙ rest (after_writes t.writes start)
    by false over rest (inr lt) = later start start lt ∙ rest start
    by false over rest (inl z) =
        let v : version_in name s ((t.stamp, t.writes) ∷ pairs ts) ≡ 0 =
        version_in-no name s (t.stamp, t.writes) (pairs ts)
        (and_left (ltb t.stamp s) (writes_row name t.writes) over) ∙ z in
        ap (row_in start ((t.stamp, t.writes) ∷ pairs ts) name) v ∙ sym
        (at_zero start z) ∙ rest start

-- ---- each transaction is that of its body

-- the law of evaluation
abbrev pub EvalLaw : Type 0
EvalLaw = (body : List Statement) (state : State) (answers : List Answer) (declined : Bool)
    (writes : List Write) → Follows body answers declined writes → AnsweredBy state answers
    → eval body state ≡ record { declined = declined; writes = writes }

abbrev pub IsOfBody : OrderBase → List Txn → Txn → Type 0
IsOfBody base all t = t.writes ≡
    (eval (body_at base.bodies t.script) (after_txns (below t.stamp all) base.start)).writes

all-both : {X : Type 0} (P Q R : X → Type 0) → ((x : X) → P x → Q x → R x) → (xs : List X)
    → All P xs → All Q xs → All R xs
all-both P Q R both xs p q = All-weaker (Contains xs) R
    (λ x there. both x (All-contains P xs x p there) (All-contains Q xs x q there)) xs
    (All-contains_itself xs)

module _ (law : EvalLaw) (base : OrderBase) (bs : List Begun) (cs : List Commit) (es : List ℕ)
    (rs : List VersionRead) (sound : Sound base bs cs es rs) where
  pub ascending : All (λ t. IsAscending t.writes) (committed_of cs bs)
  ascending = each-committed (λ t. IsAscending t.writes) cs bs
      (λ b there w e. (sound.outcomes b there w e).1)

  pub rising : StampsRise base.last (committed_of cs bs)
  rising = committed-rise base.last cs bs sound.counted sound.fit

  -- what a stamp has been answered is the state after the transactions below it
  answered-so : (s : ℕ) → AnsweredBy (after_txns (below s (committed_of cs bs)) base.start)
      (answers_in base.start cs rs s)
  answered-so s = recursion_from_All Q (answers_in base.start cs rs s)
      (All-map Q f (filter p rs)
      (all-both (λ r. version_in r.name r.reader cs ≡ r.version) (λ r. p r ≡ true)
      (λ r. Q (f r)) one (filter p rs)
      (All-filter p (λ r. version_in r.name r.reader cs ≡ r.version) rs sound.stay)
      (filter_passes p rs)))
    where
      p : VersionRead → Bool
      p r = eqb r.reader s

      Q : Answer → Type 0
      Q answer = answer.1 ≡ get (after_txns (below s (committed_of cs bs)) base.start) answer.0

      f : VersionRead → Answer
      f r = (r.name, row_in base.start cs r.name r.version)

      one : (r : VersionRead) → version_in r.name r.reader cs ≡ r.version → p r ≡ true → Q (f r)
      one r is mine =
          ap (row_in base.start cs r.name)
          (sym is ∙ ap (λ n. version_in r.name n cs) (eqb-true r.reader s mine) ∙ sym
          (same-version base bs cs es rs sound r.name s))
          ∙ sym (same-row base bs cs es rs sound r.name
          (version_in r.name s (pairs (committed_of cs bs))))
          ∙ row-after base.last s (committed_of cs bs) base.start r.name rising ascending

  pub of-bodies : All (IsOfBody base (committed_of cs bs)) (committed_of cs bs)
  of-bodies = each-committed (IsOfBody base (committed_of cs bs)) cs bs (λ b there w e.
      let o = (sound.outcomes b there w e).0 in
      sym (ap (λ r. r.writes)
      (law (body_at base.bodies b.script)
      (after_txns (below b.stamp (committed_of cs bs)) base.start)
      (answers_in base.start cs rs b.stamp) o.0 w o.1 (answered-so b.stamp))))

-- ---- one after the other

none-below : (s : ℕ) (ts : List Txn) → All (λ t. s ≤ t.stamp) ts → below s ts ≡ []
none-below s [] all = refl
none-below s (t ∷ ts) all = rw (le-ltb t.stamp s (All-head (λ t. s ≤ t.stamp) t ts all))
    (none-below s ts (All-tail (λ t. s ≤ t.stamp) t ts all))

-- those below a transaction are those before it
below-split : (last : ℕ) (done : List Txn) (t : Txn) (rest : List Txn)
    → StampsRise last (done ++ t ∷ rest) → below t.stamp (done ++ t ∷ rest) ≡ done
below-split last [] t rest rise =
    rw (le-ltb t.stamp t.stamp (omega arith))
    (none-below t.stamp rest
    (All-weaker (λ x. t.stamp < x.stamp) (λ x. t.stamp ≤ x.stamp) (λ x lt. omega arith) rest
    (rise-all t.stamp rest rise.2)))
below-split last (d ∷ done) t rest rise =
    let up : d.stamp < t.stamp =
    All-contains (λ x. d.stamp < x.stamp) (done ++ t ∷ rest) t
    (rise-all d.stamp (done ++ t ∷ rest) rise.2)
    (Contains-append_right done (t ∷ rest) t (contains-head t rest)) in
    rw (lt-ltb d.stamp t.stamp up) (ap (λ xs. d ∷ xs) (below-split d.stamp done t rest rise.2))

-- the writes of each are those of its body on the state after those before it
abbrev pub Runs : List (List Statement) → State → List Txn → Type 0
Runs bodies state [] = Unit {0}
Runs bodies state (t ∷ ts) = (t.writes ≡ (eval (body_at bodies t.script) state).writes)
    × Runs bodies (after_writes t.writes state) ts

after_txns-push : (txns : List Txn) (txn : Txn) (state : State)
    → after_txns (txns ++ txn ∷ []) state ≡ after_writes txn.writes (after_txns txns state)
after_txns-push [] txn state = refl
after_txns-push (first ∷ txns) txn state =
    after_txns-push txns txn (after_writes first.writes state)

runs-from : (base : OrderBase) (last : ℕ) (done rest : List Txn) → StampsRise last (done ++ rest)
    → All (IsOfBody base (done ++ rest)) rest → Runs base.bodies (after_txns done base.start) rest
runs-from base last done [] rise all = tt
runs-from base last done (t ∷ rest) rise all =
    let more : (done ++ t ∷ []) ++ rest ≡ done ++ t ∷ rest = append_assoc done (t ∷ []) rest in (
      All-head (IsOfBody base (done ++ t ∷ rest)) t rest all ∙ ap
          (λ ts. (eval (body_at base.bodies t.script) (after_txns ts base.start)).writes)
          (below-split last done t rest rise),
      subst (λ state. Runs base.bodies state rest) (after_txns-push done t base.start)
          (runs-from base last (done ++ t ∷ []) rest (subst (StampsRise last) (sym more) rise)
          (subst (λ ts. All (IsOfBody base ts) rest) (sym more)
          (All-tail (IsOfBody base (done ++ t ∷ rest)) t rest all))),
    )

alike-from : (bodies : List (List Statement)) (state : State) (stamp : ℕ) (ts : List Txn)
    → Runs bodies state ts → AreAlike ts (serial_txns_from stamp bodies state (script_numbers ts))
alike-from bodies state stamp [] runs = tt
alike-from bodies state stamp (t ∷ ts) runs = (
  (refl, runs.0),
  subst (λ writes. AreAlike ts
      (serial_txns_from (stamp + 1) bodies (after_writes writes state) (script_numbers ts)))
      runs.0 (alike-from bodies (after_writes t.writes state) (stamp + 1) ts runs.1),
)

-- ---- no body comes twice

distinct-nil : IsDistinct nat_eq (script_numbers [])
unfolding IsDistinct
distinct-nil = tt

distinct-cons : (t : Txn) (ts : List Txn) → All (λ u. eqb t.script u.script ≡ false) ts
    → IsDistinct nat_eq (script_numbers ts) → IsDistinct nat_eq (script_numbers (t ∷ ts))
unfolding IsDistinct
distinct-cons t ts others rest = (
  recursion_from_All (λ n. nat_eq t.script n ≡ false) (script_numbers ts)
      (All-map (λ n. nat_eq t.script n ≡ false) (λ u. u.script) ts others),
  rest,
)

abbrev IsCommitted : List Commit → Begun → Type 0
IsCommitted cs b = (w : List Write) × (lookup (λ n. eqb n b.stamp) cs ≡ Some w)

distinct : (cs : List Commit) (last : ℕ) (bs : List Begun) → CountsOn last bs
    → ((a b : Begun) → Contains bs a → Contains bs b → a.script ≡ b.script → IsCommitted cs a
    → IsCommitted cs b → a.stamp ≡ b.stamp)
    → IsDistinct nat_eq (script_numbers (committed_of cs bs))
distinct cs last [] counts one = distinct-nil
distinct cs last (b ∷ bs) counts one =
    by (distinct cs b.stamp bs counts.1
    (λ x y at there. one x y (contains-tail b bs x at) (contains-tail b bs y there)))
    (lookup (λ n. eqb n b.stamp) cs) refl
  where
    by : IsDistinct nat_eq (script_numbers (committed_of cs bs)) → (o : Option (List Write))
        → lookup (λ n. eqb n b.stamp) cs ≡ o
        → IsDistinct nat_eq (script_numbers (txn_of b o ++ committed_of cs bs))
    by rest None e = rest
    by rest (Some w) e = distinct-cons (record { script = b.script; stamp = b.stamp; writes = w })
        (committed_of cs bs)
        (each-committed (λ u. eqb b.script u.script ≡ false) cs bs
        (λ a there v f. ne_eqb b.script a.script (λ same.
        let up = counts-within b.stamp bs a counts.1 there in
        absurd (omega (
          arith,
          up.0,
          one b a (contains-head b bs) (contains-tail b bs a there) same (w, e)
              (v, f),
        ))))) rest

-- ---- the whole

pub serial-run : EvalLaw → (base : OrderBase) (h : List Entry) → IsOrderHistory base h
    → IsStampOrderRun base (committed h)
serial-run law base h is =
    let sound : Sound base (begun h) (commits h) (ended_stamps h) (reads h) =
    sound-history base h is in
    let ts : List Txn = committed_of (commits h) (begun h) in
    let rise : StampsRise base.last ts =
    rising law base (begun h) (commits h) (ended_stamps h) (reads h) sound in
    subst (IsStampOrderRun base) (sym (committed-is h)) (record {
      stamps = rise;
      known = each-committed (λ t. t.script < length base.bodies) (commits h) (begun h)
          (λ b there w e. All-contains (λ b. b.script < length base.bodies)
          (begun h) b sound.known there);
      once = distinct (commits h) base.last (begun h) sound.counted
          (λ a b at there same x y. sound.live a b at there same (inr x) (inr y));
      alike = alike-from base.bodies base.start 1 ts
          (runs-from base base.last [] ts rise
          (of-bodies law base (begun h) (commits h) (ended_stamps h) (reads h) sound));
    })
