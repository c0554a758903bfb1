-- Each allowed entry keeps what holds of a history.
use Rattle.std.proofs.Common.{◌≡◌, ◌<◌, ◌≤◌, ◌+◌, ◌^◌, ◌⊎◌, ℕ, zero, suc, Bool, true, false, cond}
use Rattle.std.proofs.Common.{not, ◌&&◌, ◌||◌, max, eqb, ltb, true≢false, List, [], ◌∷◌, ◌++◌}
use Rattle.std.proofs.Common.{length, map, get_or, Option, Some, None, Equal, Less, Greater}
use Rattle.std.proofs.Common.{Ordering, inl, inr, refl, ap, sym, subst, ◌∙◌, append_assoc, arith}
use Rattle.std.specs.List.{All, Contains, filter, flat_map, list_any}
use Rattle.std.specs.Map.{lookup}
use Rattle.std.specs.Ordering.{is_eq}
use Rattle.std.specs.Cmp.{tied_itself}
use Rattle.std.proofs.lemmas.Bool.{cases_Bool, cases_lt, cases_eq, and_parts, or_parts, ltb-true}
use Rattle.std.proofs.lemmas.Bool.{lt-ltb, eqb-true, eqb-false, eq-eqb, ne_eqb, both_ways}
use Rattle.std.proofs.lemmas.List.{append-nil}
use Rattle.std.proofs.lemmas.List.Folds.{list_any-append}
use Rattle.std.proofs.lemmas.List.Elements.{All-nil, All-cons, All-push, All-weaker, All-contains}
use Rattle.std.proofs.lemmas.List.Elements.{All-contains_itself, Contains-append_left}
use Rattle.std.proofs.lemmas.List.Elements.{Contains-append_right, Contains-push}
use Rattle.std.proofs.lemmas.List.Elements.{Contains-push_cases, Contains-append_cases}
use Rattle.c5_rows.specs.declared.writes.RowName.{RowName}
use Rattle.c5_rows.specs.declared.writes.Write.{Write}
use Rattle.c5_rows.specs.declared.writes.Txn.{Txn}
use Rattle.c5_rows.specs.Order.{row_name_cmp, row_name_cmp_total, row_name_cmp_exact}
use Rattle.c5_rows.specs.Writes.{IsAscending, change_of}
use Rattle.c5_definitions.specs.declared.history.Entry.{Entry}
use Rattle.c5_definitions.specs.declared.history.Event.{Event}
use Rattle.c5_definitions.specs.declared.history.Event.TheVariants.{Begin, Read, Commit as Commits}
use Rattle.c5_definitions.specs.declared.history.Event.TheVariants.{Cancel}
use Rattle.c5_definitions.specs.declared.history.OrderBase.{OrderBase}
use Rattle.c5_definitions.specs.Follows.{Follows}
use Rattle.c5_definitions.specs.SerialRun.{body_at}
use Rattle.c5_definitions.specs.History.{Begun, VersionRead, begun, commits, ended_stamps}
use Rattle.c5_definitions.specs.History.{open_txns, last_begun, last_stamp, writes_row, version_in}
use Rattle.c5_definitions.specs.History.{version_at, reads}
use Rattle.c5_rows.specs.Numbers.{is_among}
use Rattle.c5_definitions.specs.OrderLog.{Conflict, reads_version, conflicts_on, conflicts, txn_of}
use Rattle.c5_definitions.specs.OrderLog.{committed, committed_stamp, open_stamp, IsOpen, IsOutcome}
use Rattle.c5_definitions.specs.OrderLog.{BeginsNext, Allows}
use Rattle.c5_order.proofs.Versions.{Commit, seen, version_in-push_no, version_in-push_yes}
use Rattle.c5_order.proofs.Versions.{version_in-narrow, contains-head, contains-tail}
use Rattle.c5_order.proofs.Versions.{lookup-contains, lookup-more, lookup-push, lookup-none}
use Rattle.c5_order.proofs.Histories.{entry, begun-push, commits-push, ended-push, reads-push}
use Rattle.c5_order.proofs.Histories.{CountsOn, counts-push, counts-within, counts-unique}
use Rattle.c5_order.proofs.Histories.{open-begun, begun-open, filter-keeps, uncommitted, IsVersion}
use Rattle.c5_order.proofs.Histories.{answers_in, OutcomeIn, outcome-in, IsLive, Sound}
use Rattle.c5_order.proofs.Histories.{read-version, answers-kept}

-- ---- a stamp is begun

pub sound-begin : (base : OrderBase) (bs : List Begun) (cs : List Commit) (es : List ℕ)
    (rs : List VersionRead) (b : Begun) → Sound base bs cs es rs
    → b.stamp ≡ last_begun base.last bs + 1 → b.stamp < 2 ^ 64 → b.script < length base.bodies
    → ((a : Begun) → Contains bs a → a.script ≡ b.script → IsLive cs es a.stamp → ⊥)
    → Sound base (bs ++ b ∷ []) cs es rs
sound-begin base bs cs es rs b sound next fits known alone = record {
  counted = counts-push base.last bs b sound.counted next;
  fit = All-push (λ b. b.stamp < 2 ^ 64) bs b sound.fit fits;
  known = All-push (λ b. b.script < length base.bodies) bs b sound.known known;
  from_begun = All-weaker (λ c. (x : Begun) × Contains bs x × (x.stamp ≡ c.0))
      (λ c. (x : Begun) × Contains (bs ++ b ∷ []) x × (x.stamp ≡ c.0))
      (λ c h. (h.0, Contains-append_left bs (b ∷ []) h.0 h.1, h.2)) cs sound.from_begun;
  ended_begun = All-weaker (λ s. (x : Begun) × Contains bs x × (x.stamp ≡ s))
      (λ s. (x : Begun) × Contains (bs ++ b ∷ []) x × (x.stamp ≡ s))
      (λ s h. (h.0, Contains-append_left bs (b ∷ []) h.0 h.1, h.2)) es sound.ended_begun;
  once = sound.once;
  stay = sound.stay;
  outcomes = λ a there w e. elim (Contains-push_cases bs b a there) [
    | inl old ↦ sound.outcomes a old w e
    | inr same ↦
        let f = All-contains (λ c. (x : Begun) × Contains bs x × (x.stamp ≡ c.0)) cs
        (a.stamp, w) sound.from_begun (lookup-contains a.stamp cs w e) in
        absurd (omega (
          arith,
          (counts-within base.last bs f.0 sound.counted f.1).1,
          f.2,
          ap (λ (x : Begun). x.stamp) same,
        ))
  ];
  live = λ x y at of same lx ly. elim (Contains-push_cases bs b x at) [
    | inl ox ↦ elim (Contains-push_cases bs b y of) [
      | inl oy ↦ sound.live x y ox oy same lx ly
      | inr is ↦ absurd (alone x ox (same ∙ sym (ap (λ (z : Begun). z.script) is)) lx)
    ]
    | inr is ↦ elim (Contains-push_cases bs b y of) [
      | inl oy ↦ absurd (alone y oy (sym same ∙ sym (ap (λ (z : Begun). z.script) is)) ly)
      | inr at ↦ ap (λ (z : Begun). z.stamp) (sym is ∙ at)
    ]
  ];
}

-- ---- a row is read

same_answers : (base : OrderBase) (cs ds : List Commit) (rs qs : List VersionRead) (b : Begun)
    (w : List Write) → answers_in base.start ds qs b.stamp ≡ answers_in base.start cs rs b.stamp
    → OutcomeIn base cs rs b w → OutcomeIn base ds qs b w
same_answers base cs ds rs qs b w e o =
    (o.0, subst (λ answers. Follows (body_at base.bodies b.script) answers o.0 w) (sym e) o.1)

pub sound-read : (base : OrderBase) (bs : List Begun) (cs : List Commit) (es : List ℕ)
    (rs : List VersionRead) (r : VersionRead) → Sound base bs cs es rs
    → version_in r.name r.reader cs ≡ r.version → lookup (λ n. eqb n r.reader) cs ≡ None
    → Sound base bs cs es (rs ++ r ∷ [])
sound-read base bs cs es rs r sound is open_still = record {
  counted = sound.counted;
  fit = sound.fit;
  known = sound.known;
  from_begun = sound.from_begun;
  ended_begun = sound.ended_begun;
  once = sound.once;
  stay = All-push (λ r. version_in r.name r.reader cs ≡ r.version) rs r sound.stay is;
  outcomes = λ a there w e.
      let o = sound.outcomes a there w e in
      let other : eqb r.reader a.stamp ≡ false =
      ne_eqb r.reader a.stamp
      (λ same. let no : lookup (λ n. eqb n a.stamp) cs
      ≡ None = subst (λ s. lookup (λ n. eqb n s) cs ≡ None) same open_still in absurd cc) in
      let kept = answers-kept base.start cs [] rs (r ∷ []) a.stamp
      (read-version base bs cs es rs sound) (rw other refl) in (
        same_answers base cs cs rs (rs ++ r ∷ []) a w
            (subst (λ ds. answers_in base.start ds (rs ++ r ∷ []) a.stamp
            ≡ answers_in base.start cs rs a.stamp) (append-nil cs) kept) o.0,
        o.1,
      );
  live = sound.live;
}

-- ---- a stamp is cancelled

pub among-push : (s t : ℕ) (es : List ℕ) → is_among s (es ++ t ∷ []) ≡ false
    → (is_among s es ≡ false) × (s ≡ t → ⊥)
among-push s t es e =
    let p = or_parts (is_among s es) (eqb s t || false)
    (sym (list_any-append (λ m. eqb s m) es (t ∷ [])) ∙ e) in
    (p.0, eqb-false s t (or_parts (eqb s t) false p.1).0)

pub sound-cancel : (base : OrderBase) (bs : List Begun) (cs : List Commit) (es : List ℕ)
    (rs : List VersionRead) (s : ℕ) → ((b : Begun) × Contains bs b × (b.stamp ≡ s))
    → Sound base bs cs es rs → Sound base bs cs (es ++ s ∷ []) rs
sound-cancel base bs cs es rs s there sound = record {
  counted = sound.counted;
  fit = sound.fit;
  known = sound.known;
  from_begun = sound.from_begun;
  ended_begun =
      All-push (λ s. (b : Begun) × Contains bs b × (b.stamp ≡ s)) es s sound.ended_begun there;
  once = sound.once;
  stay = sound.stay;
  outcomes = sound.outcomes;
  live = λ a b at of same la lb. sound.live a b at of same (before a la) (before b lb);
} where
  before : (a : Begun) → IsLive cs (es ++ s ∷ []) a.stamp → IsLive cs es a.stamp
  before a (inl e) = inl (among-push a.stamp s es e).0
  before a (inr w) = inr w

-- ---- a stamp commits

-- no later stamp has read the version before this commit
abbrev pub NoneReads : List Commit → List VersionRead → ℕ → List Write → Type 0
NoneReads cs rs s writes =
    All (λ r. writes_row r.name writes ≡ true → s < r.reader → r.version ≡ version_in r.name s cs
    → ⊥) rs

-- each reader still sees the version that it has read
still-read : (cs : List Commit) (s : ℕ) (writes : List Write) (r : VersionRead)
    → version_in r.name r.reader cs ≡ r.version
    → (writes_row r.name writes ≡ true → s < r.reader → r.version ≡ version_in r.name s cs → ⊥)
    → version_in r.name r.reader (cs ++ (s, writes) ∷ []) ≡ r.version
still-read cs s writes r is none = elim (cases_Bool (seen r.name r.reader (s, writes))) [
  | inr e ↦ version_in-push_no r.name r.reader cs (s, writes) e ∙ is
  | inl e ↦
      let p = and_parts (ltb s r.reader) (writes_row r.name writes) e in
      let below : s < r.reader = ltb-true s r.reader p.0 in
      let new : version_in r.name r.reader (cs ++ (s, writes) ∷ [])
      ≡ max s (version_in r.name r.reader cs) =
      version_in-push_yes r.name r.reader cs (s, writes) e in
      elim (cases_lt (version_in r.name r.reader cs) s) [
        | inl lt ↦ absurd
            (none p.1 below
            (sym is ∙ sym (version_in-narrow r.name s r.reader cs (omega arith) lt)))
        | inr le ↦ omega (arith, is)
      ]
]

pub sound-commit : (base : OrderBase) (bs : List Begun) (cs : List Commit) (es : List ℕ)
    (rs : List VersionRead) (b : Begun) (writes : List Write) → Sound base bs cs es rs
    → Contains bs b → is_among b.stamp es ≡ false → lookup (λ n. eqb n b.stamp) cs ≡ None
    → OutcomeIn base cs rs b writes → IsAscending writes → NoneReads cs rs b.stamp writes
    → Sound base bs (cs ++ (b.stamp, writes) ∷ []) (es ++ b.stamp ∷ []) rs
sound-commit base bs cs es rs b writes sound there unended uncommitted outcome ascending none =
    record {
      counted = sound.counted;
      fit = sound.fit;
      known = sound.known;
      from_begun = All-push (λ c. (x : Begun) × Contains bs x × (x.stamp ≡ c.0)) cs
          (b.stamp, writes) sound.from_begun (b, there, refl);
      ended_begun =
          All-push (λ s. (x : Begun) × Contains bs x × (x.stamp ≡ s)) es b.stamp sound.ended_begun
          (b, there, refl);
      once = All-push (λ c. lookup (λ n. eqb n c.0) (cs ++ (b.stamp, writes) ∷ []) ≡ Some c.1) cs
          (b.stamp, writes)
          (All-weaker (λ c. lookup (λ n. eqb n c.0) cs ≡ Some c.1)
          (λ c. lookup (λ n. eqb n c.0) (cs ++ (b.stamp, writes) ∷ []) ≡ Some c.1)
          (λ c. lookup-more c.0 cs ((b.stamp, writes) ∷ []) c.1) cs sound.once)
          (new b.stamp refl);
      stay = All-both (λ r. version_in r.name r.reader cs ≡ r.version)
          (λ r. writes_row r.name writes ≡ true → b.stamp < r.reader
          → r.version ≡ version_in r.name b.stamp cs → ⊥)
          (λ r. version_in r.name r.reader (cs ++ (b.stamp, writes) ∷ []) ≡ r.version)
          (λ r. still-read cs b.stamp writes r) rs sound.stay none;
      outcomes =
          λ a at w e. (let o = which a at w e (lookup (λ n. eqb n a.stamp) cs) refl in
          (same_answers base cs (cs ++ (b.stamp, writes) ∷ []) rs rs a w (kept a.stamp) o.0, o.1));
      live = λ x y at of same lx ly. sound.live x y at of same
          (before x lx (lookup (λ n. eqb n x.stamp) cs) refl)
          (before y ly (lookup (λ n. eqb n y.stamp) cs) refl);
    } where
      All-both : {X : Type 0} (P Q R : X → Type 0) → ((x : X) → P x → Q x → R x) → (xs : List X)
          → All P xs → All Q xs → All R xs
      All-both P Q R both xs p q = All-weaker (Contains xs) R
          (λ x in_xs. both x (All-contains P xs x p in_xs) (All-contains Q xs x q in_xs)) xs
          (All-contains_itself xs)

      new : (s : ℕ) → b.stamp ≡ s
          → lookup (λ n. eqb n s) (cs ++ (b.stamp, writes) ∷ []) ≡ Some writes
      new s same = lookup-push s cs (b.stamp, writes)
          (subst (λ n. lookup (λ m. eqb m n) cs ≡ None) same uncommitted) ∙ ap
          (λ t. cond t (Some writes) None) (eq-eqb b.stamp s same)

      kept : (s : ℕ) → answers_in base.start (cs ++ (b.stamp, writes) ∷ []) rs s
          ≡ answers_in base.start cs rs s
      kept s = subst (λ qs. answers_in base.start (cs ++ (b.stamp, writes) ∷ []) qs s
          ≡ answers_in base.start cs rs s) (append-nil rs)
          (answers-kept base.start cs ((b.stamp, writes) ∷ []) rs [] s
          (read-version base bs cs es rs sound) refl)

      is_new : (a : Begun) (w : List Write)
          → lookup (λ n. eqb n a.stamp) (cs ++ (b.stamp, writes) ∷ []) ≡ Some w
          → lookup (λ n. eqb n a.stamp) cs ≡ None → (b.stamp ≡ a.stamp) × (writes ≡ w)
      is_new a w e none = by (eqb b.stamp a.stamp) refl
          (sym (lookup-push a.stamp cs (b.stamp, writes) none) ∙ e)
        where
          by : (t : Bool) → eqb b.stamp a.stamp ≡ t → cond t (Some writes) None ≡ Some w
              → (b.stamp ≡ a.stamp) × (writes ≡ w)
          by true is e = (eqb-true b.stamp a.stamp is, cc)
          by false is e = absurd cc

      which : (a : Begun) → Contains bs a → (w : List Write)
          → lookup (λ n. eqb n a.stamp) (cs ++ (b.stamp, writes) ∷ []) ≡ Some w
          → (o : Option (List Write)) → lookup (λ n. eqb n a.stamp) cs ≡ o
          → OutcomeIn base cs rs a w × IsAscending w
      which a at w e (Some v) is = sound.outcomes a at w
          (let more = lookup-more a.stamp cs ((b.stamp, writes) ∷ []) v is in cc)
      which a at w e None is =
          let n = is_new a w e is in
          let same : b ≡ a = counts-unique base.last bs b a sound.counted there at n.0 in
          subst (λ x. OutcomeIn base cs rs x w × IsAscending w) same
          (subst (λ ws. OutcomeIn base cs rs b ws × IsAscending ws) n.1 (outcome, ascending))

      before : (a : Begun) → IsLive (cs ++ (b.stamp, writes) ∷ []) (es ++ b.stamp ∷ []) a.stamp
          → (o : Option (List Write)) → lookup (λ n. eqb n a.stamp) cs ≡ o → IsLive cs es a.stamp
      before a (inl e) o is = inl (among-push a.stamp b.stamp es e).0
      before a (inr w) (Some v) is = inr (v, is)
      before a (inr w) None is = inl
          (subst (λ s. is_among s es ≡ false) (is_new a w.0 w.1 is).0 unended)
