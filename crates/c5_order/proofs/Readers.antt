-- Readers and versions in the map, against the history.
use Rattle.std.proofs.Common.{◌≡◌, ◌<◌, ◌≤◌, ◌+◌, ◌⊎◌, ℕ, zero, suc, Bool, true, false, cond, ◌&&◌}
use Rattle.std.proofs.Common.{max, eqb, ltb, true≢false, List, [], ◌∷◌, ◌++◌, length, map, Option}
use Rattle.std.proofs.Common.{Some, None, IsSome, is_some, Equal, inl, inr, refl, ap, sym, subst}
use Rattle.std.proofs.Common.{◌∙◌, arith}
use Rattle.std.specs.Option.{unwrap_or}
use Rattle.std.specs.List.{All, Contains, filter, flat_map}
use Rattle.std.specs.Map.{lookup}
use Rattle.std.specs.Ordering.{is_eq, is_gt}
use Rattle.std.specs.Cmp.{both_ways, tied_itself}
use Rattle.std.specs.BTreeMap.{BTreeMap, is_at}
use Rattle.std.proofs.lemmas.Bool.{cases_Bool, cases_lt, cases_eq, and_parts, and_from, ltb-true}
use Rattle.std.proofs.lemmas.Bool.{lt-ltb, le-ltb, eqb-true, eq-eqb, ne_eqb}
use Rattle.std.proofs.lemmas.List.Elements.{All-contains, All-head, All-tail, All-weaker}
use Rattle.std.proofs.lemmas.List.Elements.{All-contains_itself}
use Rattle.c5_rows.specs.declared.writes.RowName.{RowName}
use Rattle.c5_rows.specs.declared.writes.Write.{Write}
use Rattle.c5_rows.specs.Order.{row_name_cmp, row_name_cmp_total}
use Rattle.c5_definitions.specs.declared.history.Entry.{Entry}
use Rattle.c5_definitions.specs.declared.history.OrderBase.{OrderBase}
use Rattle.c5_definitions.specs.History.{Begun, VersionRead, begun, commits, ended_stamps, reads}
use Rattle.c5_definitions.specs.History.{version_in, version_at, writes_row}
use Rattle.c5_order.specs.declared.marks.VersionKey.{VersionKey}
use Rattle.c5_order.specs.declared.marks.Found.{Found}
use Rattle.c5_order.specs.Marks.{version_key_cmp, version_key, noted_mark, IsMarkFoundBefore}
use Rattle.c5_order.specs.Marks.{marked, mark_after_install}
use Rattle.c5_order.specs.Book.{writes_of_stamp, wrote_row, greatest_reader, HoldsMarks}
use Rattle.c5_order.proofs.Versions.{Commit, contains-head, contains-tail, seen, version_in-is}
use Rattle.c5_order.proofs.Versions.{Attains, lookup-contains, lookup-more, lookup-push}
use Rattle.c5_order.proofs.Histories.{counts-within, Sound}
use Rattle.c5_order.proofs.Allowed.{equal_names, same_name, version_at-is}
use Rattle.c5_order.proofs.MarkLemmas.{key-test}

-- whether a read is of this version
abbrev pub is_of : RowName → ℕ → VersionRead → Bool
is_of name v r = is_eq (row_name_cmp r.name name) && eqb r.version v

pub reader-push : (name : RowName) (v : ℕ) (rs : List VersionRead) (r : VersionRead)
    → greatest_reader name v (rs ++ r ∷ [])
    ≡ cond (is_of name v r) (max r.reader (greatest_reader name v rs)) (greatest_reader name v rs)
reader-push name v [] r = refl
reader-push name v (x ∷ rs) r =
    by (is_of name v x) (is_of name v r) (greatest_reader name v rs)
    (greatest_reader name v (rs ++ r ∷ [])) (reader-push name v rs r)
  where
    by : (bx br : Bool) (g w : ℕ) → w ≡ cond br (max r.reader g) g
        → cond bx (max x.reader w) w
        ≡ cond br (max r.reader (cond bx (max x.reader g) g)) (cond bx (max x.reader g) g)
    by true true g w e = omega arith
    by true false g w e = ap (max x.reader) e
    by false true g w e = e
    by false false g w e = e

-- each reader is at most the greatest
pub reader-bound : (name : RowName) (v : ℕ) (rs : List VersionRead) (r : VersionRead)
    → Contains rs r → is_of name v r ≡ true → r.reader ≤ greatest_reader name v rs
reader-bound name v [] r (k, lt, is) of_it = absurd (omega arith)
reader-bound name v (x ∷ rs) r (zero, lt, is) of_it =
    let here : is_of name v x ≡ true = ap (is_of name v) is ∙ of_it in
    let g : greatest_reader name v (x ∷ rs) ≡ max x.reader (greatest_reader name v rs) =
    rw here refl in
    omega (arith, ap (λ (y : VersionRead). y.reader) is)
reader-bound name v (x ∷ rs) r (suc k, lt, is) of_it =
    by (is_of name v x) (greatest_reader name v rs)
    (reader-bound name v rs r (k, omega arith, is) of_it)
  where
    by : (b : Bool) (g : ℕ) → r.reader ≤ g → r.reader ≤ cond b (max x.reader g) g
    by true g le = omega arith
    by false g le = le

-- a greatest reader above 0 is a reader
pub record IsReader (name : RowName) (v : ℕ) (rs : List VersionRead) (n : ℕ) : Type 0 where
  pub entry : VersionRead
  pub there : Contains rs entry
  pub of_it : is_of name v entry ≡ true
  pub is : entry.reader ≡ n

pub reader-found : (name : RowName) (v : ℕ) (rs : List VersionRead) → 1 ≤ greatest_reader name v rs
    → IsReader name v rs (greatest_reader name v rs)
reader-found name v [] some = absurd (omega arith)
reader-found name v (x ∷ rs) some = by (is_of name v x) refl (reader-found name v rs) some
  where
    later : (n : ℕ) → IsReader name v rs n → IsReader name v (x ∷ rs) n
    later n r =
        record {
          entry = r.entry;
          there = contains-tail x rs r.entry r.there;
          of_it = r.of_it;
          is = r.is;
        }

    by : (b : Bool) → is_of name v x ≡ b
        → (1 ≤ greatest_reader name v rs → IsReader name v rs (greatest_reader name v rs))
        → 1 ≤ cond b (max x.reader (greatest_reader name v rs)) (greatest_reader name v rs)
        → IsReader name v (x ∷ rs)
        (cond b (max x.reader (greatest_reader name v rs)) (greatest_reader name v rs))
    by true e rest some = elim (cases_lt x.reader (greatest_reader name v rs)) [
      | inl lt ↦
          let same : greatest_reader name v rs ≡ max x.reader (greatest_reader name v rs) =
          omega arith in
          later (max x.reader (greatest_reader name v rs))
          (subst (IsReader name v rs) same (rest (omega arith)))
      | inr le ↦ record { entry = x; there = contains-head x rs; of_it = e; is = omega arith }
    ]
    by false e rest some = later (greatest_reader name v rs) (rest some)

-- ---- one more read, or commit

same-test : (name other : RowName) (v w : ℕ)
    → (eqb v w && is_eq (row_name_cmp name other)) ≡ (is_eq (row_name_cmp other name) && eqb w v)
same-test name other v w = both_ways (eqb v w && is_eq (row_name_cmp name other))
    (is_eq (row_name_cmp other name) && eqb w v)
    (λ e. let p = and_parts (eqb v w) (is_eq (row_name_cmp name other)) e in
    and_from (is_eq (row_name_cmp other name)) (eqb w v)
    (subst (λ n. is_eq (row_name_cmp other n) ≡ true) (sym (equal_names name other p.1))
    (same_name other)) (eq-eqb w v (sym (eqb-true v w p.0))))
    (λ e. let p = and_parts (is_eq (row_name_cmp other name)) (eqb w v) e in
    and_from (eqb v w) (is_eq (row_name_cmp name other)) (eq-eqb v w (sym (eqb-true w v p.1)))
    (subst (λ n. is_eq (row_name_cmp name n) ≡ true) (sym (equal_names other name p.0))
    (same_name name)))

not_some : (o : Option ℕ) → is_some o ≡ false → o ≡ None
not_some None e = refl
not_some (Some x) e = absurd (true≢false e)

is_a_some : (o : Option ℕ) → is_some o ≡ true → IsSome o
is_a_some None e = absurd cc
is_a_some (Some x) e = refl

some_is : (o : Option ℕ) → IsSome o → is_some o ≡ true
some_is None h = absurd cc
some_is (Some x) h = refl

pub marks-same : (h g : List Entry) (m : BTreeMap VersionKey ℕ) → commits g ≡ commits h
    → reads g ≡ reads h → HoldsMarks h m → HoldsMarks g m
marks-same h g m cs rs holds = record {
  written = λ name s some. holds.written name s some ∙ ap
      (λ c. wrote_row name (lookup (λ n. eqb n s) c)) (sym cs);
  readers = λ name s. holds.readers name s ∙ ap (greatest_reader name s) (sym rs);
}

pub marks-lookups : (h : List Entry) (m n : BTreeMap VersionKey ℕ)
    → ((q : VersionKey) → noted_mark n q ≡ noted_mark m q) → HoldsMarks h m → HoldsMarks h n
marks-lookups h m n same holds = record {
  written = λ name s some. ap is_some (same (version_key name s)) ∙ holds.written name s some;
  readers = λ name s. ap (λ o. unwrap_or o 0) (same (version_key name s)) ∙ holds.readers name s;
}

pub marks-read : (h g : List Entry) (m n : BTreeMap VersionKey ℕ) (r : VersionRead)
    → commits g ≡ commits h → reads g ≡ reads h ++ r ∷ []
    → (1 ≤ r.version → IsSome (noted_mark m (version_key r.name r.version)))
    → ((q : VersionKey) → noted_mark n q
    ≡ marked (version_key r.name r.version) r.reader q (noted_mark m q)) → HoldsMarks h m
    → HoldsMarks g n
marks-read h g m n r cs rs there is holds = record {
  written = λ name s some. ap is_some (is (version_key name s)) ∙ kept name s some
      (is_at (version_key_cmp (version_key r.name r.version)) (version_key name s)) refl ∙
      holds.written name s some ∙ ap (λ c. wrote_row name (lookup (λ n. eqb n s) c)) (sym cs);
  readers = λ name s.
      ap (λ o. unwrap_or o 0) (is (version_key name s))
      ∙ ap (λ t. unwrap_or
      (cond t (Some (max (unwrap_or (noted_mark m (version_key name s)) 0) r.reader))
      (noted_mark m (version_key name s))) 0)
      (key-test r.name r.version (version_key name s) ∙ same-test name r.name s r.version)
      ∙ by (is_of name s r) (noted_mark m (version_key name s)) (greatest_reader name s (reads h))
      (holds.readers name s)
      ∙ sym (reader-push name s (reads h) r)
      ∙ ap (greatest_reader name s) (sym rs);
} where
  by : (t : Bool) (o : Option ℕ) (g : ℕ) → unwrap_or o 0 ≡ g
      → unwrap_or (cond t (Some (max (unwrap_or o 0) r.reader)) o) 0 ≡ cond t (max r.reader g) g
  by true o g e = ap (λ k. max k r.reader) e ∙ max_turned
    where
      max_turned : max g r.reader ≡ max r.reader g
      max_turned = omega arith
  by false o g e = e

  kept : (name : RowName) (s : ℕ) → 1 ≤ s → (t : Bool)
      → is_at (version_key_cmp (version_key r.name r.version)) (version_key name s) ≡ t
      → is_some
      (cond t (Some (max (unwrap_or (noted_mark m (version_key name s)) 0) r.reader))
      (noted_mark m (version_key name s))) ≡ is_some (noted_mark m (version_key name s))
  kept name s some true e =
      let p = and_parts (eqb s r.version) (is_eq (row_name_cmp name r.name))
      (sym (key-test r.name r.version (version_key name s)) ∙ e) in
      let v : s ≡ r.version = eqb-true s r.version p.0 in
      sym (subst (λ n. is_some (noted_mark m (version_key n s)) ≡ true)
      (sym (equal_names name r.name p.1))
      (subst (λ w. is_some (noted_mark m (version_key r.name w)) ≡ true) (sym v)
      (some_is (noted_mark m (version_key r.name r.version)) (there (omega arith)))))
  kept name s some false e = refl

-- a stamp without a commit has no versions
pub none-written : (h : List Entry) (m : BTreeMap VersionKey ℕ) (s : ℕ) (name : RowName) → 1 ≤ s
    → lookup (λ n. eqb n s) (commits h) ≡ None → HoldsMarks h m
    → noted_mark m (version_key name s) ≡ None
none-written h m s name some none holds =
    not_some (noted_mark m (version_key name s))
    (holds.written name s some ∙ ap (wrote_row name) none)

pub marks-commit : (h g : List Entry) (m n : BTreeMap VersionKey ℕ) (s : ℕ) (writes : List Write)
    → commits g ≡ commits h ++ (s, writes) ∷ [] → reads g ≡ reads h → 1 ≤ s
    → lookup (λ n. eqb n s) (commits h) ≡ None
    → ((q : VersionKey) → noted_mark n q ≡ mark_after_install s writes q (noted_mark m q))
    → HoldsMarks h m → HoldsMarks g n
marks-commit h g m n s writes cs rs some none is holds = record {
  written = λ name v above. ap is_some (is (version_key name v)) ∙ wrote name v above
      (cases_eq v s) ∙ ap (λ c. wrote_row name (lookup (λ n. eqb n v) c)) (sym cs);
  readers = λ name v. ap (λ o. unwrap_or o 0) (is (version_key name v)) ∙ unread name v
      (eqb v s) refl (writes_row name writes) ∙ holds.readers name v ∙ ap (greatest_reader name v)
      (sym rs);
} where
  chosen : (t : Bool) (o : Option ℕ) → o ≡ None → is_some (cond t (Some 0) o) ≡ t
  chosen true o e = refl
  chosen false o e = ap is_some e

  wrote : (name : RowName) (v : ℕ) → 1 ≤ v → (v ≡ s) ⊎ (v ≡ s → ⊥)
      → is_some
      (cond (eqb v s && writes_row name writes) (Some 0) (noted_mark m (version_key name v)))
      ≡ wrote_row name (lookup (λ n. eqb n v) (commits h ++ (s, writes) ∷ []))
  wrote name v above (inl same) =
      let found : lookup (λ n. eqb n v) (commits h ++ (s, writes) ∷ []) ≡ Some writes =
      lookup-push v (commits h) (s, writes)
      (subst (λ k. lookup (λ n. eqb n k) (commits h) ≡ None) (sym same) none) ∙ ap
      (λ t. cond t (Some writes) None) (eq-eqb s v (sym same)) in
      ap (λ t. is_some
      (cond (t && writes_row name writes) (Some 0) (noted_mark m (version_key name v))))
      (eq-eqb v s same)
      ∙ chosen (writes_row name writes) (noted_mark m (version_key name v))
      (subst (λ k. noted_mark m (version_key name k) ≡ None) (sym same)
      (none-written h m s name some none holds))
      ∙ ap (wrote_row name) (sym found)
  wrote name v above (inr other) =
      ap (λ t. is_some
      (cond (t && writes_row name writes) (Some 0) (noted_mark m (version_key name v))))
      (ne_eqb v s other)
      ∙ holds.written name v above ∙ ap (wrote_row name) (sym (lookup-other v other))
    where
      lookup-other : (v : ℕ) → (v ≡ s → ⊥)
          → lookup (λ n. eqb n v) (commits h ++ (s, writes) ∷ [])
          ≡ lookup (λ n. eqb n v) (commits h)
      lookup-other v other = by (lookup (λ n. eqb n v) (commits h)) refl
        where
          by : (o : Option (List Write)) → lookup (λ n. eqb n v) (commits h) ≡ o
              → lookup (λ n. eqb n v) (commits h ++ (s, writes) ∷ []) ≡ o
          by None e = lookup-push v (commits h) (s, writes) e ∙ ap (λ t. cond t (Some writes) None)
              (ne_eqb s v (λ same. other (sym same)))
          by (Some w) e = lookup-more v (commits h) ((s, writes) ∷ []) w e

  unread : (name : RowName) (v : ℕ) (t : Bool) → eqb v s ≡ t → (u : Bool)
      → unwrap_or (cond (t && u) (Some 0) (noted_mark m (version_key name v))) 0
      ≡ unwrap_or (noted_mark m (version_key name v)) 0
  unread name v true e true = ap (λ o. unwrap_or o 0)
      (sym (subst (λ k. noted_mark m (version_key name k) ≡ None) (sym (eqb-true v s e))
      (none-written h m s name some none holds)))
  unread name v true e false = refl
  unread name v false e u = refl

-- ---- the version that is found is the one that the stamp sees

found-some : (name : RowName) (o : Option (List Write)) → wrote_row name o ≡ true → (w : List Write)
    × (o ≡ Some w) × (writes_row name w ≡ true)
found-some name None e = absurd (true≢false (sym e))
found-some name (Some w) e = (w, refl, e)

pub found-version : (base : OrderBase) (h : List Entry) (m : BTreeMap VersionKey ℕ) (name : RowName)
    (s : ℕ) (found : Found) → Sound base (begun h) (commits h) (ended_stamps h) (reads h)
    → HoldsMarks h m → IsMarkFoundBefore m name s found → found.wrote ≡ version_at h name s
found-version base h m name s found sound holds is =
    sym (version_at-is h name s ∙ version_in-is name s (commits h) found.wrote from most)
  where
    from : (found.wrote ≡ 0) ⊎ Attains name s (commits h) found.wrote
    from = elim (cases_eq found.wrote 0) [
      | inl z ↦ inl z
      | inr other ↦
          let t = is.there (omega arith) in
          let w = found-some name (lookup (λ n. eqb n found.wrote) (commits h))
          (sym (holds.written name found.wrote (omega arith)) ∙ ap is_some t.1) in
          inr (record {
            commit = (found.wrote, w.0);
            there = lookup-contains found.wrote (commits h) w.0 w.1;
            is_seen = and_from (ltb found.wrote s) (writes_row name w.0)
                (lt-ltb found.wrote s t.0) w.2;
            is = refl;
          })
    ]

    most : (c : Commit) → Contains (commits h) c → seen name s c ≡ true → c.0 ≤ found.wrote
    most c there is_seen =
        let p = and_parts (ltb c.0 s) (writes_row name c.1) is_seen in
        let b = All-contains (λ c. (b : Begun) × Contains (begun h) b × (b.stamp ≡ c.0))
        (commits h) c sound.from_begun there in
        let above = counts-within base.last (begun h) b.0 sound.counted b.1 in
        let once = All-contains (λ c. lookup (λ n. eqb n c.0) (commits h) ≡ Some c.1)
        (commits h) c sound.once there in
        is.greatest c.0 (ltb-true c.0 s p.0)
        (is_a_some (noted_mark m (version_key name c.0))
        (holds.written name c.0 (omega (arith, b.2, above.0)) ∙ ap (wrote_row name) once ∙ p.1))

pub found-reader : (h : List Entry) (m : BTreeMap VersionKey ℕ) (name : RowName) (s : ℕ)
    (found : Found) → HoldsMarks h m → IsMarkFoundBefore m name s found
    → found.read_by ≡ greatest_reader name found.wrote (reads h)
found-reader h m name s found holds is = elim (cases_eq found.wrote 0) [
  | inl z ↦ is.entry z ∙ ap (λ v. unwrap_or (noted_mark m (version_key name v)) 0)
      (sym z) ∙ holds.readers name found.wrote
  | inr other ↦ sym
      (ap (λ o. unwrap_or o 0) (is.there (omega arith)).1) ∙ holds.readers name found.wrote
]
