-- What the map says of conflicts.
use Rattle.std.proofs.Common.{◌≡◌, ◌<◌, ◌≤◌, ◌⊎◌, ℕ, zero, suc, Bool, true, false, cond, ◌&&◌, eqb}
use Rattle.std.proofs.Common.{ltb, true≢false, List, [], ◌∷◌, ◌++◌, length, map, get_or, Less}
use Rattle.std.proofs.Common.{Equal, inl, inr, refl, ap, sym, subst, ◌∙◌, arith}
use Rattle.std.specs.List.{All, Contains, filter, flat_map}
use Rattle.std.specs.Ordering.{is_eq, is_gt}
use Rattle.std.specs.Cmp.{tied_itself}
use Rattle.std.specs.BTreeMap.{BTreeMap}
use Rattle.std.proofs.lemmas.Bool.{cases_Bool, and_parts, and_from, ltb-true, lt-ltb, eq-eqb}
use Rattle.std.proofs.lemmas.Bool.{eqb-true}
use Rattle.std.proofs.lemmas.List.Elements.{All-nil, All-cons, All-head, All-tail, All-append}
use Rattle.std.proofs.lemmas.List.Elements.{All-map, All-weaker, All-contains, All-contains_itself}
use Rattle.std.proofs.lemmas.List.Elements.{Contains-append_right}
use Rattle.c5_rows.specs.declared.writes.RowName.{RowName}
use Rattle.c5_rows.specs.declared.writes.Write.{Write}
use Rattle.c5_rows.specs.Order.{row_name_cmp, row_name_cmp_total}
use Rattle.c5_rows.specs.Writes.{IsAscending}
use Rattle.c5_rows.proofs.WriteLemmas.{first_below}
use Rattle.c5_definitions.specs.declared.history.Entry.{Entry}
use Rattle.c5_definitions.specs.History.{VersionRead, begun, commits, ended_stamps, reads}
use Rattle.c5_definitions.specs.History.{version_at}
use Rattle.c5_definitions.specs.OrderLog.{Conflict, reads_version, conflicts_on, conflicts}
use Rattle.c5_definitions.specs.OrderLog.{IsFirstConflict}
use Rattle.c5_order.specs.declared.marks.VersionKey.{VersionKey}
use Rattle.c5_order.specs.declared.marks.Found.{Found}
use Rattle.c5_order.specs.declared.marks.LaterReader.{LaterReader}
use Rattle.c5_order.specs.declared.book.Book.{Book}
use Rattle.c5_order.specs.Marks.{IsMarkFoundBefore, IsUnread, IsFirstRead}
use Rattle.c5_order.specs.Book.{greatest_reader, HoldsBook, base_of}
use Rattle.c5_order.proofs.Versions.{contains-head}
use Rattle.c5_order.proofs.Histories.{filter-keeps}
use Rattle.c5_order.proofs.Allowed.{flat_map-contains, equal_names}
use Rattle.c5_order.proofs.BookLemmas.{sound-of}
use Rattle.c5_order.proofs.Readers.{is_of, reader-bound, reader-found, found-version, found-reader}

pub filter-none : {X : Type 0} (p : X → Bool) (xs : List X) → All (λ x. p x ≡ false) xs
    → filter p xs ≡ []
filter-none p [] all = refl
filter-none p (x ∷ xs) all = rw (All-head (λ x. p x ≡ false) x xs all)
    (filter-none p xs (All-tail (λ x. p x ≡ false) x xs all))

flat_map-none : {X Y : Type 0} (f : X → List Y) (xs : List X) → All (λ x. f x ≡ []) xs
    → flat_map f xs ≡ []
flat_map-none f [] all = refl
flat_map-none f (x ∷ xs) all = rw (All-head (λ x. f x ≡ []) x xs all)
    (flat_map-none f xs (All-tail (λ x. f x ≡ []) x xs all))

all-flat_map : {X Y : Type 0} (P : Y → Type 0) (f : X → List Y) (xs : List X)
    → All (λ x. All P (f x)) xs → All P (flat_map f xs)
all-flat_map P f [] all = All-nil P
all-flat_map P f (x ∷ xs) all =
    All-append P (f x) (flat_map f xs) (All-head (λ x. All P (f x)) x xs all)
    (all-flat_map P f xs (All-tail (λ x. All P (f x)) x xs all))

map-contains : {X Y : Type 0} (f : X → Y) (xs : List X) (x : X) → Contains xs x
    → Contains (map f xs) (f x)
map-contains f [] x (k, lt, is) = absurd (omega arith)
map-contains f (y ∷ xs) x (zero, lt, is) =
    subst (λ z. Contains (f y ∷ map f xs) (f z)) is (contains-head (f y) (map f xs))
map-contains f (y ∷ xs) x (suc k, lt, is) =
    Contains-append_right (f y ∷ []) (map f xs) (f x) (map-contains f xs x (k, omega arith, is))

filter-in : {X : Type 0} (p : X → Bool) (P : X → Type 0) (xs : List X)
    → All (λ x. p x ≡ true → P x) xs → All P (filter p xs)
filter-in p P [] all = All-nil P
filter-in p P (x ∷ xs) all = by (p x) refl
    (filter-in p P xs (All-tail (λ x. p x ≡ true → P x) x xs all))
  where
    by : (b : Bool) → p x ≡ b → All P (filter p xs) → All P (cond b (x ∷ filter p xs) (filter p xs))
    by true is rest = All-cons P x (filter p xs) (All-head (λ x. p x ≡ true → P x) x xs all is) rest
    by false is rest = rest

module _ (book : Book) (holds : HoldsBook book) (s : ℕ) where
  -- the reader of a conflict is at most the greatest reader of its version
  reader-most : (w : Write) (found : Found) → IsMarkFoundBefore book.versions w.name s found
      → All (λ r. reads_version w.name s (version_at book.history.items w.name s) r ≡ true
      → (r.reader ≤ found.read_by) × (s < r.reader)) (reads book.history.items)
  reader-most w found is = All-weaker (Contains (reads book.history.items))
      (λ r. reads_version w.name s (version_at book.history.items w.name s) r ≡ true
      → (r.reader ≤ found.read_by) × (s < r.reader)) (λ r there e.
      let p = and_parts (is_eq (row_name_cmp r.name w.name) && ltb s r.reader)
      (eqb r.version (version_at book.history.items w.name s)) e in
      let q = and_parts (is_eq (row_name_cmp r.name w.name)) (ltb s r.reader) p.0 in
      let v : r.version ≡ found.wrote =
      eqb-true r.version (version_at book.history.items w.name s) p.1 ∙ sym
      (found-version (base_of book) book.history.items book.versions w.name s found
      (sound-of book holds) holds.marks is) in
      let bound = reader-bound w.name found.wrote (reads book.history.items) r there
      (and_from (is_eq (row_name_cmp r.name w.name)) (eqb r.version found.wrote) q.0
      (eq-eqb r.version found.wrote v)) in (
        omega (
          arith,
          bound,
          found-reader book.history.items book.versions w.name s found holds.marks is,
        ),
        ltb-true s r.reader q.1,
      )) (reads book.history.items)
      (All-contains_itself (reads book.history.items))

  none-on : (w : Write) → IsUnread book.versions s w → conflicts_on book.history.items s w ≡ []
  none-on w (found, is, le) = ap (map (λ r. record { row = w.name; reader = r.reader }))
      (filter-none (reads_version w.name s (version_at book.history.items w.name s))
      (reads book.history.items)
      (All-weaker (λ r. reads_version w.name s (version_at book.history.items w.name s) r ≡ true
      → (r.reader ≤ found.read_by) × (s < r.reader))
      (λ r. reads_version w.name s (version_at book.history.items w.name s) r ≡ false)
      (λ r most. elim
      (cases_Bool (reads_version w.name s (version_at book.history.items w.name s) r)) [
        | inl e ↦ let m = most e in absurd (omega (arith, m.0, m.1))
        | inr e ↦ e
      ]) (reads book.history.items) (reader-most w found is)))

  pub no-conflict : (writes : List Write) → All (IsUnread book.versions s) writes
      → conflicts book.history.items s writes ≡ []
  unfolding conflicts
  no-conflict writes all = flat_map-none (conflicts_on book.history.items s) writes
      (All-weaker (IsUnread book.versions s)
      (λ w. conflicts_on book.history.items s w ≡ []) none-on writes all)

  ascending-end : (before writes : List Write) → IsAscending (before ++ writes) → IsAscending writes
  ascending-end [] writes up = up
  ascending-end (w ∷ before) writes up = ascending-end before writes up.1

  -- what the definition of the first conflict says of each
  abbrev Fits : RowName → ℕ → Conflict → Type 0
  Fits row reader c = (is_gt (row_name_cmp row c.row) ≡ false) × (c.row ≡ row → c.reader ≤ reader)

  each-fits : (before : List Write) (write : Write) (rest : List Write) (found : Found)
      → IsAscending (before ++ write ∷ rest) → All (IsUnread book.versions s) before
      → IsMarkFoundBefore book.versions write.name s found
      → All (Fits write.name found.read_by)
      (flat_map (conflicts_on book.history.items s) (before ++ write ∷ rest))
  each-fits before write rest found up unread is =
      all-flat_map (Fits write.name found.read_by) (conflicts_on book.history.items s)
      (before ++ write ∷ rest)
      (All-append
      (λ w. All (Fits write.name found.read_by) (conflicts_on book.history.items s w)) before
      (write ∷ rest)
      (All-weaker (IsUnread book.versions s)
      (λ w. All (Fits write.name found.read_by) (conflicts_on book.history.items s w))
      (λ w u. subst (All (Fits write.name found.read_by)) (sym (none-on w u))
      (All-nil (Fits write.name found.read_by))) before unread)
      (All-cons
      (λ w. All (Fits write.name found.read_by) (conflicts_on book.history.items s w)) write
      rest here
      (All-weaker (λ w. row_name_cmp write.name w.name ≡ Less)
      (λ w. All (Fits write.name found.read_by) (conflicts_on book.history.items s w)) after
      rest above)))
    where
      above : All (λ w. row_name_cmp write.name w.name ≡ Less) rest
      above = λ k d lt. first_below write.name rest (ascending-end before (write ∷ rest) up).0
          (ascending-end before (write ∷ rest) up).1 k d lt

      here : All (Fits write.name found.read_by) (conflicts_on book.history.items s write)
      here = All-map (Fits write.name found.read_by)
          (λ r. record { row = write.name; reader = r.reader })
          (filter (reads_version write.name s (version_at book.history.items write.name s))
          (reads book.history.items))
          (filter-in (reads_version write.name s (version_at book.history.items write.name s))
          (λ r. Fits write.name found.read_by (record { row = write.name; reader = r.reader }))
          (reads book.history.items)
          (All-weaker
          (λ r. reads_version write.name s (version_at book.history.items write.name s) r ≡ true
          → (r.reader ≤ found.read_by) × (s < r.reader))
          (λ r. reads_version write.name s (version_at book.history.items write.name s) r ≡ true
          → Fits write.name found.read_by (record { row = write.name; reader = r.reader }))
          (λ r most e. (ap is_gt (tied_itself row_name_cmp_total write.name), λ _. (most e).0))
          (reads book.history.items) (reader-most write found is)))

      not_itself : (w : Write) → row_name_cmp write.name w.name ≡ Less → w.name ≡ write.name → ⊥
      not_itself w less same =
          let e : row_name_cmp write.name write.name ≡ Less =
          subst (λ n. row_name_cmp write.name n ≡ Less) same less in
          let f : row_name_cmp write.name write.name ≡ Equal =
          tied_itself row_name_cmp_total write.name in
          cc

      after : (w : Write) → row_name_cmp write.name w.name ≡ Less
          → All (Fits write.name found.read_by) (conflicts_on book.history.items s w)
      after w less = All-map (Fits write.name found.read_by)
          (λ r. record { row = w.name; reader = r.reader })
          (filter (reads_version w.name s (version_at book.history.items w.name s))
          (reads book.history.items))
          (filter-in (reads_version w.name s (version_at book.history.items w.name s))
          (λ r. Fits write.name found.read_by (record { row = w.name; reader = r.reader }))
          (reads book.history.items)
          (All-weaker (Contains (reads book.history.items))
          (λ r. reads_version w.name s (version_at book.history.items w.name s) r ≡ true
          → Fits write.name found.read_by (record { row = w.name; reader = r.reader }))
          (λ r there e. (ap is_gt less, λ same. absurd (not_itself w less same)))
          (reads book.history.items) (All-contains_itself (reads book.history.items))))

  pub first-conflict : (writes : List Write) (later : LaterReader) → IsAscending writes
      → IsFirstRead book.versions s writes later
      → IsFirstConflict (conflicts book.history.items s writes) later.row later.reader
  unfolding conflicts
  first-conflict writes later up first =
      let h = book.history.items in
      let all = each-fits first.before first.write first.rest first.found
      (subst IsAscending first.is up) first.unread first.found_is in
      let greatest : first.found.read_by
      ≡ greatest_reader first.write.name first.found.wrote (reads h) =
      found-reader h book.versions first.write.name s first.found holds.marks first.found_is in
      let r = reader-found first.write.name first.found.wrote (reads h)
      (omega (arith, first.above, first.reader)) in
      let q = and_parts (is_eq (row_name_cmp r.entry.name first.write.name))
      (eqb r.entry.version first.found.wrote) r.of_it in
      let v : r.entry.version ≡ version_at h first.write.name s =
      eqb-true r.entry.version first.found.wrote q.1 ∙ found-version
      (base_of book) h book.versions first.write.name s first.found
      (sound-of book holds) holds.marks first.found_is in
      let passes =
      and_from (is_eq (row_name_cmp r.entry.name first.write.name) && ltb s r.entry.reader)
      (eqb r.entry.version (version_at h first.write.name s))
      (and_from (is_eq (row_name_cmp r.entry.name first.write.name)) (ltb s r.entry.reader) q.0
      (lt-ltb s r.entry.reader (omega (arith, first.above, first.reader, r.is))))
      (eq-eqb r.entry.version (version_at h first.write.name s) v) in
      let at : Contains (flat_map (conflicts_on h s) writes)
      (record { row = first.write.name; reader = r.entry.reader }) =
      flat_map-contains (conflicts_on h s) writes first.write
      (record { row = first.write.name; reader = r.entry.reader })
      (subst (λ ws. Contains ws first.write) (sym first.is)
      (Contains-append_right first.before (first.write ∷ first.rest) first.write
      (contains-head first.write first.rest)))
      (map-contains (λ r. record { row = first.write.name; reader = r.reader })
      (filter (reads_version first.write.name s (version_at h first.write.name s)) (reads h))
      r.entry
      (filter-keeps (reads_version first.write.name s (version_at h first.write.name s))
      (reads h) r.entry r.there passes)) in
      let reader : r.entry.reader ≡ later.reader = r.is ∙ sym greatest ∙ first.reader in
      let fits : All (Fits later.row later.reader) (flat_map (conflicts_on h s) writes) =
      subst (λ n. All (Fits n later.reader) (flat_map (conflicts_on h s) writes)) first.row
      (subst (λ n. All (Fits first.write.name n) (flat_map (conflicts_on h s) writes))
      first.reader
      (subst (λ ws. All (Fits first.write.name first.found.read_by)
      (flat_map (conflicts_on h s) ws)) (sym first.is) all)) in
      record {
        found = subst
            (λ n. Contains (flat_map (conflicts_on h s) writes)
            (record { row = n; reader = later.reader })) first.row
            (subst (λ n. Contains (flat_map (conflicts_on h s) writes)
            (record { row = first.write.name; reader = n })) reader at);
        least = All-weaker (Fits later.row later.reader)
            (λ c. is_gt (row_name_cmp later.row c.row) ≡ false) (λ c f. f.0)
            (flat_map (conflicts_on h s) writes) fits;
        greatest = All-weaker (Fits later.row later.reader)
            (λ c. c.row ≡ later.row → c.reader ≤ later.reader) (λ c f. f.1)
            (flat_map (conflicts_on h s) writes) fits;
      }
