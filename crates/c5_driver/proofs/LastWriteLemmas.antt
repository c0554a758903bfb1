-- The rows after all writes are those that the last write of each name leaves.
use Rattle.std.proofs.Common.{◌≡◌, ◌∙◌, ◌+◌, ◌-◌, ◌≤◌, ℕ, zero, suc, Bool, true, false, List, []}
use Rattle.std.proofs.Common.{◌∷◌, ◌++◌, map, cond, Option, Some, None, refl, ap, sym, subst, arith}
use Rattle.std.proofs.Common.{Less, slice_get}
use Rattle.std.specs.FinMap.{empty, get, from_entries, find, same_map, get-insert, get-remove}
use Rattle.std.specs.FinMap.{get-empty, get-from_entries}
use Rattle.std.specs.Ordering.{is_eq}
use Rattle.std.specs.Option.{option_or}
use Rattle.std.specs.List.{All, AllByRecursion}
use Rattle.std.proofs.lemmas.List.Elements.{All-from_recursion}
use Rattle.std.specs.List.Sorted.{IsStrictlySortedBy}
use Rattle.c5_rows.specs.declared.cells.Cell.{Cell}
use Rattle.c5_rows.specs.declared.rows.RowEntry.{RowEntry}
use Rattle.c5_rows.specs.declared.writes.RowName.{RowName}
use Rattle.c5_rows.specs.declared.writes.Change.{Change}
use Rattle.c5_rows.specs.declared.writes.Change.TheVariants.{Put, Gone}
use Rattle.c5_rows.specs.declared.writes.Write.{Write}
use Rattle.c5_rows.specs.declared.writes.Txn.{Txn}
use Rattle.c5_rows.specs.Order.{row_name_cmp, row_name_cmp_total, row_name_cmp_exact}
use Rattle.c5_rows.specs.State.{State, after_change, after_writes, after_txns, entry_of, rows_of}
use Rattle.c5_rows.proofs.RowLemmas.{entries_back}
use Rattle.c5_definitions.specs.WriteNumbers.{names_in}
use Rattle.c5_frames.specs.Index.{writes_of}
use Rattle.c5_plan.specs.declared.written.WrittenRow.{WrittenRow}
use Rattle.c5_definitions.specs.WriteNumbers.{is_same_name}
use Rattle.c5_plan.specs.Written.{last_from, last_write, last_in, AreWrittenRows}
use Rattle.c5_plan.proofs.Noting.{same_laws, same_exact, place_of_last}
use Rattle.c5_plan.proofs.Sizing.{length-names_in}
use Rattle.c5_driver.specs.LastWrites.{entry_left, entry_left_by, entry_of_written, entries_left}
use Rattle.c5_driver.specs.LastWrites.{HasWrite}

-- ---- what is left, as pairs

abbrev Pair : Type 0
Pair = RowName × List Cell

abbrev names_of : List Write → List RowName
names_of ws = map (λ (w : Write). w.name) ws

abbrev row_names_of : List WrittenRow → List RowName
row_names_of rows = map (λ (r : WrittenRow). r.name) rows

abbrev pair_left : RowName → Change → List Pair
pair_left name (Put row) = (name, row) ∷ []
pair_left name Gone = []

abbrev pair_left_by : RowName → Option Write → List Pair
pair_left_by name None = []
pair_left_by name (Some w) = pair_left name w.change

pairs : List Write → List WrittenRow → List Pair
pairs ws [] = []
pairs ws (r ∷ rows) = pair_left_by r.name (slice_get ws (r.last - 1)) ++ pairs ws rows

-- the row that a change leaves, and the one that a write leaves
abbrev row_of : Change → Option (List Cell)
row_of (Put row) = Some row
row_of Gone = None

abbrev row_by : Option Write → Option (List Cell)
row_by None = None
row_by (Some w) = row_of w.change

-- what is left if the last write has this number
abbrev left_at : List Write → Option ℕ → Option (List Cell)
left_at ws None = None
left_at ws (Some n) = row_by (slice_get ws (n - 1))

entry-pair : (name : RowName) (change : Change) (ps : List Pair)
    → map entry_of (pair_left name change ++ ps) ≡ entry_left name change ++ map entry_of ps
entry-pair name (Put row) ps = refl
entry-pair name Gone ps = refl

entry-pair_by : (name : RowName) (o : Option Write) (ps : List Pair)
    → map entry_of (pair_left_by name o ++ ps) ≡ entry_left_by name o ++ map entry_of ps
entry-pair_by name None ps = refl
entry-pair_by name (Some w) ps = entry-pair name w.change ps

entries-pairs : (ws : List Write) (rows : List WrittenRow)
    → map entry_of (pairs ws rows) ≡ entries_left ws rows
unfolding pairs
entries-pairs ws [] = refl
entries-pairs ws (r ∷ rows) = entry-pair_by r.name (slice_get ws (r.last - 1)) (pairs ws rows) ∙ ap
    (λ (es : List RowEntry). entry_of_written ws r ++ es) (entries-pairs ws rows)

-- ---- in order

less-pair : (P : RowName → Type 0) (name : RowName) (change : Change) (ps : List Pair) → P name
    → AllByRecursion P (map (λ (p : Pair). p.0) ps)
    → AllByRecursion P (map (λ (p : Pair). p.0) (pair_left name change ++ ps))
less-pair P name (Put row) ps h all = (h, all)
less-pair P name Gone ps h all = all

less-pair_by : (P : RowName → Type 0) (name : RowName) (o : Option Write) (ps : List Pair) → P name
    → AllByRecursion P (map (λ (p : Pair). p.0) ps)
    → AllByRecursion P (map (λ (p : Pair). p.0) (pair_left_by name o ++ ps))
less-pair_by P name None ps h all = all
less-pair_by P name (Some w) ps h all = less-pair P name w.change ps h all

all-pairs : (P : RowName → Type 0) (ws : List Write) (rows : List WrittenRow)
    → AllByRecursion P (row_names_of rows)
    → AllByRecursion P (map (λ (p : Pair). p.0) (pairs ws rows))
unfolding pairs
all-pairs P ws [] all = tt
all-pairs P ws (r ∷ rows) all =
    less-pair_by P r.name (slice_get ws (r.last - 1)) (pairs ws rows) all.0
    (all-pairs P ws rows all.1)

sorted-pair : (name : RowName) (change : Change) (ps : List Pair)
    → AllByRecursion (λ y. row_name_cmp name y ≡ Less) (map (λ (p : Pair). p.0) ps)
    → IsStrictlySortedBy row_name_cmp (map (λ (p : Pair). p.0) ps)
    → IsStrictlySortedBy row_name_cmp (map (λ (p : Pair). p.0) (pair_left name change ++ ps))
unfolding IsStrictlySortedBy
sorted-pair name (Put row) ps all up = (all, up)
sorted-pair name Gone ps all up = up

sorted-pair_by : (name : RowName) (o : Option Write) (ps : List Pair)
    → AllByRecursion (λ y. row_name_cmp name y ≡ Less) (map (λ (p : Pair). p.0) ps)
    → IsStrictlySortedBy row_name_cmp (map (λ (p : Pair). p.0) ps)
    → IsStrictlySortedBy row_name_cmp (map (λ (p : Pair). p.0) (pair_left_by name o ++ ps))
sorted-pair_by name None ps all up = up
sorted-pair_by name (Some w) ps all up = sorted-pair name w.change ps all up

sorted-pairs : (ws : List Write) (rows : List WrittenRow)
    → IsStrictlySortedBy row_name_cmp (row_names_of rows)
    → IsStrictlySortedBy row_name_cmp (map (λ (p : Pair). p.0) (pairs ws rows))
unfolding pairs IsStrictlySortedBy
sorted-pairs ws [] up = tt
sorted-pairs ws (r ∷ rows) up =
    sorted-pair_by r.name (slice_get ws (r.last - 1)) (pairs ws rows)
    (all-pairs (λ y. row_name_cmp r.name y ≡ Less) ws rows up.0) (sorted-pairs ws rows up.1)

-- ---- found by name

absent : (name q : RowName) (ps : List Pair) → is_same_name q name ≡ true
    → AllByRecursion (λ y. row_name_cmp name y ≡ Less) (map (λ (p : Pair). p.0) ps)
    → find row_name_cmp q ps ≡ None
absent name q [] same all = refl
absent name q (p ∷ ps) same all =
    let less : row_name_cmp q p.0 ≡ Less =
    ap (λ (n : RowName). row_name_cmp n p.0) (same_exact q name same) ∙ all.0 in
    rw less (absent name q ps same all.1)

found-pair : (q name : RowName) (b : Bool) (change : Change) (ps : List Pair) (last : ℕ)
    (rest : Option ℕ) (ws : List Write) (w : Write) → is_same_name q name ≡ b
    → slice_get ws (last - 1) ≡ Some w → w.change ≡ change
    → (b ≡ true → find row_name_cmp q ps ≡ None) → find row_name_cmp q ps ≡ left_at ws rest
    → find row_name_cmp q (pair_left name change ++ ps) ≡ left_at ws (cond b (Some last) rest)
found-pair q name true (Put row) ps last rest ws w same at is gone found = rw (same, at, is) refl
found-pair q name false (Put row) ps last rest ws w same at is gone found = rw same found
found-pair q name true Gone ps last rest ws w same at is gone found = rw (at, is) (gone refl)
found-pair q name false Gone ps last rest ws w same at is gone found = found

found-pair_by : (q name : RowName) (b : Bool) (o : Option Write) (ps : List Pair) (last : ℕ)
    (rest : Option ℕ) (ws : List Write) → is_same_name q name ≡ b → slice_get ws (last - 1) ≡ o
    → (b ≡ true → find row_name_cmp q ps ≡ None) → find row_name_cmp q ps ≡ left_at ws rest
    → find row_name_cmp q (pair_left_by name o ++ ps) ≡ left_at ws (cond b (Some last) rest)
found-pair_by q name true None ps last rest ws same at gone found = rw at (gone refl)
found-pair_by q name false None ps last rest ws same at gone found = found
found-pair_by q name b (Some w) ps last rest ws same at gone found =
    found-pair q name b w.change ps last rest ws w same at refl gone found

found-pairs : (q : RowName) (ws : List Write) (rows : List WrittenRow)
    → IsStrictlySortedBy row_name_cmp (row_names_of rows)
    → find row_name_cmp q (pairs ws rows) ≡ left_at ws (last_in q rows)
unfolding pairs IsStrictlySortedBy
found-pairs q ws [] up = refl
found-pairs q ws (r ∷ rows) up =
    found-pair_by q r.name (is_same_name q r.name) (slice_get ws (r.last - 1))
    (pairs ws rows) r.last (last_in q rows) ws refl refl
    (λ same. absent r.name q (pairs ws rows) same
    (all-pairs (λ y. row_name_cmp r.name y ≡ Less) ws rows up.0)) (found-pairs q ws rows up.1)

-- ---- left by the writes

-- what is at a name if its last write has this number, counted from the first
abbrev at_or : Option (List Cell) → List Write → ℕ → Option ℕ → Option (List Cell)
at_or old ws first None = old
at_or old ws first (Some n) = row_by (slice_get ws (n - first))

changed : (name : RowName) (change : Change) (state : State) (q : RowName)
    → get (after_change name change state) q
    ≡ cond (is_same_name q name) (row_of change) (get state q)
changed name (Put row) state q = get-insert row_name_cmp_total state name row q
changed name Gone state q = get-remove row_name_cmp_total state name q

shifted : (w : Write) (ws : List Write) (first n : ℕ) → first + 1 ≤ n
    → slice_get ws (n - (first + 1)) ≡ slice_get (w ∷ ws) (n - first)
shifted w ws first n h =
    let e : n - first ≡ suc (n - (first + 1)) = omega arith in
    sym (ap (slice_get (w ∷ ws)) e)

last-or : (q : RowName) (w : Write) (ws : List Write) (first : ℕ) (state : State) (b : Bool)
    (o : Option ℕ) → is_same_name q w.name ≡ b → last_from q (first + 1) (names_of ws) ≡ o
    → at_or (cond b (row_of w.change) (get state q)) ws (first + 1) o
    ≡ at_or (get state q) (w ∷ ws) first (option_or o (cond b (Some first) None))
last-or q w ws first state b (Some n) same at =
    ap row_by (shifted w ws first n (place_of_last q (first + 1) (names_of ws) n at).from)
last-or q w ws first state true None same at =
    let e : first - first ≡ 0 = omega arith in
    ap (λ (i : ℕ). row_by (slice_get (w ∷ ws) i)) (sym e)
last-or q w ws first state false None same at = refl

left-from : (q : RowName) (ws : List Write) (first : ℕ) (state : State)
    → get (after_writes ws state) q ≡ at_or (get state q) ws first (last_from q first (names_of ws))
left-from q [] first state = refl
left-from q (w ∷ ws) first state =
    left-from q ws (first + 1) (after_change w.name w.change state)
    ∙ ap (λ (old : Option (List Cell)). at_or old ws (first + 1)
    (last_from q (first + 1) (names_of ws))) (changed w.name w.change state q)
    ∙ last-or q w ws first state (is_same_name q w.name)
    (last_from q (first + 1) (names_of ws)) refl refl

none-left : (ws : List Write) (old : Option (List Cell)) (o : Option ℕ) → old ≡ None
    → at_or old ws 1 o ≡ left_at ws o
none-left ws old None e = e
none-left ws old (Some n) e = refl

same-state : (ws : List Write) (rows : List WrittenRow) → AreWrittenRows rows (names_of ws)
    → after_writes ws (empty {R = row_name_cmp}) ≡ from_entries (pairs ws rows)
same-state ws rows h = same_map row_name_cmp_total row_name_cmp_exact _ _ (λ q.
    left-from q ws 1 (empty {R = row_name_cmp})
    ∙ none-left ws _ (last_write q (names_of ws)) (get-empty row_name_cmp q)
    ∙ ap (left_at ws) (sym (h.last q))
    ∙ sym (get-from_entries row_name_cmp_total
    (pairs ws rows) q ∙ found-pairs q ws rows h.ascending))

-- ---- whole transactions

after_writes-append : (first others : List Write) (state : State)
    → after_writes (first ++ others) state ≡ after_writes others (after_writes first state)
after_writes-append [] others state = refl
after_writes-append (w ∷ first) others state =
    after_writes-append first others (after_change w.name w.change state)

pub after_writes-of : (txns : List Txn) (state : State)
    → after_writes (writes_of txns) state ≡ after_txns txns state
after_writes-of [] state = refl
after_writes-of (txn ∷ txns) state =
    after_writes-append txn.writes (writes_of txns) state ∙ after_writes-of txns
    (after_writes txn.writes state)

names_in-of : (txns : List Txn) → names_in txns ≡ names_of (writes_of txns)
unfolding names_in
names_in-of txns = refl

-- the rows after all transactions are those that the last writes leave
pub rows-left : (txns : List Txn) (rows : List WrittenRow) → AreWrittenRows rows (names_in txns)
    → entries_left (writes_of txns) rows ≡ rows_of (after_txns txns (empty {R = row_name_cmp}))
rows-left txns rows h =
    let ws = writes_of txns in
    let g : AreWrittenRows rows (names_of ws) = subst (AreWrittenRows rows) (names_in-of txns) h in
    sym (entries-pairs ws rows)
    ∙ ap (map entry_of) (sym (entries_back (pairs ws rows) (sorted-pairs ws rows g.ascending)))
    ∙ ap rows_of (sym (same-state ws rows g) ∙ after_writes-of txns (empty {R = row_name_cmp}))

-- ---- each row has a last write

same-self : (name : RowName) → is_same_name name name ≡ true
same-self name = same_laws.refl name

not-less : (a b : RowName) → row_name_cmp a b ≡ Less → is_same_name a b ≡ false
not-less a b less = ap is_eq less

-- a name that comes before others isn't one of them
apart : (name : RowName) (rows : List WrittenRow) (i : ℕ) (r : WrittenRow)
    → AllByRecursion (λ y. row_name_cmp name y ≡ Less) (row_names_of rows)
    → slice_get rows i ≡ Some r → is_same_name r.name name ≡ false
apart name [] i r all at = cc
apart name (x ∷ rows) zero r all at =
    let is : x ≡ r = cc in
    same_laws.symm r.name name ∙ ap (λ (y : WrittenRow). is_same_name name y.name)
    (sym is) ∙ not-less name x.name all.0
apart name (x ∷ rows) (suc i) r all at = apart name rows i r all.1 at

last_in-at : (rows : List WrittenRow) (i : ℕ) (r : WrittenRow)
    → IsStrictlySortedBy row_name_cmp (row_names_of rows) → slice_get rows i ≡ Some r
    → last_in r.name rows ≡ Some r.last
unfolding IsStrictlySortedBy
last_in-at [] i r up at = cc
last_in-at (x ∷ rows) zero r up at =
    let is : x ≡ r = cc in
    let same : is_same_name r.name x.name ≡ true =
    ap (λ (y : WrittenRow). is_same_name r.name y.name) is ∙ same-self r.name in
    ap (λ (b : Bool). cond b (Some x.last) (last_in r.name rows)) same ∙ ap
    (λ (y : WrittenRow). Some y.last) is
last_in-at (x ∷ rows) (suc i) r up at =
    ap (λ (b : Bool). cond b (Some x.last) (last_in r.name rows))
    (apart x.name rows i r up.0 at) ∙ last_in-at rows i r up.1 at

row-has-write : (txns : List Txn) (rows : List WrittenRow) (i : ℕ) (r : WrittenRow)
    → AreWrittenRows rows (names_in txns) → slice_get rows i ≡ Some r → HasWrite (writes_of txns) r
row-has-write txns rows i r h at =
    let last = sym (h.last r.name) ∙ last_in-at rows i r h.ascending at in
    let place = place_of_last r.name 1 (names_in txns) r.last last in
    let from = place.from in
    let within = place.within in
    record { some = from; within = omega (arith, length-names_in txns) }

each-at : (P : WrittenRow → Type 0) (rows : List WrittenRow)
    → ((i : ℕ) (r : WrittenRow) → slice_get rows i ≡ Some r → P r) → AllByRecursion P rows
each-at P [] h = tt
each-at P (r ∷ rows) h = (h 0 r refl, each-at P rows (λ i x at. h (suc i) x at))

pub rows-have-writes : (txns : List Txn) (rows : List WrittenRow)
    → AreWrittenRows rows (names_in txns) → All (HasWrite (writes_of txns)) rows
rows-have-writes txns rows h = All-from_recursion (HasWrite (writes_of txns)) rows
    (each-at (HasWrite (writes_of txns)) rows (λ i r at. row-has-write txns rows i r h at))
