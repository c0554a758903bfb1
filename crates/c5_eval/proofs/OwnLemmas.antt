-- The rows that changes set, as a finite map, and the writes that it makes.
use Rattle.std.proofs.Common.{◌≡◌, ◌<◌, ℕ, suc, length, drop, get_or, Bool, true, false, cond, ◌&&◌}
use Rattle.std.proofs.Common.{T, List, [], ◌∷◌, ◌++◌, Option, Some, map, append_assoc, refl, ap}
use Rattle.std.proofs.Common.{sym, subst, ◌∙◌, Ordering, Less, Equal, Greater}
use Rattle.std.specs.Prelude.{option_map}
use Rattle.std.specs.FinMap.{get, insert, entries, entries_sorted, is_sorted, find, put, get-insert}
use Rattle.std.specs.FinMap.{get-from_entries, entries-insert, same_map, len-entries, len-empty}
use Rattle.std.specs.FinMap.{empty}
use Rattle.std.specs.FinMap.Entries.{below_all}
use Rattle.std.specs.Ordering.{is_lt, ordering_reverse}
use Rattle.std.specs.BTreeMap.{is_at}
use Rattle.std.specs.Map.{lookup}
use Rattle.std.specs.List.{AllByRecursion}
use Rattle.std.specs.List.Sorted.{IsStrictlySortedBy}
use Rattle.std.specs.Cmp.{eq_by_cmp_equiv}
use Rattle.std.proofs.lemmas.List.{nil_from_length}
use Rattle.std.proofs.Math.Seq.{drop-cons}
use Rattle.c5_rows.specs.declared.cells.Cell.{Cell}
use Rattle.c5_rows.specs.declared.writes.RowName.{RowName}
use Rattle.c5_rows.specs.declared.writes.Change.{Change}
use Rattle.c5_rows.specs.declared.writes.Change.TheVariants.{Put, Gone}
use Rattle.c5_rows.specs.declared.writes.Write.{Write}
use Rattle.c5_rows.specs.Writes.{IsAscending, put_write}
use Rattle.c5_rows.specs.Order.{row_name_cmp, row_name_cmp_total, row_name_cmp_exact}
use Rattle.c5_definitions.specs.Eval.{write_of, change_to}
use Rattle.c5_definitions.specs.Follows.{Own, own_writes}
use Rattle.c5_eval.specs.Setting.{row_made, rows_made, pairs_of, set_by}

-- what a tree has at a name
abbrev pub change_at : List (RowName × Change) → RowName → Option Change
change_at es name = lookup (is_at (row_name_cmp name)) es

-- ---- what is found

chosen : (b : Bool) (change : Change) (rest : Option Change)
    → option_map row_made (cond b (Some change) rest)
    ≡ cond b (Some (row_made change)) (option_map row_made rest)
chosen true change rest = refl
chosen false change rest = refl

find_made : (es : List (RowName × Change)) (name : RowName)
    → option_map row_made (change_at es name) ≡ find row_name_cmp name (rows_made es)
find_made [] name = refl
find_made (e ∷ es) name =
    chosen (is_at (row_name_cmp name) e.0) e.1 (change_at es name)
    ∙ ap (cond (is_at (row_name_cmp name) e.0) (Some (row_made e.1))) (find_made es name)

pub get_made : (es : List (RowName × Change)) (name : RowName)
    → option_map row_made (change_at es name) ≡ get (set_by es) name
get_made es name = find_made es name ∙ sym (get-from_entries row_name_cmp_total (rows_made es) name)

-- ---- one row more

-- changes that differ at one name set rows that differ there
pub one_set : (es fs : List (RowName × Change)) (name : RowName) (change : Change)
    → ((q : RowName) → change_at fs q
    ≡ cond (is_at (row_name_cmp name) q) (Some change) (change_at es q))
    → set_by fs ≡ insert (set_by es) name (row_made change)
one_set es fs name change h = same_map row_name_cmp_total row_name_cmp_exact _ _ (λ q.
    sym (get_made fs q) ∙ ap (option_map row_made) (h q)
    ∙ chosen (is_at (row_name_cmp name) q) change (change_at es q)
    ∙ ap (cond (is_at (row_name_cmp name) q) (Some (row_made change))) (get_made es q)
    ∙ ap (λ b. cond b (Some (row_made change)) (get (set_by es) q))
    ((eq_by_cmp_equiv row_name_cmp_total).symm name q)
    ∙ sym (get-insert row_name_cmp_total (set_by es) name (row_made change) q))

-- one change more, of writes that are gone through from the last to the first
pub tree-further : (ws : List Write) (i n : ℕ) (w : Write) (old new : List (RowName × Change))
    → i < length ws → n ≡ suc i → w ≡ get_or ws i w → set_by old ≡ set_by (pairs_of (drop n ws)) →
    ((q : RowName) → change_at new q
    ≡ cond (is_at (row_name_cmp w.name) q) (Some w.change) (change_at old q))
    → set_by new ≡ set_by (pairs_of (drop i ws))
tree-further ws i n w old new lt next is so_far h =
    one_set old new w.name w.change h
    ∙ ap (λ (m : Own). insert m w.name (row_made w.change))
    (so_far ∙ ap (λ (k : ℕ). set_by (pairs_of (drop k ws))) next)
    ∙ ap (λ (vs : List Write). set_by (pairs_of vs))
    (sym (drop-cons ws i w lt ∙ ap (λ (v : Write). v ∷ drop (suc i) ws) (sym is)))

-- ---- the writes

abbrev pub write_at : RowName × Change → Write
write_at e = record { name = e.0; change = e.1 }

put_first : (name : RowName) (row : Option (List Cell)) (es : List (RowName × Change))
    → AllByRecursion (λ q. row_name_cmp name q ≡ Less) (map (λ e. e.0) es)
    → put row_name_cmp name row (rows_made es) ≡ (name, row) ∷ rows_made es
put_first name row [] below = refl
put_first name row (e ∷ es) below = rw below.0 refl

-- the map gives back changes that ascend
entries_back : (es : List (RowName × Change)) → IsStrictlySortedBy row_name_cmp (map (λ e. e.0) es)
    → entries (set_by es) ≡ rows_made es
unfolding IsStrictlySortedBy
entries_back [] up = nil_from_length (entries (empty {R = row_name_cmp}))
    (sym (len-entries (empty {R = row_name_cmp})) ∙ len-empty row_name_cmp (Option (List Cell)))
entries_back (e ∷ es) up =
    entries-insert row_name_cmp_total (set_by es) e.0 (row_made e.1)
    ∙ ap (put row_name_cmp e.0 (row_made e.1)) (entries_back es up.1)
    ∙ put_first e.0 (row_made e.1) es up.0

change_back : (change : Change) → change_to (row_made change) ≡ change
change_back (Put row) = refl
change_back Gone = refl

writes_back : (es : List (RowName × Change))
    → map (λ (name, row). write_of name row) (rows_made es) ≡ map write_at es
writes_back [] = refl
writes_back (e ∷ es) = λ i. (record { name = e.0; change = change_back e.1 i }) ∷ writes_back es i

pub own_writes-made : (es : List (RowName × Change))
    → IsStrictlySortedBy row_name_cmp (map (λ e. e.0) es) → own_writes (set_by es) ≡ map write_at es
own_writes-made es up = ap (map (λ (name, row). write_of name row))
    (entries_back es up) ∙ writes_back es

-- ---- the next write goes to the end

first_part : (a b : Bool) → T (a && b) → T a
first_part true b h = tt
first_part false b h = h

second_part : (a b : Bool) → T (a && b) → T b
second_part true b h = h
second_part false b h = absurd h

less_of : (o : Ordering) → T (is_lt o) → o ≡ Less
less_of Less h = refl
less_of Equal h = absurd h
less_of Greater h = absurd h

ascending_from : (es : List (RowName × Option (List Cell))) → T (is_sorted row_name_cmp es)
    → IsAscending (map (λ (name, row). write_of name row) es)
ascending_from [] up = tt
ascending_from (e ∷ []) up = (tt, tt)
ascending_from (e ∷ f ∷ es) up =
    let below = first_part (below_all row_name_cmp e.0 (f ∷ es))
    (is_sorted row_name_cmp (f ∷ es)) up in
    let rest = second_part (below_all row_name_cmp e.0 (f ∷ es))
    (is_sorted row_name_cmp (f ∷ es)) up in (
      less_of _ (first_part (is_lt (row_name_cmp e.0 f.0)) (below_all row_name_cmp e.0 es) below),
      ascending_from (f ∷ es) rest,
    )

before_later : (x y : Write) (xs more : List Write) → IsAscending (x ∷ (xs ++ y ∷ more))
    → row_name_cmp x.name y.name ≡ Less
before_later x y [] more up = up.0
before_later x y (z ∷ xs) more up =
    row_name_cmp_total.trans x.name z.name y.name up.0 (before_later z y xs more up.1)

put_write-next : (y : Write) (xs more : List Write) → IsAscending (xs ++ y ∷ more)
    → put_write y xs ≡ xs ++ y ∷ []
put_write-next y [] more up = refl
put_write-next y (x ∷ xs) more up =
    let e : row_name_cmp y.name x.name ≡ Greater =
    row_name_cmp_total.antisymm y.name x.name ∙ ap ordering_reverse
    (before_later x y xs more up) in
    rw e (ap (λ ws. x ∷ ws) (put_write-next y xs more up.1))

-- one change more, of those that are left
pub next_write : (own : Own) (writes : List Write) (left rest : List (RowName × Change))
    (name : RowName) (change : Change) →
    left ≡ (name, change) ∷ rest → writes ++ map write_at left ≡ own_writes own →
    put_write (write_at (name, change)) writes ++ map write_at rest ≡ own_writes own
next_write own writes left rest name change is all =
    let more = map write_at rest in
    let whole : writes ++ write_at (name, change) ∷ more ≡ own_writes own =
    ap (λ es. writes ++ map write_at es) (sym is) ∙ all in
    ap (λ ws. ws ++ more)
    (put_write-next (write_at (name, change)) writes more
    (subst IsAscending (sym whole) (ascending_from (entries own) (entries_sorted own))))
    ∙ append_assoc writes (write_at (name, change) ∷ []) more ∙ whole
