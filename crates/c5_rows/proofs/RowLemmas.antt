-- The finite map that the entries of a tree make.
use Rattle.std.proofs.Common.{◌≡◌, ◌+◌, ℕ, cond, List, [], ◌∷◌, ◌++◌, Option, Some, None, Bool}
use Rattle.std.proofs.Common.{true, false, length, map, take, get_or, ◌<◌, suc, refl, ap, sym}
use Rattle.std.proofs.Common.{subst, ◌∙◌, Less}
use Rattle.std.specs.FinMap.{empty, get, insert, remove, len, entries, from_entries, find, put}
use Rattle.std.specs.FinMap.{same_map, get-insert, get-remove, get-from_entries, len-entries}
use Rattle.std.specs.FinMap.{entries-insert, len-empty}
use Rattle.std.specs.Ordering.{eq_by_cmp}
use Rattle.std.specs.BTreeMap.{is_at}
use Rattle.std.specs.Map.{lookup}
use Rattle.std.specs.Option.{option_map}
use Rattle.std.specs.List.{AllByRecursion, AllZip}
use Rattle.std.specs.List.Sorted.{IsStrictlySortedBy}
use Rattle.std.specs.Cmp.{eq_by_cmp_equiv}
use Rattle.std.proofs.lemmas.List.{nil_from_length, take_more}
use Rattle.c5_rows.specs.declared.cells.Cell.{Cell}
use Rattle.c5_rows.specs.declared.writes.RowName.{RowName}
use Rattle.c5_rows.specs.declared.writes.Write.{Write}
use Rattle.c5_rows.specs.State.{State, after_change, after_writes}
use Rattle.c5_rows.specs.Held.{rows_held}
use Rattle.c5_rows.specs.Order.{row_name_cmp, row_name_cmp_total, row_name_cmp_exact}

-- what a tree has at a name
abbrev pub row_at : List (RowName × List Cell) → RowName → Option (List Cell)
row_at es name = lookup (is_at (row_name_cmp name)) es

find_row : (es : List (RowName × List Cell)) (name : RowName)
    → find row_name_cmp name es ≡ row_at es name
find_row [] name = refl
find_row (e ∷ es) name = ap (cond (is_at (row_name_cmp name) e.0) (Some e.1)) (find_row es name)

pub get_row : (es : List (RowName × List Cell)) (name : RowName)
    → get (from_entries {R = row_name_cmp} es) name ≡ row_at es name
get_row es name = get-from_entries row_name_cmp_total es name ∙ find_row es name

-- entries that differ at one name make maps that differ there
pub one_set : (es fs : List (RowName × List Cell)) (name : RowName) (row : List Cell)
    → ((q : RowName) → row_at fs q ≡ cond (is_at (row_name_cmp name) q) (Some row) (row_at es q))
    → from_entries {R = row_name_cmp} fs ≡ insert (from_entries es) name row
one_set es fs name row h = same_map row_name_cmp_total row_name_cmp_exact _ _ (λ q.
    get_row fs q ∙ h q ∙ ap (λ b. cond b (Some row) (row_at es q))
    ((eq_by_cmp_equiv row_name_cmp_total).symm name q)
    ∙ sym (get-insert row_name_cmp_total (from_entries es) name row q ∙ ap
    (cond (eq_by_cmp row_name_cmp q name) (Some row)) (get_row es q)))

pub one_gone : (es fs : List (RowName × List Cell)) (name : RowName)
    → ((q : RowName) → row_at fs q ≡ cond (is_at (row_name_cmp name) q) None (row_at es q))
    → from_entries {R = row_name_cmp} fs ≡ remove (from_entries es) name
one_gone es fs name h = same_map row_name_cmp_total row_name_cmp_exact _ _ (λ q.
    get_row fs q ∙ h q ∙ ap (λ b. cond b None (row_at es q))
    ((eq_by_cmp_equiv row_name_cmp_total).symm name q)
    ∙ sym (get-remove row_name_cmp_total (from_entries es) name q ∙ ap
    (cond (eq_by_cmp row_name_cmp q name) None) (get_row es q)))

-- ---- rows as values hold them

keys_held : {H : Type 0} (row : H → List Cell) (es : List (RowName × H))
    → map (λ e. e.0) (rows_held row es) ≡ map (λ e. e.0) es
keys_held row [] = refl
keys_held row (e ∷ es) = ap (λ names. e.0 ∷ names) (keys_held row es)

-- what a tree has at a name
abbrev pub held_at : {H : Type 0} → List (RowName × H) → RowName → Option H
held_at es name = lookup (is_at (row_name_cmp name)) es

pub row_at_held : {H : Type 0} (row : H → List Cell) (es : List (RowName × H)) (name : RowName)
    → row_at (rows_held row es) name ≡ option_map row (held_at es name)
row_at_held row [] name = refl
row_at_held {H} row (e ∷ es) name = by (is_at (row_name_cmp name) e.0) (row_at_held row es name)
  where
    by : (b : Bool) → row_at (rows_held row es) name ≡ option_map row (held_at es name)
        → cond b (Some (row e.1)) (row_at (rows_held row es) name)
        ≡ option_map row (cond b (Some e.1) (held_at es name))
    by true same = refl
    by false same = same

chosen : {H : Type 0} (row : H → List Cell) (b : Bool) (held : H) (other : Option H)
    → option_map row (cond b (Some held) other) ≡ cond b (Some (row held)) (option_map row other)
chosen row true held other = refl
chosen row false held other = refl

passed : {H : Type 0} (row : H → List Cell) (b : Bool) (other : Option H)
    → option_map row (cond b None other) ≡ cond b None (option_map row other)
passed row true other = refl
passed row false other = refl

pub held_set : {H : Type 0} (row : H → List Cell) (es fs : List (RowName × H)) (name : RowName)
    (held : H)
    → ((q : RowName) → held_at fs q ≡ cond (is_at (row_name_cmp name) q) (Some held) (held_at es q))
    → from_entries {R = row_name_cmp} (rows_held row fs)
    ≡ insert (from_entries (rows_held row es)) name (row held)
held_set row es fs name held h = one_set (rows_held row es) (rows_held row fs) name (row held) (λ q.
    row_at_held row fs q
    ∙ ap (option_map row) (h q)
    ∙ chosen row (is_at (row_name_cmp name) q) held (held_at es q)
    ∙ ap (cond (is_at (row_name_cmp name) q) (Some (row held))) (sym (row_at_held row es q)))

pub held_gone : {H : Type 0} (row : H → List Cell) (es fs : List (RowName × H)) (name : RowName)
    → ((q : RowName) → held_at fs q ≡ cond (is_at (row_name_cmp name) q) None (held_at es q))
    → from_entries {R = row_name_cmp} (rows_held row fs)
    ≡ remove (from_entries (rows_held row es)) name
held_gone row es fs name h = one_gone (rows_held row es) (rows_held row fs) name (λ q.
    row_at_held row fs q
    ∙ ap (option_map row) (h q)
    ∙ passed row (is_at (row_name_cmp name) q) (held_at es q)
    ∙ ap (cond (is_at (row_name_cmp name) q) None) (sym (row_at_held row es q)))

-- entries one for one with the same names and rows
pub same_held : {H : Type 0} (row : H → List Cell) (es fs : List (RowName × H))
    → AllZip (λ p q. (q.0 ≡ p.0) × (row q.1 ≡ row p.1)) es fs → rows_held row fs ≡ rows_held row es
same_held row [] [] all = refl
same_held row [] (f ∷ fs) all = absurd all
same_held row (e ∷ es) [] all = absurd all
same_held row (e ∷ es) (f ∷ fs) all = rw (all.0.0, all.0.1, same_held row es fs all.1) refl

-- ---- the entries in order

put_first : (name : RowName) (row : List Cell) (es : List (RowName × List Cell))
    → AllByRecursion (λ q. row_name_cmp name q ≡ Less) (map (λ e. e.0) es)
    → put row_name_cmp name row es ≡ (name, row) ∷ es
put_first name row [] below = refl
put_first name row (e ∷ es) below = rw below.0 refl

-- names that ascend do so beside the rows
pub up_held : {H : Type 0} (row : H → List Cell) (es : List (RowName × H))
    → IsStrictlySortedBy row_name_cmp (map (λ e. e.0) es)
    → IsStrictlySortedBy row_name_cmp (map (λ e. e.0) (rows_held row es))
up_held row es up = subst (IsStrictlySortedBy row_name_cmp) (sym (keys_held row es)) up

pub length_held : {H : Type 0} (row : H → List Cell) (es : List (RowName × H))
    → length (rows_held row es) ≡ length es
length_held row [] = refl
length_held row (e ∷ es) = ap suc (length_held row es)

-- the map gives back entries that ascend
pub entries_back : (es : List (RowName × List Cell))
    → IsStrictlySortedBy row_name_cmp (map (λ e. e.0) es)
    → entries (from_entries {R = row_name_cmp} es) ≡ es
unfolding IsStrictlySortedBy
entries_back [] up = nil_from_length (entries (empty {R = row_name_cmp}))
    (sym (len-entries (empty {R = row_name_cmp})) ∙ len-empty row_name_cmp (List Cell))
entries_back (e ∷ es) up =
    entries-insert row_name_cmp_total (from_entries es) e.0 e.1
    ∙ ap (put row_name_cmp e.0 e.1) (entries_back es up.1)
    ∙ put_first e.0 e.1 es up.0

pub len_back : (es : List (RowName × List Cell))
    → IsStrictlySortedBy row_name_cmp (map (λ e. e.0) es)
    → len (from_entries {R = row_name_cmp} es) ≡ length es
len_back es up = len-entries (from_entries es) ∙ ap length (entries_back es up)

-- ---- one more write

after_writes-push : (writes : List Write) (write : Write) (state : State)
    → after_writes (writes ++ write ∷ []) state
    ≡ after_change write.name write.change (after_writes writes state)
after_writes-push [] write state = refl
after_writes-push (first ∷ writes) write state =
    after_writes-push writes write (after_change first.name first.change state)

pub after_writes-more : (writes : List Write) (i : ℕ) (d : Write) (state : State)
    → i < length writes → after_writes (take (i + 1) writes) state
    ≡ after_change (get_or writes i d).name (get_or writes i d).change
    (after_writes (take i writes) state)
after_writes-more writes i d state lt =
    ap (λ ws. after_writes ws state) (take_more writes i d lt) ∙ after_writes-push (take i writes)
    (get_or writes i d) state
