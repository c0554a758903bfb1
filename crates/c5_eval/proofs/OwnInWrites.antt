-- The rows that writes set, as a finite map, when the changes are kept as writes.
use Rattle.std.proofs.Common.{◌≡◌, Bool, true, false, cond, List, [], ◌∷◌, Option, Some, map, refl}
use Rattle.std.proofs.Common.{ap, sym, ◌∙◌, Ordering, Less, Equal, Greater}
use Rattle.std.specs.Prelude.{option_map}
use Rattle.std.specs.FinMap.{get, insert, entries, from_entries, find, put, get-entries}
use Rattle.std.specs.FinMap.{get-from_entries, entries-insert, same_map, len-entries, len-empty}
use Rattle.std.specs.FinMap.{empty}
use Rattle.std.specs.Ordering.{is_eq}
use Rattle.std.proofs.lemmas.List.{nil_from_length}
use Rattle.c5_rows.specs.declared.cells.Cell.{Cell}
use Rattle.c5_rows.specs.declared.writes.RowName.{RowName}
use Rattle.c5_rows.specs.declared.writes.Change.{Change}
use Rattle.c5_rows.specs.declared.writes.Change.TheVariants.{Put, Gone}
use Rattle.c5_rows.specs.declared.writes.Write.{Write}
use Rattle.c5_rows.specs.Writes.{IsAscending, IsBelowFirst, put_write, change_of}
use Rattle.c5_rows.specs.Order.{row_name_cmp, row_name_cmp_total, row_name_cmp_exact}
use Rattle.c5_definitions.specs.Eval.{write_of, change_to}
use Rattle.c5_definitions.specs.Follows.{Own, own_writes}
use Rattle.c5_eval.specs.Setting.{row_made, rows_made, pairs_of, set_by}

-- ---- the entries of the map are those of the writes

put_first : (w : Write) (ws : List Write) → IsBelowFirst w.name ws
    → put row_name_cmp w.name (row_made w.change) (rows_made (pairs_of ws))
    ≡ rows_made (pairs_of (w ∷ ws))
put_first w [] below = refl
put_first w (x ∷ ws) below = rw below refl

entries_made : (ws : List Write) → IsAscending ws
    → entries (set_by (pairs_of ws)) ≡ rows_made (pairs_of ws)
entries_made [] up = nil_from_length (entries (empty {R = row_name_cmp}))
    (sym (len-entries (empty {R = row_name_cmp})) ∙ len-empty row_name_cmp (Option (List Cell)))
entries_made (w ∷ ws) up =
    entries-insert row_name_cmp_total (set_by (pairs_of ws)) w.name (row_made w.change)
    ∙ ap (put row_name_cmp w.name (row_made w.change)) (entries_made ws up.1)
    ∙ put_first w ws up.0

-- ---- they give back the writes

change_back : (change : Change) → change_to (row_made change) ≡ change
change_back (Put row) = refl
change_back Gone = refl

writes_back : (ws : List Write) → map (λ (name, row). write_of name row) (rows_made (pairs_of ws))
    ≡ ws
writes_back [] = refl
writes_back (w ∷ ws) = λ i. (record { name = w.name; change = change_back w.change i })
    ∷ writes_back ws i

pub own_writes-set_by : (ws : List Write) → IsAscending ws → own_writes (set_by (pairs_of ws)) ≡ ws
own_writes-set_by ws up = ap (map (λ (name, row). write_of name row))
    (entries_made ws up) ∙ writes_back ws

-- ---- what is found

pub get-set_by : (ws : List Write) (name : RowName)
    → option_map row_made (change_of name ws) ≡ get (set_by (pairs_of ws)) name
get-set_by ws name = found ws ∙ sym
    (get-from_entries row_name_cmp_total (rows_made (pairs_of ws)) name) where
      chosen : (b : Bool) (change : Change) (rest : Option Change)
          → option_map row_made (cond b (Some change) rest)
          ≡ cond b (Some (row_made change)) (option_map row_made rest)
      chosen true change rest = refl
      chosen false change rest = refl

      found : (ws : List Write) → option_map row_made (change_of name ws)
          ≡ find row_name_cmp name (rows_made (pairs_of ws))
      found [] = refl
      found (w ∷ ws) = chosen (is_eq (row_name_cmp name w.name)) w.change (change_of name ws) ∙ ap
          (cond (is_eq (row_name_cmp name w.name)) (Some (row_made w.change))) (found ws)

-- ---- one write more

placed : (w x : Write) (ws : List Write) (o : Ordering) → row_name_cmp w.name x.name ≡ o
    → put row_name_cmp w.name (row_made w.change) (rows_made (pairs_of ws))
    ≡ rows_made (pairs_of (put_write w ws)) →
    put row_name_cmp w.name (row_made w.change) (rows_made (pairs_of (x ∷ ws)))
    ≡ rows_made (pairs_of (put_write w (x ∷ ws)))
placed w x ws Less is later = rw is refl
placed w x ws Equal is later = rw is
    (ap (λ name. (name, row_made w.change) ∷ rows_made (pairs_of ws))
    (sym (row_name_cmp_exact w.name x.name is)))
placed w x ws Greater is later = rw is (ap (λ es. (x.name, row_made x.change) ∷ es) later)

put_made : (w : Write) (ws : List Write)
    → put row_name_cmp w.name (row_made w.change) (rows_made (pairs_of ws))
    ≡ rows_made (pairs_of (put_write w ws))
put_made w [] = refl
put_made w (x ∷ ws) = placed w x ws (row_name_cmp w.name x.name) refl (put_made w ws)

from_its_entries : (own : Own) → from_entries {R = row_name_cmp} (entries own) ≡ own
from_its_entries own = same_map row_name_cmp_total row_name_cmp_exact _ _
    (λ q. get-from_entries row_name_cmp_total (entries own) q ∙ sym (get-entries own q))

pub set_by-put_write : (w : Write) (ws : List Write) → IsAscending ws
    → set_by (pairs_of (put_write w ws)) ≡ insert (set_by (pairs_of ws)) w.name (row_made w.change)
set_by-put_write w ws up =
    ap (from_entries {R = row_name_cmp})
    (sym (put_made w ws) ∙ ap (put row_name_cmp w.name (row_made w.change))
    (sym (entries_made ws up)) ∙ sym
    (entries-insert row_name_cmp_total (set_by (pairs_of ws)) w.name (row_made w.change)))
    ∙ from_its_entries (insert (set_by (pairs_of ws)) w.name (row_made w.change))
