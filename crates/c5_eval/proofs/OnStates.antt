-- What a body does over answered reads is what it does on a state that answers so.
use Rattle.std.proofs.Common.{◌≡◌, Bool, true, false, cond, ◌&&◌, T, List, [], ◌∷◌, ◌++◌, Option}
use Rattle.std.proofs.Common.{Some, None, map, refl, ap, sym, subst, ◌∙◌, Ordering, Less, Equal}
use Rattle.std.proofs.Common.{Greater, MatchOption}
use Rattle.std.specs.FinMap.{FinMap, empty, get, insert, entries, entries_sorted, keys, find, put}
use Rattle.std.specs.FinMap.{is_sorted, get-entries, get-insert, get-remove, get-empty}
use Rattle.std.specs.FinMap.{entries-insert, len-entries, len-empty}
use Rattle.std.specs.FinMap.Entries.{by_order, below_all}
use Rattle.std.specs.Ordering.{eq_by_cmp, is_eq, is_lt, ordering_reverse}
use Rattle.std.specs.Cmp.{tied_itself}
use Rattle.std.specs.List.{AllByRecursion}
use Rattle.std.proofs.lemmas.List.{nil_from_length}
use Rattle.c5_rows.specs.declared.cells.Cell.{Cell}
use Rattle.c5_rows.specs.declared.writes.RowName.{RowName}
use Rattle.c5_rows.specs.declared.writes.Write.{Write}
use Rattle.c5_rows.specs.Order.{row_name_cmp, row_name_cmp_total}
use Rattle.c5_rows.specs.State.{State, after_change}
use Rattle.c5_definitions.specs.declared.script.Statement.{Statement}
use Rattle.c5_definitions.specs.Effects.{declines, keeps, sets, needed, effect_of}
use Rattle.c5_definitions.specs.Eval.{BodySoFar, change_to, write_of, row_needed, set_row}
use Rattle.c5_definitions.specs.Eval.{after_statements, ending_of, eval}
use Rattle.c5_definitions.specs.Follows.{Read, Own, AnsweredBy, FindsRow, FollowsFrom, Follows}
use Rattle.c5_definitions.specs.Follows.{own_writes}
use Rattle.c5_eval.specs.Reader.{answers_to}

-- the row that was set, or else the other one
abbrev set_or : Option (Option (List Cell)) → Option (List Cell) → Option (List Cell)
set_or None other = other
set_or (Some row) other = row

-- the progress is that of a body which has set these rows, from a state
record Matches (start : State) (own : Own) (p : BodySoFar) : Type 0 where
  rows : (q : RowName) → get p.state q ≡ set_or (get own q) (get start q)
  names : keys p.noted ≡ keys own

-- ---- names in order

abbrev put_key : RowName → List RowName → List RowName
put_key name [] = name ∷ []
put_key name (k ∷ ks) = by_order (row_name_cmp name k) (name ∷ k ∷ ks) (k ∷ ks)
    (k ∷ put_key name ks)

keys-put : {X : Type 0} (name : RowName) (x : X) (es : List (RowName × X))
    → map (λ e. e.0) (put row_name_cmp name x es) ≡ put_key name (map (λ e. e.0) es)
keys-put name x [] = refl
keys-put {X} name x (e ∷ es) =
    elim (row_name_cmp name e.0) as
    (λ o. map (λ (e : RowName × X). e.0)
    (by_order o ((name, x) ∷ e ∷ es) ((e.0, x) ∷ es) (e ∷ put row_name_cmp name x es))
    ≡ by_order o (name ∷ e.0 ∷ map (λ e. e.0) es) (e.0 ∷ map (λ e. e.0) es)
    (e.0 ∷ put_key name (map (λ e. e.0) es))) [
      | Less ↦ refl
      | Equal ↦ refl
      | Greater ↦ ap (λ ks. e.0 ∷ ks) (keys-put name x es)
    ]

keys-insert : {X : Type 0} (m : FinMap row_name_cmp X) (name : RowName) (x : X)
    → keys (insert m name x) ≡ put_key name (keys m)
keys-insert m name x = ap (map (λ e. e.0))
    (entries-insert row_name_cmp_total m name x) ∙ keys-put name x (entries m)

entries-empty : {X : Type 0} → entries (empty {X = X} {R = row_name_cmp}) ≡ []
entries-empty {X} = nil_from_length (entries (empty {X = X} {R = row_name_cmp}))
    (sym (len-entries (empty {X = X} {R = row_name_cmp})) ∙ len-empty row_name_cmp X)

-- ---- a row is set

set_matches : (name : RowName) (row : Option (List Cell)) (start : State) (own : Own)
    (p : BodySoFar) → Matches start own p → Matches start (insert own name row) (set_row name row p)
set_matches name row start own p m = record {
  rows = λ q. state_set row q ∙ chosen (eq_by_cmp row_name_cmp q name) (get own q) (get start q)
      (get p.state q) row (m.rows q) ∙ ap (λ o. set_or o (get start q))
      (sym (get-insert row_name_cmp_total own name row q));
  names = keys-insert p.noted name tt ∙ ap (put_key name) m.names ∙ sym (keys-insert own name row);
} where
  state_set : (row : Option (List Cell)) (q : RowName)
      → get (after_change name (change_to row) p.state) q
      ≡ cond (eq_by_cmp row_name_cmp q name) row (get p.state q)
  state_set (Some cells) q = get-insert row_name_cmp_total p.state name cells q
  state_set None q = get-remove row_name_cmp_total p.state name q

  chosen : (b : Bool) (own : Option (Option (List Cell))) (start now row : Option (List Cell))
      → now ≡ set_or own start → cond b row now ≡ set_or (cond b (Some row) own) start
  chosen true own start now row h = refl
  chosen false own start now row h = h

start_matches : (start : State) → Matches start empty (record { state = start; noted = empty })
start_matches start = record {
  rows = λ q. ap (λ o. set_or o (get start q))
      (sym (get-empty {X = Option (List Cell)} row_name_cmp q));
  names = ap (map (λ e. e.0)) (entries-empty {X = Unit {0}}) ∙ sym
      (ap (map (λ e. e.0)) (entries-empty {X = Option (List Cell)}));
}

-- ---- the writes at the end

first_part : (a b : Bool) → T (a && b) → T a
first_part true b h = tt
first_part false b h = h

second_part : (a b : Bool) → T (a && b) → T b
second_part true b h = h
second_part false b h = absurd h

not_found : (o : Ordering) → T (is_lt o) → is_eq (ordering_reverse o) ≡ false
not_found Less h = refl
not_found Equal h = absurd h
not_found Greater h = absurd h

found_behind : (e : RowName × Option (List Cell)) (es fs : List (RowName × Option (List Cell)))
    → T (below_all row_name_cmp e.0 fs)
    → AllByRecursion (λ f. find row_name_cmp f.0 es ≡ Some f.1) fs
    → AllByRecursion (λ f. find row_name_cmp f.0 (e ∷ es) ≡ Some f.1) fs
found_behind e es [] below all = tt
found_behind e es (f ∷ fs) below all = (
  ap (λ b. cond b (Some e.1) (find row_name_cmp f.0 es))
      (ap is_eq (row_name_cmp_total.antisymm f.0 e.0) ∙ not_found (row_name_cmp e.0 f.0)
      (first_part (is_lt (row_name_cmp e.0 f.0)) (below_all row_name_cmp e.0 fs) below)) ∙ all.0,
  found_behind e es fs
      (second_part (is_lt (row_name_cmp e.0 f.0)) (below_all row_name_cmp e.0 fs) below) all.1,
)

each_found : (es : List (RowName × Option (List Cell))) → T (is_sorted row_name_cmp es)
    → AllByRecursion (λ e. find row_name_cmp e.0 es ≡ Some e.1) es
each_found [] up = tt
each_found (e ∷ es) up = (
  ap (λ r. cond (is_eq r) (Some e.1) (find row_name_cmp e.0 es))
      (tied_itself row_name_cmp_total e.0),
  found_behind e es es (first_part (below_all row_name_cmp e.0 es) (is_sorted row_name_cmp es) up)
      (each_found es (second_part (below_all row_name_cmp e.0 es) (is_sorted row_name_cmp es) up)),
)

same_writes : (start : State) (own : Own) (p : BodySoFar) → Matches start own p
    → (es : List (RowName × Option (List Cell)))
    → AllByRecursion (λ e. find row_name_cmp e.0 (entries own) ≡ Some e.1) es →
    map (λ name. write_of name (get p.state name)) (map (λ e. e.0) es)
    ≡ map (λ (name, row). write_of name row) es
same_writes start own p m [] all = refl
same_writes start own p m (e ∷ es) all =
    let row : get p.state e.0 ≡ e.1 =
    m.rows e.0 ∙ ap (λ o. set_or o (get start e.0)) (get-entries own e.0 ∙ all.0) in
    λ i. write_of e.0 (row i) ∷ same_writes start own p m es all.1 i

ended : (start : State) (own : Own) (p : BodySoFar) → Matches start own p
    → ending_of (Some p) ≡ record { declined = false; writes = own_writes own }
ended start own p m =
    ap (λ ws. record { declined = false; writes = ws })
    (ap (map (λ name. write_of name (get p.state name))) m.names ∙ same_writes start own p m
    (entries own) (each_found (entries own) (entries_sorted own)))

-- ---- statement after statement

needed_row : (name : Option RowName) (start : State) (own : Own) (p : BodySoFar)
    (reads rest : List Read) (found : Option (List Cell)) → Matches start own p
    → AnsweredBy start reads → FindsRow name own reads found rest
    → (row_needed name p.state ≡ found) × AnsweredBy start rest
needed_row None start own p reads rest found m answered finds =
    (sym finds.0, subst (AnsweredBy start) (sym finds.1) answered)
needed_row (Some name) start own p reads rest found m answered finds =
    elim (get own name) as (λ o. get p.state name ≡ set_or o (get start name)
    → MatchOption o (reads ≡ (name, found) ∷ rest) (λ set. (found ≡ set) × (rest ≡ reads))
    → (get p.state name ≡ found) × AnsweredBy start rest) [
      | None ↦ λ row is. let all = subst (AnsweredBy start) is answered in (row ∙ sym all.0, all.1)
      | Some set ↦ λ row is. (row ∙ sym is.0, subst (AnsweredBy start) (sym is.1) answered)
    ] (m.rows name) finds

follows_on : (statements : List Statement) (start : State) (own : Own) (p : BodySoFar)
    (reads : List Read) (declined : Bool) (writes : List Write) →
    Matches start own p → AnsweredBy start reads → FollowsFrom statements own reads declined writes
    → ending_of (after_statements statements p)
    ≡ record { declined = declined; writes = writes }
follows_on [] start own p reads declined writes m answered h =
    ended start own p m ∙ (λ i. record { declined = sym h.1 i; writes = sym h.2 i })
follows_on (statement ∷ statements) start own p reads declined writes m answered
    (found, rest, finds, acts) =
    let row = needed_row (needed statement) start own p reads rest found m answered finds in
    subst (λ (r : Option (List Cell)). ending_of
    (elim (effect_of statement r) [
      | declines ↦ None
      | keeps ↦ after_statements statements p
      | sets name set ↦ after_statements
          statements (set_row name set p)
    ]) ≡ record { declined = declined; writes = writes })
    (sym row.0)
    (elim (effect_of statement found) as (λ e.
    elim e as (λ _. Type 0) [
      | declines ↦ (rest ≡ []) × (declined ≡ true)
          × (writes ≡ [])
      | keeps ↦ FollowsFrom statements own rest declined writes
      | sets name set ↦
          FollowsFrom statements (insert own name set) rest declined writes
    ]
    → ending_of
    (elim e [
      | declines ↦ None
      | keeps ↦ after_statements statements p
      | sets name set ↦
          after_statements statements (set_row name set p)
    ])
    ≡ record { declined = declined; writes = writes }) [
      | declines ↦ λ h. λ i. record { declined = sym h.1 i; writes = sym h.2 i }
      | keeps ↦ λ h. follows_on statements start own p rest declined writes m row.1 h
      | sets name set ↦ λ h. follows_on statements start (insert own name set)
          (set_row name set p) rest declined writes (set_matches name set start own p m) row.1 h
    ] acts)

-- a body that ends so over reads that the state answers ends so on the state
pub follows_eval : (body : List Statement) (start : State) (reads : List Read) (declined : Bool)
    (writes : List Write) → Follows body reads declined writes → AnsweredBy start reads
    → eval body start ≡ record { declined = declined; writes = writes }
unfolding eval
follows_eval body start reads declined writes h answered =
    follows_on body start empty (record { state = start; noted = empty }) reads declined writes
    (start_matches start) answered h

-- what a state answers to names
pub answers_answered : (state : State) (names : List RowName)
    → AnsweredBy state (answers_to state names)
answers_answered state [] = tt
answers_answered state (name ∷ names) = (refl, answers_answered state names)

-- what a reader was asked for since it was made is answered by its rows
pub answered_since : (state made now : State) (first names : List RowName) (reads : List Read)
    → made ≡ state → first ≡ [] → now ≡ made → answers_to now names ≡ answers_to made first ++ reads
    → AnsweredBy state reads
answered_since state made now first names reads is none same asked =
    let begun : answers_to made first ≡ [] = ap (answers_to made) none in
    let all : answers_to now names ≡ reads =
    asked ∙ ap (λ (before : List Read). before ++ reads) begun in
    subst (λ (s : State). AnsweredBy s reads) (same ∙ is)
    (subst (AnsweredBy now) all (answers_answered now names))

-- a body over such a reader ends as it does on the rows
pub ends_on_rows : (body : List Statement) (state made now : State) (first names : List RowName)
    (reads : List Read) (declined : Bool) (writes : List Write)
    → Follows body reads declined writes →
    made ≡ state → first ≡ [] → now ≡ made → answers_to now names ≡ answers_to made first ++ reads
    → eval body state ≡ record { declined = declined; writes = writes }
ends_on_rows body state made now first names reads declined writes follows is none same asked =
    follows_eval body state reads declined writes follows
    (answered_since state made now first names reads is none same asked)
