-- The writes of a body that fits, on a state that fits, are lawful, and leave a state that fits.
use Rattle.std.proofs.Common.{◌≡◌, ◌<◌, ◌+ℤ◌, ◌∙◌, ℕ, ℤ, pos, negsuc, zero, suc, Bool, true, false}
use Rattle.std.proofs.Common.{cond, ◌||◌, List, [], ◌∷◌, Option, Some, None, length, map, refl, ap}
use Rattle.std.proofs.Common.{sym, subst, arith}
use Rattle.std.proofs.lemmas.Bool.{false≢true}
use Rattle.std.specs.Prelude.{is_some, MatchOption, slice_get, slice_set, FitsSigned}
use Rattle.std.specs.Int.{w64}
use Rattle.std.specs.FinMap as map
use Rattle.std.specs.List.{AllByRecursion, list_any}
use Rattle.std.specs.Ordering.{eq_by_cmp}
use Rattle.std.specs.Cmp.{Equal-is, eq_by_cmp_equiv}
use Rattle.c5_rows.specs.Bytes.{IsKey}
use Rattle.c5_rows.specs.Cells.{type_of}
use Rattle.c5_rows.specs.Order.{row_name_cmp, row_name_cmp_total, row_name_cmp_exact}
use Rattle.c5_rows.specs.State.{State, after_change, after_writes}
use Rattle.c5_rows.specs.declared.cells.Cell.{Cell}
use Rattle.c5_rows.specs.declared.cells.Cell.TheVariants.{Int, Txt}
use Rattle.c5_rows.specs.declared.cells.CellType.{CellType}
use Rattle.c5_rows.specs.declared.cells.CellType.TheVariants as types
use Rattle.c5_rows.specs.declared.tables.TableDef.{TableDef}
use Rattle.c5_rows.specs.declared.writes.RowName.{RowName}
use Rattle.c5_rows.specs.declared.writes.Change.{Change}
use Rattle.c5_rows.specs.declared.writes.Change.TheVariants as changes
use Rattle.c5_rows.specs.declared.writes.Write.{Write}
use Rattle.c5_rows.specs.Fitting.{FitsTables, RowFits}
use Rattle.c5_definitions.specs.declared.script.Statement.{Statement}
use Rattle.c5_definitions.specs.declared.script.Statement.TheVariants.{Put, Del, Need, Add, Copy}
use Rattle.c5_definitions.specs.declared.script.Rel.{Rel}
use Rattle.c5_definitions.specs.Effects.{Effect, declines, keeps, sets, needed, effect_of}
use Rattle.c5_definitions.specs.Effects.{int_of_cell, int_in_column, need_effect, add_effect}
use Rattle.c5_definitions.specs.Effects.{compares, fits_i64}
use Rattle.c5_definitions.specs.Eval.{BodySoFar, change_to, write_of, row_needed, set_row}
use Rattle.c5_definitions.specs.Eval.{after_statements, ending_of, eval}
use Rattle.c5_definitions.specs.Lawful.{IsLawfulCell, IsLawfulChange, IsLawfulWrite}
use Rattle.c5_definitions.specs.FitsScript.{HasTable, StatementFits, BodyFits, IsStatement}
use Rattle.c5_definitions.specs.FitsState.{IsNameIn, IsRowIn, MayBeIn, StateFits}

-- ---- tables by their numbers

has_none : (P : TableDef → Type 0) (tables : List TableDef) (n : ℕ)
    → MatchOption (slice_get tables n) ⊥ P → n < length tables
has_none P [] n found = absurd found
has_none P (table ∷ tables) zero found = omega arith
has_none P (table ∷ tables) (suc n) found = let within = has_none P tables n found in omega arith

has_any : (tables : List TableDef) (n : ℕ) → n < length tables
    → MatchOption (slice_get tables n) ⊥ (λ _. Unit {0})
has_any [] n within = absurd (omega arith)
has_any (table ∷ tables) zero within = tt
has_any (table ∷ tables) (suc n) within = has_any tables n (omega arith)

-- ---- one cell of a row changed

types_stay : (row : List Cell) (col : ℕ) (a b : ℤ) → slice_get row col ≡ Some (Int a)
    → map type_of (slice_set row col (Int b)) ≡ map type_of row
types_stay [] col a b found = refl
types_stay (cell ∷ row) zero a b found =
    ap (λ (o : Option Cell). elim o [ Some c ↦ type_of c | None ↦ types.Int ] ∷ map type_of row)
    (sym found)
types_stay (cell ∷ row) (suc col) a b found =
    ap (λ (ts : List CellType). type_of cell ∷ ts) (types_stay row col a b found)

lawful_set : (row : List Cell) (col : ℕ) (new : Cell) → IsLawfulCell new
    → AllByRecursion IsLawfulCell row → AllByRecursion IsLawfulCell (slice_set row col new)
lawful_set [] col new lawful all = tt
lawful_set (cell ∷ row) zero new lawful all = (lawful, all.1)
lawful_set (cell ∷ row) (suc col) new lawful all = (all.0, lawful_set row col new lawful all.1)

i64_fits : (n : ℤ) → fits_i64 n ≡ true → FitsSigned w64 n
i64_fits (pos n) fits = grind (arith, fits)
i64_fits (negsuc n) fits = grind (arith, fits)

-- ---- what a statement does

-- what is set has a name in the tables, and is a row there
abbrev EffectFits : List TableDef → Effect → Type 0
EffectFits tables declines = Unit {0}
EffectFits tables keeps = Unit {0}
EffectFits tables (sets name found) = IsNameIn tables name × MayBeIn tables name found

name_of_row : (tables : List TableDef) (name : RowName) (row : List Cell) → IsRowIn tables name row
    → IsNameIn tables name
name_of_row tables name row is =
    record {
      key = is.key;
      table = has_none
          (λ table. map type_of row ≡ table.columns) tables name.table is.fits;
    }

need_fits : (tables : List TableDef) (cell : Option ℤ) (rel : Rel) (n : ℤ)
    → EffectFits tables (need_effect cell rel n)
need_fits tables None rel n = tt
need_fits tables (Some cell) rel n = by (compares rel cell n)
  where
    by : (b : Bool) → EffectFits tables (cond b keeps declines)
    by true = tt
    by false = tt

changed : (tables : List TableDef) (name : RowName) (col : ℕ) (row : List Cell) (a b : ℤ)
    → IsRowIn tables name row → slice_get row col ≡ Some (Int a) → FitsSigned w64 b
    → IsRowIn tables name (slice_set row col (Int b))
changed tables name col row a b is found fits = record {
  key = is.key;
  cells = lawful_set row col (Int b) fits is.cells;
  fits = subst
      (λ (ts : List CellType). MatchOption (slice_get tables name.table) ⊥
      (λ table. ts ≡ table.columns)) (sym (types_stay row col a b found)) is.fits;
}

add_fits : (tables : List TableDef) (name : RowName) (col : ℕ) (found : Option (List Cell)) (n : ℤ)
    → MayBeIn tables name found
    → EffectFits tables (add_effect name col found (int_in_column col found) n)
add_fits tables name col None n is = tt
add_fits tables name col (Some row) n is = by_cell (slice_get row col) refl
  where
    by_sum : (a b : ℤ) → slice_get row col ≡ Some (Int a) → (fits : Bool) → fits_i64 b ≡ fits
        → EffectFits tables (cond fits (sets name (Some (slice_set row col (Int b)))) declines)
    by_sum a b at true fits =
        let there = is row refl in
        let new = changed tables name col row a b there at (i64_fits b fits) in (
          name_of_row tables name row there,
          λ (r : List Cell) (e : Some (slice_set row col (Int b)) ≡ Some r). subst
              (IsRowIn tables name)
              (ap (λ (o : Option (List Cell)). elim o [ Some x ↦ x | None ↦ [] ]) e) new,
        )
    by_sum a b at false fits = tt

    by_cell : (cell : Option Cell) → slice_get row col ≡ cell
        → EffectFits tables (add_effect name col (Some row) (int_of_cell cell) n)
    by_cell None at = tt
    by_cell (Some (Int a)) at = by_sum a (a +ℤ n) at (fits_i64 (a +ℤ n)) refl
    by_cell (Some (Txt bytes)) at = tt

the_row : (tables : List TableDef) (name : RowName) (row : List Cell) → IsRowIn tables name row
    → MayBeIn tables name (Some row)
the_row tables name row is = λ (r : List Cell) (e : Some row ≡ Some r). subst (IsRowIn tables name)
    (ap (λ (o : Option (List Cell)). elim o [ Some x ↦ x | None ↦ [] ]) e) is

abbrev IsMissing : Option (List Cell) → Type 0
IsMissing None = Unit {0}
IsMissing (Some row) = ⊥

no_row : (tables : List TableDef) (name : RowName) → MayBeIn tables name None
no_row tables name = λ (r : List Cell) (e : None ≡ Some r). absurd (subst IsMissing e tt)

effect_fits : (tables : List TableDef) (statement : Statement) (state : State)
    → StatementFits tables statement → IsStatement statement → StateFits tables state
    → EffectFits tables (effect_of statement (row_needed (needed statement) state))
effect_fits tables (Put name row) state fits is all =
    let there : IsRowIn tables name row = record { key = is.0; cells = is.1; fits = fits } in
    (name_of_row tables name row there, the_row tables name row there)
effect_fits tables (Del name) state fits is all =
    (record { key = is; table = fits }, no_row tables name)
effect_fits tables (Need name col rel n) state fits is all =
    need_fits tables (int_in_column col (map.get state name)) rel n
effect_fits tables (Add name col n) state fits is all =
    add_fits tables name col (map.get state name) n (all name)
effect_fits tables (Copy from to) state fits is all = (
  record { key = is.1; table = subst (HasTable tables) fits.1 fits.0 },
  λ (row : List Cell) (e : map.get state from ≡ Some row).
      let there = all from row e in
      record {
        key = is.1;
        cells = there.cells;
        fits = subst (λ (n : ℕ). RowFits tables n row) fits.1 there.fits;
      },
)

-- ---- states

pub same_name : (a b : RowName) → eq_by_cmp row_name_cmp a b ≡ true → a ≡ b
same_name a b tie = row_name_cmp_exact a b ((Equal-is (row_name_cmp a b)).0 tie)

at_one : (tables : List TableDef) (name q : RowName) (b : Bool) → eq_by_cmp row_name_cmp q name ≡ b
    → (new old : Option (List Cell)) → MayBeIn tables name new → MayBeIn tables q old
    → MayBeIn tables q (cond b new old)
at_one tables name q true tie new old is was =
    subst (λ (n : RowName). MayBeIn tables n new) (sym (same_name q name tie)) is
at_one tables name q false tie new old is was = was

change_fits : (tables : List TableDef) (name : RowName) (found : Option (List Cell)) (state : State)
    → MayBeIn tables name found → StateFits tables state
    → StateFits tables (after_change name (change_to found) state)
change_fits tables name None state is all = λ (q : RowName).
    subst (MayBeIn tables q) (sym (map.get-remove row_name_cmp_total state name q))
    (at_one tables name q (eq_by_cmp row_name_cmp q name) refl None (map.get state q) is
    (all q))
change_fits tables name (Some row) state is all = λ (q : RowName).
    subst (MayBeIn tables q) (sym (map.get-insert row_name_cmp_total state name row q))
    (at_one tables name q (eq_by_cmp row_name_cmp q name) refl (Some row) (map.get state q) is
    (all q))

-- no row fits any tables
pub StateFits-empty : (tables : List TableDef) → StateFits tables map.empty
StateFits-empty tables = λ (name : RowName). subst (MayBeIn tables name)
    (sym (map.get-empty row_name_cmp name)) (no_row tables name)

one_write : (tables : List TableDef) (name : RowName) (change : Change) (state : State)
    → IsKey name.key → IsLawfulChange change
    → FitsTables tables (record { name = name; change = change }) → StateFits tables state
    → StateFits tables (after_change name change state)
one_write tables name (changes.Put row) state key lawful fits all =
    change_fits tables name (Some row) state
    (the_row tables name row (record { key = key; cells = lawful; fits = fits })) all
one_write tables name changes.Gone state key lawful fits all =
    change_fits tables name None state (no_row tables name) all

-- lawful writes leave a state that fits
pub StateFits-after_writes : (tables : List TableDef) (writes : List Write) (state : State)
    → AllByRecursion (IsLawfulWrite tables) writes → StateFits tables state
    → StateFits tables (after_writes writes state)
StateFits-after_writes tables [] state lawful all = all
StateFits-after_writes tables (write ∷ writes) state lawful all =
    let first = lawful.0 in
    StateFits-after_writes tables writes (after_change write.name write.change state) lawful.1
    (one_write tables write.name write.change state first.key first.change first.fits all)

pub or_true : (b : Bool) → (b || true) ≡ true
or_true true = refl
or_true false = refl

-- ---- whole bodies

record ProgressFits (tables : List TableDef) (p : BodySoFar) : Type 0 where
  state : StateFits tables p.state
  noted : (name : RowName) → map.contains_key p.noted name ≡ true → IsNameIn tables name

abbrev EndFits : List TableDef → Option BodySoFar → Type 0
EndFits tables None = Unit {0}
EndFits tables (Some p) = ProgressFits tables p

noted_more : (tables : List TableDef) (name q : RowName) (b c : Bool)
    → eq_by_cmp row_name_cmp q name ≡ b → IsNameIn tables name → (c ≡ true → IsNameIn tables q)
    → (b || c) ≡ true → IsNameIn tables q
noted_more tables name q true c tie is was h =
    subst (IsNameIn tables) (sym (same_name q name tie)) is
noted_more tables name q false c tie is was h = was h

some_or : (b : Bool) (found : Option (Unit {0}))
    → is_some (cond b (Some tt) found) ≡ (b || is_some found)
some_or true found = refl
some_or false found = refl

pub contains-insert : (noted : map.FinMap row_name_cmp (Unit {0})) (name q : RowName)
    → map.contains_key (map.insert noted name tt) q
    ≡ (eq_by_cmp row_name_cmp q name || map.contains_key noted q)
contains-insert noted name q = ap is_some
    (map.get-insert row_name_cmp_total noted name tt q) ∙ some_or (eq_by_cmp row_name_cmp q name)
    (map.get noted q)

set_fits : (tables : List TableDef) (name : RowName) (found : Option (List Cell)) (p : BodySoFar)
    → IsNameIn tables name → MayBeIn tables name found → ProgressFits tables p
    → ProgressFits tables (set_row name found p)
set_fits tables name found p is row so_far = record {
  state = change_fits tables name found p.state row so_far.state;
  noted = λ (q : RowName) (h : map.contains_key (map.insert p.noted name tt) q ≡ true).
      noted_more tables name q (eq_by_cmp row_name_cmp q name) (map.contains_key p.noted q) refl is
      (so_far.noted q) (sym (contains-insert p.noted name q) ∙ h);
}

run_fits : (tables : List TableDef) (body : List Statement) (p : BodySoFar) → BodyFits tables body
    → AllByRecursion IsStatement body → ProgressFits tables p
    → EndFits tables (after_statements body p)
run_fits tables [] p fits is so_far = so_far
run_fits tables (statement ∷ statements) p fits is so_far =
    by (λ q q_fits. run_fits tables statements q fits.1 is.1 q_fits)
    (effect_of statement (row_needed (needed statement) p.state))
    (effect_fits tables statement p.state fits.0 is.0 so_far.state)
  where
    by : ((q : BodySoFar) → ProgressFits tables q → EndFits tables (after_statements statements q))
        → (effect : Effect) → EffectFits tables effect
        → EndFits tables
        (elim effect [
          | declines ↦ None
          | keeps ↦ after_statements statements p
          | sets name row ↦
              after_statements statements (set_row name row p)
        ])
    by rest declines e = tt
    by rest keeps e = rest p so_far
    by rest (sets name found) e =
        rest (set_row name found p) (set_fits tables name found p e.0 e.1 so_far)

lawful_write : (tables : List TableDef) (name : RowName) (found : Option (List Cell))
    → IsNameIn tables name → MayBeIn tables name found → IsLawfulWrite tables (write_of name found)
lawful_write tables name None is row =
    record { key = is.key; change = tt; fits = has_any tables name.table is.table }
lawful_write tables name (Some cells) is row = let there = row cells refl in
    record { key = is.key; change = there.cells; fits = there.fits }

lawful_writes : (tables : List TableDef) (state : State) (ks : List RowName)
    → StateFits tables state
    → ((q : RowName) → list_any (eq_by_cmp row_name_cmp q) ks ≡ true → IsNameIn tables q)
    → AllByRecursion (IsLawfulWrite tables) (map (λ name. write_of name (map.get state name)) ks)
lawful_writes tables state [] all each = tt
lawful_writes tables state (k ∷ ks) all each = (
  lawful_write tables k (map.get state k)
      (each k (ap (λ (b : Bool). b || list_any (eq_by_cmp row_name_cmp k) ks)
      ((eq_by_cmp_equiv row_name_cmp_total).refl k))) (all k),
  lawful_writes tables state ks all
      (λ (q : RowName) (h : list_any (eq_by_cmp row_name_cmp q) ks ≡ true). each q
      (ap (λ (b : Bool). eq_by_cmp row_name_cmp q k || b) h ∙ or_true
      (eq_by_cmp row_name_cmp q k))),
)

ending_fits : (tables : List TableDef) (end : Option BodySoFar) → EndFits tables end
    → AllByRecursion (IsLawfulWrite tables) (ending_of end).writes
ending_fits tables None fits = tt
ending_fits tables (Some p) fits =
    lawful_writes tables p.state (map.keys p.noted) fits.state
    (λ (q : RowName) (h : list_any (eq_by_cmp row_name_cmp q) (map.keys p.noted)
    ≡ true). fits.noted q (map.contains_key-keys p.noted q ∙ h))

-- a body that fits makes lawful writes on a state that fits
pub eval-lawful : (tables : List TableDef) (body : List Statement) (state : State)
    → BodyFits tables body → AllByRecursion IsStatement body → StateFits tables state
    → AllByRecursion (IsLawfulWrite tables) (eval body state).writes
unfolding eval
eval-lawful tables body state fits is all =
    ending_fits tables (after_statements body (record { state = state; noted = map.empty }))
    (run_fits tables body (record { state = state; noted = map.empty }) fits is
    (record {
      state = all;
      noted = λ (name : RowName)
          (h : map.contains_key (map.empty {X = Unit {0}} {R = row_name_cmp}) name ≡ true). absurd
          (false≢true (sym (ap is_some (map.get-empty row_name_cmp name)) ∙ h));
    }))
