-- The names of tables: each differs from those before it.
use Rattle.std.proofs.Common.{◌≡◌, ◌∙◌, ◌+◌, ℕ, Bool, true, false, cond, List, [], ◌∷◌, ◌++◌}
use Rattle.std.proofs.Common.{Option, Some, None, refl}
use Rattle.std.specs.Str.{bytes_eq}
use Rattle.std.specs.List.{AllByRecursion}
use Rattle.std.proofs.lemmas.Cmp.{nat_list_eq_equiv}
use Rattle.c5_rows.specs.Tables.{table_number_from, table_number, HaveNames}
use Rattle.c5_rows.specs.declared.tables.TableDef.{TableDef}

pub AllByRecursion-push : {A : Type 0} (P : A → Type 0) (xs : List A) (x : A) → AllByRecursion P xs
    → P x → AllByRecursion P (xs ++ x ∷ [])
AllByRecursion-push P [] x all one = (one, tt)
AllByRecursion-push P (y ∷ ys) x all one = (all.0, AllByRecursion-push P ys x all.1 one)

-- the names of tables differ from those of the tables before them
abbrev pub FreeOf : List TableDef → List TableDef → Type 0
FreeOf earlier [] = Unit {0}
FreeOf earlier (table ∷ tables) = (table_number table.name earlier ≡ None)
    × FreeOf (earlier ++ table ∷ []) tables

-- ---- the names of a schema are new, each after those before it

bytes_eq-swap : (a b : List ℕ) → bytes_eq a b ≡ bytes_eq b a
bytes_eq-swap a b = nat_list_eq_equiv.symm a b

-- the name of no earlier table is the one of this table
abbrev NoneHas : List ℕ → List TableDef → Type 0
NoneHas name tables = AllByRecursion (λ table. bytes_eq table.name name ≡ false) tables

here : {A : Type 0} (b : Bool) (x : A) (o : Option A) → cond b (Some x) o ≡ None → (b ≡ false)
    × (o ≡ None)
here true x o e = absurd cc
here false x o e = (refl, e)

none_has : (n : ℕ) (name : List ℕ) (tables : List TableDef) → table_number_from n name tables ≡ None
    → NoneHas name tables
none_has n name [] e = tt
none_has n name (table ∷ tables) e =
    let h = here (bytes_eq table.name name) n (table_number_from (n + 1) name tables) e in
    (h.0, none_has (n + 1) name tables h.1)

has_none : (n : ℕ) (name : List ℕ) (tables : List TableDef) → NoneHas name tables
    → table_number_from n name tables ≡ None
has_none n name [] none = refl
has_none n name (table ∷ tables) none = rw none.0 (has_none (n + 1) name tables none.1)

-- none of the later tables has the name of an earlier one
abbrev Apart : List TableDef → List TableDef → Type 0
Apart earlier tables = AllByRecursion (λ table. NoneHas table.name earlier) tables

push-none : (name : List ℕ) (earlier : List TableDef) (table : TableDef) → NoneHas name earlier
    → bytes_eq table.name name ≡ false → NoneHas name (earlier ++ table ∷ [])
push-none name earlier table none other =
    AllByRecursion-push (λ t. bytes_eq t.name name ≡ false) earlier table none other

apart-push : (earlier : List TableDef) (table : TableDef) (tables : List TableDef)
    → NoneHas table.name tables → Apart earlier tables → Apart (earlier ++ table ∷ []) tables
apart-push earlier table [] none apart = tt
apart-push earlier table (next ∷ tables) none apart = (
  push-none next.name earlier table apart.0 (bytes_eq-swap table.name next.name ∙ none.0),
  apart-push earlier table tables none.1 apart.1,
)

pub free : (earlier tables : List TableDef) → HaveNames tables → Apart earlier tables
    → FreeOf earlier tables
free earlier [] names apart = tt
free earlier (table ∷ tables) names apart = (
  has_none 0 table.name earlier apart.0,
  free (earlier ++ table ∷ []) tables names.1
      (apart-push earlier table tables (none_has 0 table.name tables names.0) apart.1),
)

pub apart-nothing : (tables : List TableDef) → Apart [] tables
apart-nothing [] = tt
apart-nothing (table ∷ tables) = (tt, apart-nothing tables)

-- ---- one more name

none_here : (b : Bool) (n : ℕ) (r : Option ℕ) → cond b (Some n) r ≡ None → (b ≡ false) × (r ≡ None)
none_here true n r e = absurd cc
none_here false n r e = (refl, e)

table_number_from-push : (n : ℕ) (name : List ℕ) (tables : List TableDef) (table : TableDef)
    → table_number_from n name tables ≡ None → bytes_eq table.name name ≡ false
    → table_number_from n name (tables ++ table ∷ []) ≡ None
table_number_from-push n name [] table none other = rw other refl
table_number_from-push n name (first ∷ tables) table none other =
    let here = none_here (bytes_eq first.name name) n
    (table_number_from (n + 1) name tables) none in
    rw here.0 (table_number_from-push (n + 1) name tables table here.1 other)

pub HaveNames-push : (n : ℕ) (tables : List TableDef) (table : TableDef) → HaveNames tables
    → table_number_from n table.name tables ≡ None → HaveNames (tables ++ table ∷ [])
HaveNames-push n [] table names none = (refl, tt)
HaveNames-push n (first ∷ tables) table names none =
    let here = none_here (bytes_eq first.name table.name) n
    (table_number_from (n + 1) table.name tables) none in (
      table_number_from-push 0 first.name tables table names.0
          (nat_list_eq_equiv.symm table.name first.name ∙ here.0),
      HaveNames-push (n + 1) tables table names.1 here.1,
    )
