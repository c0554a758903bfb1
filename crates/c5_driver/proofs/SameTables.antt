-- Lists of tables that are one.
use Rattle.std.proofs.Common.{◌≡◌, ◌∙◌, ℕ, Bool, true, false, ◌&&◌, List, [], ◌∷◌, refl, ap}
use Rattle.std.specs.Str.{bytes_eq}
use lib.Pointwise.{pointwise}
use Rattle.std.proofs.lemmas.Slice.Eq.{bytes_eq-Decides}
use Rattle.c5_rows.specs.declared.cells.CellType.{CellType}
use Rattle.c5_rows.specs.declared.cells.CellType.TheVariants.{Int, Text}
use Rattle.c5_rows.specs.declared.tables.TableDef.{TableDef}
use Rattle.c5_driver.specs.SameTables.{is_same_type, are_same_types, is_same_table, are_same_tables}

both-first : (a b : Bool) → (a && b) ≡ true → a ≡ true
both-first true b e = refl
both-first false b e = e

both-second : (a b : Bool) → (a && b) ≡ true → b ≡ true
both-second true b e = e
both-second false b e = absurd cc

bytes_eq-exact : (a b : List ℕ) → bytes_eq a b ≡ true → a ≡ b
bytes_eq-exact a b e = (bytes_eq-Decides a b).0 e

type-is : (a b : CellType) → is_same_type a b ≡ true → a ≡ b
type-is Int Int e = refl
type-is Int Text e = absurd cc
type-is Text Int e = absurd cc
type-is Text Text e = refl

types-are : (xs ys : List CellType) → are_same_types xs ys ≡ true → xs ≡ ys
types-are [] [] e = refl
types-are [] (y ∷ ys) e = absurd cc
types-are (x ∷ xs) [] e = absurd cc
types-are (x ∷ xs) (y ∷ ys) e =
    (λ i. type-is x y (both-first _ _ e) i ∷ types-are xs ys (both-second _ _ e) i)

table-is : (a b : TableDef) → is_same_table a b ≡ true → a ≡ b
table-is a b e =
    let name : a.name ≡ b.name =
    bytes_eq-exact a.name b.name
    (both-first (bytes_eq a.name b.name) (are_same_types a.columns b.columns) e) in
    let columns : a.columns ≡ b.columns =
    types-are a.columns b.columns
    (both-second (bytes_eq a.name b.name) (are_same_types a.columns b.columns) e) in
    (λ i. record { name = name i; columns = columns i })

-- the same tables are one list
pub tables-are : (xs ys : List TableDef) → are_same_tables xs ys ≡ true → xs ≡ ys
tables-are [] [] e = refl
tables-are [] (y ∷ ys) e = absurd cc
tables-are (x ∷ xs) [] e = absurd cc
tables-are (x ∷ xs) (y ∷ ys) e =
    (λ i. table-is x y (both-first (is_same_table x y) (are_same_tables xs ys) e) i
    ∷ tables-are xs ys (both-second (is_same_table x y) (are_same_tables xs ys) e) i)

-- a test that is true for equal types alone
pub record IsTypeTest (test : CellType → CellType → Bool) : Type 0 where
  pub ii : test Int Int ≡ true
  pub it : test Int Text ≡ false
  pub ti : test Text Int ≡ false
  pub xx : test Text Text ≡ true

same-type : (test : CellType → CellType → Bool) → IsTypeTest test → (a b : CellType)
    → test a b ≡ is_same_type a b
same-type test h Int Int = h.ii
same-type test h Int Text = h.it
same-type test h Text Int = h.ti
same-type test h Text Text = h.xx

same-types : (test : CellType → CellType → Bool) → IsTypeTest test → (xs ys : List CellType)
    → pointwise test xs ys ≡ are_same_types xs ys
same-types test h [] [] = refl
same-types test h [] (y ∷ ys) = refl
same-types test h (x ∷ xs) [] = refl
same-types test h (x ∷ xs) (y ∷ ys) = (λ i. same-type test h x y i && same-types test h xs ys i)

pub same-tables : (test : CellType → CellType → Bool) (of : TableDef → TableDef → Bool)
    → IsTypeTest test
    → ((a b : TableDef) → of a b ≡ (bytes_eq a.name b.name && pointwise test a.columns b.columns))
    → (xs ys : List TableDef) → pointwise of xs ys ≡ are_same_tables xs ys
same-tables test of h says [] [] = refl
same-tables test of h says [] (y ∷ ys) = refl
same-tables test of h says (x ∷ xs) [] = refl
same-tables test of h says (x ∷ xs) (y ∷ ys) =
    (λ i. (says x y ∙ ap (λ (b : Bool). bytes_eq x.name y.name && b)
    (same-types test h x.columns y.columns)) i && same-tables test of h says xs ys i)
