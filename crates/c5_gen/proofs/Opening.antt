-- What the first body leaves: each account with its first balance.
use Rattle.std.proofs.Common.{◌≡◌, ℕ, zero, suc, ◌+◌, ◌<◌, ◌≤◌, List, [], ◌∷◌, map, length, get_or}
use Rattle.std.proofs.Common.{Some}
use Rattle.std.proofs.Common.{false, replicate, refl, sym, ap, subst, ◌∙◌, arith}
use Rattle.std.specs.FinMap.{empty, get, entries, keys, put, entries-insert, len-entries, len-empty}
use Rattle.std.specs.List.{AllByRecursion, range_with_len}
use Rattle.std.proofs.lemmas.List.{nil_from_length, length-map, length-replicate, replicate_more}
use Rattle.c5_rows.specs.declared.cells.Cell.{Cell}
use Rattle.c5_rows.specs.declared.writes.RowName.{RowName}
use Rattle.c5_rows.specs.declared.writes.Write.{Write}
use Rattle.c5_rows.specs.declared.writes.Change.TheVariants as changes
use Rattle.c5_rows.specs.Order.{row_name_cmp, row_name_cmp_total}
use Rattle.c5_rows.specs.State.{State, after_writes}
use Rattle.c5_definitions.specs.declared.script.Statement.{Statement}
use Rattle.c5_definitions.specs.declared.script.Statement.TheVariants.{Put}
use Rattle.c5_definitions.specs.Eval.{BodySoFar, Ending, write_of, set_row, after_statements}
use Rattle.c5_definitions.specs.Eval.{ending_of, eval}
use Rattle.c5_definitions.specs.Generated.{account, account_count, balance_row, opening_balance}
use Rattle.c5_definitions.specs.Generated.{opening_body}
use Rattle.c5_definitions.specs.Outputs.{no_rows}
use Rattle.c5_gen.proofs.Balances.{accounts_from, put-after, Shows, shows-get}
use Rattle.c5_gen.proofs.Wrote.{Kept, kept-set, writes-leave}

-- ---- writes of accounts

-- the name is that of an account
abbrev pub IsAccount : RowName → Type 0
IsAccount name = (n : ℕ) × (n < account_count) × (name ≡ account n)

-- the write gives an account a balance
abbrev pub IsAccountPut : Write → Type 0
IsAccountPut write =
    (n : ℕ) × (b : ℕ) × (write ≡ record { name = account n; change = changes.Put (balance_row b) })

pub puts-accounts : (state : State) (balances : List ℕ) (names : List RowName)
    → Shows state balances
    → length balances ≡ account_count → AllByRecursion IsAccount names
    → AllByRecursion IsAccountPut (map (λ name. write_of name (get state name)) names)
puts-accounts state balances [] is all each = tt
puts-accounts state balances (name ∷ names) is all each = (
  (
    each.0.0,
    get_or balances each.0.0 0,
    ap (λ q. write_of q (get state q)) each.0.2
        ∙ ap (write_of (account each.0.0))
        (shows-get state balances each.0.0 is (omega (arith, all, each.0.1))),
  ),
  puts-accounts state balances names is all each.1,
)

-- what a body that doesn't decline leaves of rows with balances
pub record Leaves (body : List Statement) (state : State) (balances : List ℕ) : Type 0 where
  pub shows : Shows (after_writes (eval body state).writes state) balances
  pub puts : AllByRecursion IsAccountPut (eval body state).writes

-- ---- the opening

abbrev start : BodySoFar
start = record { state = no_rows; noted = empty }

-- the first k accounts have been opened
record Opened (k : ℕ) (p : BodySoFar) : Type 0 where
  rows : entries p.state ≡ accounts_from 0 (replicate k (balance_row opening_balance))
  names : entries p.noted ≡ accounts_from 0 (replicate k tt)
  kept : Kept no_rows p

pub no-entries : (X : Type 0) → entries (empty {X = X} {R = row_name_cmp}) ≡ []
no-entries X =
    nil_from_length (entries (empty {R = row_name_cmp}))
    (sym (len-entries (empty {R = row_name_cmp})) ∙ len-empty row_name_cmp X)

none-opened : Opened 0 start
none-opened = record {
  rows = no-entries (List Cell);
  names = no-entries (Unit {0});
  kept = record { others = λ q none. refl };
}

abbrev open_account : ℕ → BodySoFar → BodySoFar
open_account k p = set_row (account k) (Some (balance_row opening_balance)) p

put-next : {X : Type 0} (k : ℕ) (x : X)
    → put row_name_cmp (account k) x (accounts_from 0 (replicate k x))
    ≡ accounts_from 0 (replicate (k + 1) x)
put-next k x =
    put-after 0 k (replicate k x) x (omega (arith, length-replicate k x))
    ∙ ap (accounts_from 0) (replicate_more k x)

one-more : (k : ℕ) (p : BodySoFar) → Opened k p → Opened (k + 1) (open_account k p)
one-more k p is = record {
  rows =
      entries-insert row_name_cmp_total p.state (account k) (balance_row opening_balance)
      ∙ ap (put row_name_cmp (account k) (balance_row opening_balance)) is.rows
      ∙ put-next k (balance_row opening_balance);
  names =
      entries-insert row_name_cmp_total p.noted (account k) tt
      ∙ ap (put row_name_cmp (account k) tt) is.names
      ∙ put-next k tt;
  kept = kept-set no_rows p (account k) (Some (balance_row opening_balance)) is.kept;
}

abbrev opening_put : ℕ → Statement
opening_put number = Put (account number) (balance_row opening_balance)

-- how so many puts end, from number k on
abbrev EndsOpened : ℕ → ℕ → BodySoFar → Type 0
EndsOpened k n p =
    (q : BodySoFar) × (after_statements (map opening_put (range_with_len k n)) p ≡ Some q)
    × Opened (k + n) q

open-all : (n k : ℕ) (p : BodySoFar) → Opened k p → EndsOpened k n p
open-all zero k p is = (p, refl, subst (λ m. Opened m p) (omega arith) is)
open-all (suc n) k p is =
    let rest : EndsOpened (k + 1) n (open_account k p) =
    open-all n (k + 1) (open_account k p) (one-more k p is) in
    (rest.0, rest.1, subst (λ m. Opened m rest.0) (omega arith) rest.2)

names-from : (k : ℕ) (xs : List (Unit {0})) → k + length xs ≤ account_count
    → AllByRecursion IsAccount (map (λ e. e.0) (accounts_from k xs))
names-from k [] few = tt
names-from k (x ∷ xs) few = ((k, omega arith, refl), names-from (k + 1) xs (omega arith))

-- each account with its first balance
abbrev pub opened : List ℕ
opened = replicate account_count opening_balance

opened-shows : (p : BodySoFar) → Opened account_count p → Shows p.state opened
opened-shows p is = record { held = is.rows }

opened-names : (p : BodySoFar) → Opened account_count p → AllByRecursion IsAccount (keys p.noted)
opened-names p is =
    subst (λ (es : List (RowName × Unit {0})). AllByRecursion IsAccount (map (λ e. e.0) es))
    (sym is.names)
    (names-from 0 (replicate account_count tt) (omega arith))

opened-count : (p : BodySoFar) → Opened account_count p → length (keys p.noted) ≡ account_count
opened-count p is = ap (λ (es : List (RowName × Unit {0})). length (map (λ e. e.0) es)) is.names

abbrev ends_well : BodySoFar → Ending
ends_well p = record {
  declined = false;
  writes = map (λ name. write_of name (get p.state name)) (keys p.noted);
}

opening-ends : (body : List Statement) (p : BodySoFar) → after_statements body start ≡ Some p
    → eval body no_rows ≡ ends_well p
unfolding eval
opening-ends body p is = ap ending_of is

-- what the opening leaves if there are no rows
pub record OpensAll : Type 0 where
  pub leaves : Leaves opening_body no_rows opened
  pub count : length (eval opening_body no_rows).writes ≡ account_count

opens-by : (q : BodySoFar) → after_statements opening_body start ≡ Some q → Opened account_count q
    → OpensAll
opens-by q e is =
    let ends : eval opening_body no_rows ≡ ends_well q = opening-ends opening_body q e in
    record {
      leaves = record {
        shows = record {
          held =
              ap (λ (end : Ending). entries (after_writes end.writes no_rows)) ends
              ∙ ap entries (writes-leave no_rows q is.kept)
              ∙ is.rows;
        };
        puts = subst (λ (end : Ending). AllByRecursion IsAccountPut end.writes) (sym ends)
            (puts-accounts q.state opened (keys q.noted) (opened-shows q is) refl
            (opened-names q is));
      };
      count =
          ap (λ (end : Ending). length end.writes) ends
          ∙ length-map (keys q.noted) (λ name. write_of name (get q.state name))
          ∙ opened-count q is;
    }

pub opens-all : OpensAll
opens-all =
    let all : EndsOpened 0 account_count start = open-all account_count 0 start none-opened in
    opens-by all.0 all.1 all.2
