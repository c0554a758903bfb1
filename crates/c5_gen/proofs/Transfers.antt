-- What a transfer leaves of rows with balances.
use Rattle.std.proofs.Common.{◌≡◌, ◌≢◌, ◌⊎◌, inl, inr, ℕ, ◌+◌, ◌-◌, ◌^◌, ◌<◌, ◌≤◌, ℤ, pos, neg_ℤ}
use Rattle.std.proofs.Common.{◌+ℤ◌}
use Rattle.std.proofs.Common.{List, [], ◌∷◌, map, length, get_or, set, sum, Option, Some, None}
use Rattle.std.proofs.Common.{Bool}
use Rattle.std.proofs.Common.{true, false, cond, leb, if◌then◌else◌, int_le, nat_lt, Ordering, refl}
use Rattle.std.proofs.Common.{sym}
use Rattle.std.proofs.Common.{ap, subst, ◌∙◌, arith}
use Rattle.std.specs.FinMap.{empty, get, insert, keys, put, entries-insert}
use Rattle.std.specs.List.{AllByRecursion}
use Rattle.std.proofs.lemmas.Bool.{cases_lt, le-leb, lt-leb}
use Rattle.std.proofs.lemmas.List.{length-map, length-set, get_or-set_other}
use Rattle.std.proofs.lemmas.List.Sums.{sum_by-set, get_or-le-sum_by}
use Rattle.std.proofs.lemmas.Int.{ints}
use Rattle.c5_rows.specs.declared.cells.Cell.TheVariants.{Int}
use Rattle.c5_rows.specs.declared.writes.RowName.{RowName}
use Rattle.c5_rows.specs.Order.{row_name_cmp, row_name_cmp_total}
use Rattle.c5_rows.specs.State.{State, after_writes}
use Rattle.c5_definitions.specs.declared.script.Rel.TheVariants.{Ge}
use Rattle.c5_definitions.specs.declared.script.Statement.{Statement}
use Rattle.c5_definitions.specs.declared.script.Statement.TheVariants.{Need, Add}
use Rattle.c5_definitions.specs.Effects.{Effect, declines, keeps, sets, fits_i64, int_in_column}
use Rattle.c5_definitions.specs.Effects.{need_effect, add_effect}
use Rattle.c5_definitions.specs.Eval.{BodySoFar, Ending, write_of, set_row, after_statements}
use Rattle.c5_definitions.specs.Eval.{ending_of, eval}
use Rattle.c5_definitions.specs.Generated.{account, account_count, balance_row, Transfer}
use Rattle.c5_definitions.specs.Generated.{transfer_body}
use Rattle.c5_definitions.specs.Summaries.{all_money}
use Rattle.c5_gen.proofs.Balances.{Shows, shows-get, shows-insert, placed}
use Rattle.c5_gen.proofs.Names.{account-below, account-above}
use Rattle.c5_gen.proofs.Opening.{IsAccount, IsAccountPut, puts-accounts, no-entries}
use Rattle.c5_gen.proofs.Wrote.{Kept, kept-set, writes-leave}

-- ---- statements

abbrev after_effect : Effect → List Statement → BodySoFar → Option BodySoFar
after_effect effect rest p = elim effect [
  | declines ↦ None
  | keeps ↦ after_statements rest p
  | sets name row ↦ after_statements rest (set_row name row p)
]

kept-or-not : (b : Bool) (rest : List Statement) (p : BodySoFar)
    → after_effect (if b then keeps else declines) rest p ≡ cond b (after_statements rest p) None
kept-or-not true rest p = refl
kept-or-not false rest p = refl

need-is : (a m b : ℕ) (rest : List Statement) (p : BodySoFar)
    → get p.state (account a) ≡ Some (balance_row b)
    → after_statements (Need (account a) 0 Ge (pos m) ∷ rest) p
    ≡ cond (int_le (pos m) (pos b)) (after_statements rest p) None
need-is a m b rest p found =
    ap (λ row. after_effect (need_effect (int_in_column 0 row) Ge (pos m)) rest p) found
    ∙ kept-or-not (int_le (pos m) (pos b)) rest p

add-is : (a b c : ℕ) (n : ℤ) (rest : List Statement) (p : BodySoFar)
    → get p.state (account a) ≡ Some (balance_row b) → pos b +ℤ n ≡ pos c → nat_lt c (2 ^ 63) ≡ true
    → after_statements (Add (account a) 0 n ∷ rest) p
    ≡ after_statements rest (set_row (account a) (Some (balance_row c)) p)
add-is a b c n rest p found total fits =
    ap (λ row. after_effect (add_effect (account a) 0 row (int_in_column 0 row) n) rest p) found
    ∙ ap (λ z. after_effect
    (if fits_i64 z then sets (account a) (Some (Int z ∷ [])) else declines) rest p) total
    ∙ ap (λ t. after_effect
    (if t then sets (account a) (Some (balance_row c)) else declines) rest p) fits

-- ---- the names of two accounts

record AreTwo (names : List RowName) : Type 0 where
  accounts : AllByRecursion IsAccount names
  count : length names ≡ 2

-- two names, noted in this order
abbrev noted_two : Ordering → ℕ → ℕ → List (RowName × Unit {0})
noted_two o f t = placed o (account t) tt (account f, tt) []

abbrev names_of : List (RowName × Unit {0}) → List RowName
names_of es = map (λ e. e.0) es

two-ordered : (f t : ℕ) → f < account_count → t < account_count → (t < f) ⊎ (f ≤ t) → t ≢ f
    → AreTwo (names_of (noted_two (row_name_cmp (account t) (account f)) f t))
two-ordered f t few many (inl lt) ne =
    subst (λ o. AreTwo (names_of (noted_two o f t))) (sym (account-below t f lt))
    (record { accounts = ((t, many, refl), ((f, few, refl), tt)); count = refl })
two-ordered f t few many (inr le) ne =
    subst (λ o. AreTwo (names_of (noted_two o f t))) (sym (account-above t f (omega arith)))
    (record { accounts = ((f, few, refl), ((t, many, refl), tt)); count = refl })

two-noted : (f t : ℕ) → f < account_count → t < account_count → t ≢ f
    → AreTwo (keys
    (insert (insert (empty {X = Unit {0}} {R = row_name_cmp}) (account f) tt) (account t) tt))
two-noted f t few many ne =
    subst (λ es. AreTwo (names_of es))
    (sym (entries-insert row_name_cmp_total (insert empty (account f) tt) (account t) tt
    ∙ ap (put row_name_cmp (account t) tt) (entries-insert row_name_cmp_total empty (account f) tt
    ∙ ap (put row_name_cmp (account f) tt) (no-entries (Unit {0})))))
    (two-ordered f t few many (cases_lt t f) ne)

-- ---- the balances

-- the accounts and the amount of a transfer are in their ranges
pub record IsTransfer (t : Transfer) : Type 0 where
  pub from : t.from < account_count
  pub to : t.to < account_count
  pub apart : t.to ≢ t.from
  pub amount : t.amount ≤ 100

-- rows that have so much for each account, and all money together
pub record Holds (state : State) (balances : List ℕ) : Type 0 where
  pub shows : Shows state balances
  pub accounts : length balances ≡ account_count
  pub money : sum balances ≡ all_money

-- the balances after an amount has moved
abbrev moved : Transfer → List ℕ → List ℕ
moved t bs =
    set (set bs t.from (get_or bs t.from 0 - t.amount)) t.to (get_or bs t.to 0 + t.amount)

abbrev begin : State → BodySoFar
begin state = record { state = state; noted = empty }

-- after the first account has paid, and after the second has been paid
abbrev paid : Transfer → List ℕ → State → BodySoFar
paid t bs state =
    set_row (account t.from) (Some (balance_row (get_or bs t.from 0 - t.amount))) (begin state)

abbrev done : Transfer → List ℕ → State → BodySoFar
done t bs state =
    set_row (account t.to) (Some (balance_row (get_or bs t.to 0 + t.amount))) (paid t bs state)

less-is : (b a : ℕ) → a ≤ b → pos b +ℤ neg_ℤ (pos a) ≡ pos (b - a)
less-is b a le = omega (arith, ints)

moved-length : (t : Transfer) (bs : List ℕ) → length (moved t bs) ≡ length bs
moved-length t bs =
    length-set (set bs t.from (get_or bs t.from 0 - t.amount)) t.to (get_or bs t.to 0 + t.amount)
    ∙ length-set bs t.from (get_or bs t.from 0 - t.amount)

moved-sum : (t : Transfer) (bs : List ℕ) → IsTransfer t → length bs ≡ account_count
    → t.amount ≤ get_or bs t.from 0 → sum (moved t bs) ≡ sum bs
moved-sum t bs is all le =
    let first : List ℕ = set bs t.from (get_or bs t.from 0 - t.amount) in
    let one : sum first + get_or bs t.from 0 ≡ sum bs + (get_or bs t.from 0 - t.amount) =
    sum_by-set (λ (x : ℕ). x) bs t.from (get_or bs t.from 0 - t.amount) 0
    (omega (arith, is.from, all)) in
    let two : sum (moved t bs) + get_or first t.to 0 ≡ sum first + (get_or bs t.to 0 + t.amount) =
    sum_by-set (λ (x : ℕ). x) first t.to (get_or bs t.to 0 + t.amount) 0
    (omega (arith, is.to, all, length-set bs t.from (get_or bs t.from 0 - t.amount))) in
    let other : get_or first t.to 0 ≡ get_or bs t.to 0 =
    get_or-set_other bs t.from t.to (get_or bs t.from 0 - t.amount) 0 is.apart in
    omega (arith, one, two, other, le)

paid-shows : (t : Transfer) (bs : List ℕ) (state : State) → IsTransfer t → Holds state bs
    → Shows (paid t bs state).state (set bs t.from (get_or bs t.from 0 - t.amount))
paid-shows t bs state is holds =
    shows-insert state bs t.from (get_or bs t.from 0 - t.amount) holds.shows
    (omega (arith, is.from, holds.accounts))

done-shows : (t : Transfer) (bs : List ℕ) (state : State) → IsTransfer t → Holds state bs
    → Shows (done t bs state).state (moved t bs)
done-shows t bs state is holds =
    shows-insert (paid t bs state).state (set bs t.from (get_or bs t.from 0 - t.amount)) t.to
    (get_or bs t.to 0 + t.amount) (paid-shows t bs state is holds)
    (omega (arith, is.to, holds.accounts, length-set bs t.from (get_or bs t.from 0 - t.amount)))

small : (n : ℕ) → n ≤ 100 + all_money → nat_lt n (2 ^ 63) ≡ true
small n le = grind arith

within : (bs : List ℕ) (i : ℕ) → i < length bs → sum bs ≡ all_money → get_or bs i 0 ≤ all_money
within bs i lt money = omega (arith, money, get_or-le-sum_by (λ (x : ℕ). x) bs i 0 lt)

-- the statements after the first
abbrev both_adds : Transfer → List Statement
both_adds t =
    Add (account t.from) 0 (neg_ℤ (pos t.amount)) ∷ Add (account t.to) 0 (pos t.amount) ∷ []

adds-done : (t : Transfer) (bs : List ℕ) (state : State) → IsTransfer t → Holds state bs
    → t.amount ≤ get_or bs t.from 0
    → after_statements (both_adds t) (begin state) ≡ Some (done t bs state)
adds-done t bs state is holds le =
    let from-in : t.from < length bs = omega (arith, is.from, holds.accounts) in
    let to-in : t.to < length bs = omega (arith, is.to, holds.accounts) in
    add-is t.from (get_or bs t.from 0) (get_or bs t.from 0 - t.amount) (neg_ℤ (pos t.amount))
    (Add (account t.to) 0 (pos t.amount) ∷ []) (begin state)
    (shows-get state bs t.from holds.shows from-in) (less-is (get_or bs t.from 0) t.amount le)
    (small _ (omega (arith, within bs t.from from-in holds.money)))
    ∙ add-is t.to (get_or bs t.to 0) (get_or bs t.to 0 + t.amount) (pos t.amount) []
    (paid t bs state)
    (shows-get (paid t bs state).state (set bs t.from (get_or bs t.from 0 - t.amount)) t.to
    (paid-shows t bs state is holds)
    (omega (arith, to-in, length-set bs t.from (get_or bs t.from 0 - t.amount)))
    ∙ ap (λ b. Some (balance_row b))
    (get_or-set_other bs t.from t.to (get_or bs t.from 0 - t.amount) 0 is.apart))
    refl
    (small _ (omega (arith, is.amount, within bs t.to to-in holds.money)))

begin-keeps : (state : State) → Kept state (begin state)
begin-keeps state = record { others = λ q none. refl }

done-keeps : (t : Transfer) (bs : List ℕ) (state : State) → Kept state (done t bs state)
done-keeps t bs state =
    kept-set state (paid t bs state) (account t.to)
    (Some (balance_row (get_or bs t.to 0 + t.amount)))
    (kept-set state (begin state) (account t.from)
    (Some (balance_row (get_or bs t.from 0 - t.amount))) (begin-keeps state))

-- ---- how a transfer ends

abbrev ends_well : BodySoFar → Ending
ends_well p = record {
  declined = false;
  writes = map (λ name. write_of name (get p.state name)) (keys p.noted);
}

abbrev ends_by : Transfer → List ℕ → State → Bool → Ending
ends_by t bs state pays =
    ending_of (cond pays (after_statements (both_adds t) (begin state)) None)

transfer-ends : (t : Transfer) (bs : List ℕ) (state : State) → IsTransfer t → Holds state bs
    → eval (transfer_body t) state
    ≡ ends_by t bs state (int_le (pos t.amount) (pos (get_or bs t.from 0)))
unfolding eval
transfer-ends t bs state is holds =
    ap ending_of (need-is t.from t.amount (get_or bs t.from 0) (both_adds t) (begin state)
    (shows-get state bs t.from holds.shows (omega (arith, is.from, holds.accounts))))

-- what a transfer that ends so leaves
pub record Moves (t : Transfer) (state : State) (balances : List ℕ) (ends : Ending) : Type 0 where
  pub later : List ℕ
  pub holds : Holds (after_writes ends.writes state) later
  pub puts : AllByRecursion IsAccountPut ends.writes
  pub count : length ends.writes ≡ cond (leb t.amount (get_or balances t.from 0)) 2 0

pays-moves : (t : Transfer) (bs : List ℕ) (state : State) → IsTransfer t → Holds state bs
    → t.amount ≤ get_or bs t.from 0 → Moves t state bs (ends_well (done t bs state))
pays-moves t bs state is holds le =
    let two : AreTwo (keys (done t bs state).noted) =
    two-noted t.from t.to is.from is.to is.apart in
    let shows : Shows (done t bs state).state (moved t bs) = done-shows t bs state is holds in
    let all : length (moved t bs) ≡ account_count = moved-length t bs ∙ holds.accounts in
    record {
      later = moved t bs;
      holds = record {
        shows = subst (λ s. Shows s (moved t bs))
            (sym (writes-leave state (done t bs state) (done-keeps t bs state))) shows;
        accounts = all;
        money = moved-sum t bs is holds.accounts le ∙ holds.money;
      };
      puts = puts-accounts (done t bs state).state (moved t bs) (keys (done t bs state).noted)
          shows all two.accounts;
      count =
          length-map (keys (done t bs state).noted)
          (λ name. write_of name (get (done t bs state).state name))
          ∙ two.count
          ∙ sym (ap (λ (b : Bool). cond b 2 0) (le-leb t.amount (get_or bs t.from 0) le));
    }

declines-moves : (t : Transfer) (bs : List ℕ) (state : State) → Holds state bs
    → get_or bs t.from 0 < t.amount → Moves t state bs (ending_of None)
declines-moves t bs state holds lt = record {
  later = bs;
  holds = holds;
  puts = tt;
  count = sym (ap (λ (b : Bool). cond b 2 0) (lt-leb t.amount (get_or bs t.from 0) lt));
}

moves-by : (t : Transfer) (bs : List ℕ) (state : State) → IsTransfer t → Holds state bs
    → (get_or bs t.from 0 < t.amount) ⊎ (t.amount ≤ get_or bs t.from 0)
    → Moves t state bs (eval (transfer_body t) state)
moves-by t bs state is holds (inl lt) =
    subst (Moves t state bs)
    (sym (transfer-ends t bs state is holds
    ∙ ap (ends_by t bs state) (lt-leb t.amount (get_or bs t.from 0) lt)))
    (declines-moves t bs state holds lt)
moves-by t bs state is holds (inr le) =
    subst (Moves t state bs)
    (sym (transfer-ends t bs state is holds
    ∙ ap (ends_by t bs state) (le-leb t.amount (get_or bs t.from 0) le)
    ∙ ap ending_of (adds-done t bs state is holds le)))
    (pays-moves t bs state is holds le)

pub transfer-moves : (t : Transfer) (bs : List ℕ) (state : State) → IsTransfer t → Holds state bs
    → Moves t state bs (eval (transfer_body t) state)
transfer-moves t bs state is holds =
    moves-by t bs state is holds (cases_lt (get_or bs t.from 0) t.amount)
