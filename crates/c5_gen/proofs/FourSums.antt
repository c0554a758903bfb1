-- What generated reads are answered: four sums that add to nothing or to all money.
use Rattle.std.proofs.Common.{◌≡◌, ◌⊎◌, inl, inr, ◌||◌, ℕ, zero, suc, ◌+◌, ◌≤◌, ℤ, pos, ◌+ℤ◌, List}
use Rattle.std.proofs.Common.{[], ◌∷◌}
use Rattle.std.proofs.Common.{map, length, take, get_or, sum, None, Bool, true, cond}
use Rattle.std.proofs.Common.{count_by, refl, sym, ap, ap₂, subst, ◌∙◌, arith}
use Rattle.std.specs.FinMap.{get, get-empty}
use Rattle.std.specs.List.{AllByRecursion, range_with_len}
use Rattle.std.specs.Ordering.{int_eq}
use Rattle.std.proofs.lemmas.List.{take_all}
use Rattle.std.proofs.lemmas.List.Sums.{sum_by-cons, sum_by_more}
use Rattle.c5_rows.specs.declared.answer.AnswerLine.{AnswerLine}
use Rattle.c5_rows.specs.declared.answer.AnswerLine.TheVariants.{Sum}
use Rattle.c5_rows.specs.declared.answer.Reply.{Reply}
use Rattle.c5_rows.specs.declared.writes.RowName.{RowName}
use Rattle.c5_rows.specs.declared.writes.Txn.{Txn}
use Rattle.c5_rows.specs.Order.{row_name_cmp}
use Rattle.c5_rows.specs.State.{State, state_after, after_txns}
use Rattle.c5_definitions.specs.Answers.{or_zero, sum_in, table_names, answer_of}
use Rattle.c5_definitions.specs.Effects.{int_in_column}
use Rattle.c5_definitions.specs.Generated.{account_key, read_all_by, generated_script}
use Rattle.c5_definitions.specs.Outputs.{no_rows}
use Rattle.c5_definitions.specs.Replies.{in_reply_order, reply_at, replies_at}
use Rattle.c5_definitions.specs.Summaries.{all_money, is_whole, reads_counted, generated_txns}
use Rattle.c5_definitions.specs.Summaries.{generated_replies}
use Rattle.c5_gen.proofs.Balances.{Shows, shows-get}
use Rattle.c5_gen.proofs.Transfers.{Holds}
use Rattle.c5_gen.proofs.MoneyRuns.{RunsAll, generated-runs}
use Rattle.c5_gen.specs.Laws.{HasParts, read_count}

-- ---- one sum

-- the names of so many accounts
abbrev some_names : ℕ → ℕ → List RowName
some_names first n = table_names 0 (map account_key (range_with_len first n))

abbrev sum_of : State → ℕ → ℕ → ℤ
sum_of state first n = sum_in 0 (map (get state) (some_names first n))

-- the sum of so many balances, which come after the first ones
record SumsTo (state : State) (bs : List ℕ) (first n m : ℕ) : Type 0 where
  part : ℕ
  is : sum_of state first n ≡ pos part
  adds : sum (take first bs) + part ≡ sum (take m bs)

sums-to : (state : State) (bs : List ℕ) (n first m : ℕ) → Shows state bs → first + n ≡ m
    → m ≤ length bs → SumsTo state bs first n m
sums-to state bs zero first m is at few =
    let e : first ≡ m = omega arith in
    record { part = 0; is = refl; adds = omega (arith, ap (λ k. sum (take k bs)) e) }
sums-to state bs (suc n) first m is at few =
    let rest : SumsTo state bs (first + 1) n m =
    sums-to state bs n (first + 1) m is (omega arith) few in
    record {
      part = get_or bs first 0 + rest.part;
      is =
          ap₂ (λ row z. or_zero (int_in_column 0 row) +ℤ z)
          (shows-get state bs first is (omega arith)) rest.is;
      adds = omega (arith, rest.adds, sum_by_more (λ (x : ℕ). x) bs first 0 (omega arith));
    }

none-sum : (state : State) (names : List RowName) → ((q : RowName) → get state q ≡ None)
    → sum_in 0 (map (get state) names) ≡ pos 0
none-sum state [] none = refl
none-sum state (name ∷ names) none =
    ap₂ (λ row z. or_zero (int_in_column 0 row) +ℤ z) (none name) (none-sum state names none)

-- ---- four sums

-- the four sums of a state
record HasFourSums (state : State) : Type 0 where
  a : ℕ
  b : ℕ
  c : ℕ
  d : ℕ
  first : sum_of state 0 16 ≡ pos a
  second : sum_of state 16 16 ≡ pos b
  third : sum_of state 32 16 ≡ pos c
  fourth : sum_of state 48 16 ≡ pos d
  money : (a + (b + (c + (d + 0))) ≡ 0) ⊎ (a + (b + (c + (d + 0))) ≡ all_money)

none-four : (state : State) → ((q : RowName) → get state q ≡ None) → HasFourSums state
none-four state none = record {
  a = 0;
  b = 0;
  c = 0;
  d = 0;
  first = none-sum state (some_names 0 16) none;
  second = none-sum state (some_names 16 16) none;
  third = none-sum state (some_names 32 16) none;
  fourth = none-sum state (some_names 48 16) none;
  money = inl refl;
}

holds-four : (state : State) (bs : List ℕ) → Holds state bs → HasFourSums state
holds-four state bs is =
    let s : SumsTo state bs 0 16 16 =
    sums-to state bs 16 0 16 is.shows refl (omega (arith, is.accounts)) in
    let t : SumsTo state bs 16 16 32 =
    sums-to state bs 16 16 32 is.shows refl (omega (arith, is.accounts)) in
    let u : SumsTo state bs 32 16 48 =
    sums-to state bs 16 32 48 is.shows refl (omega (arith, is.accounts)) in
    let v : SumsTo state bs 48 16 64 =
    sums-to state bs 16 48 64 is.shows refl (omega (arith, is.accounts)) in
    let all : sum (take 64 bs) ≡ all_money =
    ap sum (take_all 64 bs (omega (arith, is.accounts))) ∙ is.money in
    let none : sum (take 0 bs) ≡ 0 = refl in
    record {
      a = s.part;
      b = t.part;
      c = u.part;
      d = v.part;
      first = s.is;
      second = t.is;
      third = u.is;
      fourth = v.is;
      money = inr (omega (arith, s.adds, t.adds, u.adds, v.adds, all, none));
    }

four-after : (txns : List Txn) (p : ℕ)
    → ((p : ℕ) → 1 ≤ p → (bs : List ℕ) × Holds (after_txns (take p txns) no_rows) bs)
    → HasFourSums (state_after no_rows txns p)
four-after txns zero holds = none-four no_rows (λ q. get-empty row_name_cmp q)
four-after txns (suc p) holds =
    let after : (bs : List ℕ) × Holds (after_txns (take (suc p) txns) no_rows) bs =
    holds (suc p) (omega arith) in
    holds-four (after_txns (take (suc p) txns) no_rows) after.0 after.1

-- ---- replies

abbrev four_lines : ℤ → ℤ → ℤ → ℤ → List AnswerLine
four_lines a b c d = Sum a ∷ Sum b ∷ Sum c ∷ Sum d ∷ []

answer-is : (session : ℕ) (state : State) (s : HasFourSums state)
    → answer_of (read_all_by session) state ≡ four_lines (pos s.a) (pos s.b) (pos s.c) (pos s.d)
unfolding answer_of
answer-is session state s =
    ap₂ (λ a b. four_lines a b (sum_of state 32 16) (sum_of state 48 16)) s.first s.second
    ∙ ap₂ (λ c d. four_lines (pos s.a) (pos s.b) c d) s.third s.fourth

whole-sum : (n : ℕ) → (n ≡ 0) ⊎ (n ≡ all_money)
    → (int_eq (pos n) (pos 0) || int_eq (pos n) (pos all_money)) ≡ true
whole-sum n (inl e) =
    subst (λ m. (int_eq (pos m) (pos 0) || int_eq (pos m) (pos all_money)) ≡ true) (sym e) refl
whole-sum n (inr e) =
    subst (λ m. (int_eq (pos m) (pos 0) || int_eq (pos m) (pos all_money)) ≡ true) (sym e) refl

part-le : (n k : ℕ) → n ≤ k → (k ≡ 0) ⊎ (k ≡ all_money) → n ≤ all_money
part-le n k le (inl e) = omega (arith, e)
part-le n k le (inr e) = omega (arith, e)

-- a reply that has its parts and is whole
record IsGood (reply : Reply) : Type 0 where
  whole : is_whole reply ≡ true
  parts : HasParts reply

good-reply : (session place : ℕ) (state : State) → HasFourSums state
    → IsGood (record {
      session = session;
      place = place;
      answer = answer_of (read_all_by session) state;
    })
good-reply session place state s =
    subst (λ lines. IsGood (record { session = session; place = place; answer = lines }))
    (sym (answer-is session state s))
    (record {
      whole = whole-sum (s.a + (s.b + (s.c + (s.d + 0)))) s.money;
      parts = record {
        four = refl;
        each = (
          (s.a, part-le s.a _ (omega arith) s.money, refl),
          (
            (s.b, part-le s.b _ (omega arith) s.money, refl),
            (
              (s.c, part-le s.c _ (omega arith) s.money, refl),
              ((s.d, part-le s.d _ (omega arith) s.money, refl), tt),
            ),
          ),
        );
      };
    })

-- good replies, so many of them
record AreGood (replies : List Reply) (n : ℕ) : Type 0 where
  replied : length replies ≡ n
  whole : count_by is_whole replies ≡ n
  parts : AllByRecursion HasParts replies

one-good : (reply : Reply) (replies : List Reply) (n : ℕ) → IsGood reply → AreGood replies n
    → AreGood (reply ∷ replies) (suc n)
one-good reply replies n is are = record {
  replied = ap suc are.replied;
  whole =
      sum_by-cons (λ (r : Reply). cond (is_whole r) 1 0) reply replies
      ∙ ap (λ (b : Bool). cond b 1 0 + count_by is_whole replies) is.whole
      ∙ omega (arith, are.whole);
  parts = (is.parts, are.parts);
}

all-good : (txns : List Txn) (sessions places : List ℕ) → length places ≡ length sessions
    → ((p : ℕ) → HasFourSums (state_after no_rows txns p))
    → AreGood (replies_at no_rows txns (map read_all_by sessions) places) (length sessions)
all-good txns [] places same four = record { replied = refl; whole = refl; parts = tt }
all-good txns (session ∷ sessions) [] same four = absurd (omega arith)
all-good txns (session ∷ sessions) (place ∷ places) same four =
    one-good (reply_at no_rows txns (read_all_by session) place)
    (replies_at no_rows txns (map read_all_by sessions) places) (length sessions)
    (good-reply session place (state_after no_rows txns place) (four place))
    (all-good txns sessions places (omega arith) four)

-- the sessions of the reads in reply order
abbrev sessions_in_order : List ℕ
sessions_in_order =
    1 ∷ 1 ∷ 1 ∷ 1 ∷ 2 ∷ 2 ∷ 2 ∷ 2 ∷ 3 ∷ 3 ∷ 3 ∷ 3 ∷ 4 ∷ 4 ∷ 4 ∷ 4 ∷ []

in-order : (count : ℕ) → in_reply_order (generated_script count).reads
    ≡ map read_all_by sessions_in_order
unfolding generated_script
in-order count = refl

generated-good : (count : ℕ) (places : List ℕ) → 1 ≤ count → length places ≡ read_count
    → AreGood (generated_replies count places) read_count
generated-good count places some all =
    let runs : RunsAll count (generated_txns count) = generated-runs count some in
    subst (λ reads. AreGood (replies_at no_rows (generated_txns count) reads places) read_count)
    (sym (in-order count))
    (all-good (generated_txns count) sessions_in_order places all
    (λ p. four-after (generated_txns count) p runs.holds))

pub reads-in-order : (count : ℕ) → length (in_reply_order (generated_script count).reads)
    ≡ read_count
reads-in-order count = ap length (in-order count)

pub reads-whole : (count : ℕ) (places : List ℕ) → 1 ≤ count → length places ≡ read_count
    → reads_counted (generated_replies count places)
    ≡ record { replied = read_count; whole = read_count }
reads-whole count places some all =
    let good : AreGood (generated_replies count places) read_count =
    generated-good count places some all in
    ap₂ (λ (n m : ℕ). record { replied = n; whole = m }) good.replied good.whole

pub reads-parts : (count : ℕ) (places : List ℕ) → 1 ≤ count → length places ≡ read_count
    → AllByRecursion HasParts (generated_replies count places)
reads-parts count places some all = (generated-good count places some all).parts
