-- From a board and a pass of it to what a step requires.
use Rattle.std.proofs.Common.{◌≡◌, ℕ, ◌+◌, ◌<◌, ◌==◌, sym, ap, subst, ◌∙◌, arith}
use mathlib.Core.Option.{none}
use prog.Atomic.{either}
use Rattle.atomic_table.specs.Seated.{TableId}
use Rattle.atomic_table.specs.Table.{Step, step, Allows}
use Rattle.c5_frames.specs.Log.{Log}
use Rattle.c5_board.specs.declared.board.Board.TheInside.{Inside}
use Rattle.c5_board.specs.declared.known.Known.{Known}
use Rattle.c5_board.specs.Words.{writes_in, buckets_in, word_count}
use Rattle.c5_board.specs.Boards.{Board, Pass}
use Rattle.c5_board.specs.Held.{board_of, IsBoard}
use Rattle.c5_board.specs.Rule.{IsKept}
use Rattle.c5_board.specs.StepFacts.{Seated}
use Rattle.c5_board.proofs.Facts.{Facts, facts}

-- a seat of this board
pub record Met (b : Inside) (table : TableId) (v : Known) : Type 0 where
  pub same_table : table ≡ b.table.shared.table_id
  pub plan : Facts v.log v.workers
  pub log : b.table.shared.key.log.value ≡ v.log
  pub same_workers : b.table.shared.key.workers ≡ v.workers
  pub count : b.table.shared.table_id.words
      ≡ writes_in v.log + writes_in v.log + v.workers + 2 + buckets_in v.log

pub met : (b : Inside) → IsBoard b → (table : TableId) (v : Known)
    → board_of b ≡ record { table = table; log = v.log; workers = v.workers } → Met b table v
met b is table v same =
    let log : b.plan.now ≡ v.log = ap (λ (z : Board). z.log) same in
    let workers : b.workers ≡ v.workers = ap (λ (z : Board). z.workers) same in record {
      same_table = sym (ap (λ (z : Board). z.table) same);
      plan = subst (λ (z : Board). Facts z.log z.workers) same
          (facts b.plan.now b.workers is.planned is.some is.at_most_sixteen);
      log = is.log ∙ log;
      same_workers = is.same_workers ∙ workers;
      count = is.words ∙ ap (λ (z : Board). word_count z.log z.workers) same;
    }

-- what is allowed under the rule of the seat's log is allowed under that of the table's key
pub allowed : (b : Inside) (table : TableId) (v : Known) → Met b table v → (P : Log → ℕ → Type 0)
    → P v.log v.workers → P b.table.shared.key.log.value b.table.shared.key.workers
allowed b table v m P h = subst (λ (l : Log). P l b.table.shared.key.workers) (sym m.log)
    (subst (P v.log) (sym m.same_workers) h)

module _ (b : Inside) (table : TableId) (me : Seated) (m : Met b table me.0) (id : ℕ) where
  pub load_allowed : (tells : Step (Unit {0}) → Seated → ℕ → Seated → Type 0) (i j : ℕ) → i ≡ j
      → Allows (IsKept me.0.log me.0.workers) b.table.shared.table_id.slots id me j (λ n. n)
      (tells (step b.table.shared.table_id.slots j 0 0 none) me)
      → Allows (IsKept b.table.shared.key.log.value b.table.shared.key.workers)
      b.table.shared.table_id.slots id me i (λ n. n)
      (tells (step b.table.shared.table_id.slots i 0 0 none) me)
  load_allowed tells i j same h = allowed b table me.0 m
      (λ l n. Allows (IsKept l n) b.table.shared.table_id.slots id me i (λ n. n)
      (tells (step b.table.shared.table_id.slots i 0 0 none) me))
      (subst (λ (i : ℕ). Allows (IsKept me.0.log me.0.workers) b.table.shared.table_id.slots id me i
      (λ n. n) (tells (step b.table.shared.table_id.slots i 0 0 none) me)) (sym same) h)

  pub store_allowed : (tells : Step (Unit {0}) → Seated → ℕ → Seated → Type 0) (i j n n' : ℕ)
      → i ≡ j → n ≡ n'
      → Allows (IsKept me.0.log me.0.workers) b.table.shared.table_id.slots id me j (λ _. n')
      (λ _. tells (step b.table.shared.table_id.slots j n' 0 none) me n')
      → Allows (IsKept b.table.shared.key.log.value b.table.shared.key.workers)
      b.table.shared.table_id.slots id me i (λ _. n)
      (λ _. tells (step b.table.shared.table_id.slots i n 0 none) me n)
  store_allowed tells i j n n' same same_n h = allowed b table me.0 m
      (λ l q. Allows (IsKept l q) b.table.shared.table_id.slots id me i (λ _. n)
      (λ _. tells (step b.table.shared.table_id.slots i n 0 none) me n))
      (subst (λ (z : ℕ × ℕ). Allows
      (IsKept me.0.log me.0.workers) b.table.shared.table_id.slots id me z.0 (λ _. z.1)
      (λ _. tells (step b.table.shared.table_id.slots z.0 z.1 0 none) me z.1))
      (λ t. (sym same t, sym same_n t)) h)

  pub exchange_allowed : (tells : Step (Unit {0}) → Seated → ℕ → Seated → Type 0)
      (i j old old' new new' : ℕ) → i ≡ j → old ≡ old' → new ≡ new'
      → Allows (IsKept me.0.log me.0.workers) b.table.shared.table_id.slots id me j
      (λ n. either (n == old') new' n)
      (tells (step b.table.shared.table_id.slots j old' new' none) me)
      → Allows (IsKept b.table.shared.key.log.value b.table.shared.key.workers)
      b.table.shared.table_id.slots id me i (λ n. either (n == old) new n)
      (tells (step b.table.shared.table_id.slots i old new none) me)
  exchange_allowed tells i j old old' new new' same same_old same_new h = allowed b table me.0 m
      (λ l q. Allows (IsKept l q) b.table.shared.table_id.slots id me i
      (λ n. either (n == old) new n)
      (tells (step b.table.shared.table_id.slots i old new none) me))
      (subst (λ (z : ℕ × ℕ × ℕ). Allows
      (IsKept me.0.log me.0.workers) b.table.shared.table_id.slots id me z.0
      (λ n. either (n == z.1) z.2 n)
      (tells (step b.table.shared.table_id.slots z.0 z.1 z.2 none) me))
      (λ t. (sym same t, sym same_old t, sym same_new t)) h)

  -- ---- what a step requires

  pub load_requires : (tells : Step (Unit {0}) → Seated → ℕ → Seated → Type 0) (i j : ℕ) → i ≡ j
      → j < word_count me.0.log me.0.workers
      → Allows (IsKept me.0.log me.0.workers) b.table.shared.table_id.slots id me j (λ n. n)
      (tells (step b.table.shared.table_id.slots j 0 0 none) me)
      → (table ≡ b.table.shared.table_id) × (i < b.table.shared.table_id.words)
      × Allows (IsKept b.table.shared.key.log.value b.table.shared.key.workers)
      b.table.shared.table_id.slots id me i (λ n. n)
      (tells (step b.table.shared.table_id.slots i 0 0 none) me)
  load_requires tells i j same within h = let count = m.count in
      (m.same_table, omega arith, load_allowed tells i j same h)

  pub store_requires : (tells : Step (Unit {0}) → Seated → ℕ → Seated → Type 0) (i j n n' : ℕ)
      → i ≡ j → n ≡ n' → j < word_count me.0.log me.0.workers
      → Allows (IsKept me.0.log me.0.workers) b.table.shared.table_id.slots id me j (λ _. n')
      (λ _. tells (step b.table.shared.table_id.slots j n' 0 none) me n')
      → (table ≡ b.table.shared.table_id) × (i < b.table.shared.table_id.words)
      × Allows (IsKept b.table.shared.key.log.value b.table.shared.key.workers)
      b.table.shared.table_id.slots id me i (λ _. n)
      (λ _. tells (step b.table.shared.table_id.slots i n 0 none) me n)
  store_requires tells i j n n' same same_n within h = let count = m.count in
      (m.same_table, omega arith, store_allowed tells i j n n' same same_n h)

  pub exchange_requires : (tells : Step (Unit {0}) → Seated → ℕ → Seated → Type 0)
      (i j old old' new new' : ℕ) → i ≡ j → old ≡ old' → new ≡ new'
      → j < word_count me.0.log me.0.workers
      → Allows (IsKept me.0.log me.0.workers) b.table.shared.table_id.slots id me j
      (λ n. either (n == old') new' n)
      (tells (step b.table.shared.table_id.slots j old' new' none) me)
      → (table ≡ b.table.shared.table_id) × (i < b.table.shared.table_id.words)
      × Allows (IsKept b.table.shared.key.log.value b.table.shared.key.workers)
      b.table.shared.table_id.slots id me i (λ n. either (n == old) new n)
      (tells (step b.table.shared.table_id.slots i old new none) me)
  exchange_requires tells i j old old' new new' same same_old same_new within h = let count =
      m.count in (
        m.same_table,
        omega arith,
        exchange_allowed tells i j old old' new new' same same_old same_new h,
      )

-- the board of a pass, as its seat says
pub same_board : (board : Board) (p q : Pass) → q ≡ p → p.board ≡ board → board ≡ q.board
same_board board p q is of = sym of ∙ sym (ap (λ (z : Pass). z.board) is)
