-- Schedules that were worked by hand.
use Rattle.std.specs.Prelude.{◌≡◌, ℕ, List, [], ◌∷◌, codes}
use Rattle.c5_rows.specs.declared.writes.Txn.{Txn}
use Rattle.c5_definitions.specs.declared.script.TurnWord.{TurnWord}
use Rattle.c5_definitions.specs.declared.script.TurnWord.TheVariants as turns
use Rattle.c5_definitions.specs.ScriptParts.{ReadParts}
use Rattle.c5_definitions.specs.Turns.{TurnRun, turn_run}
use Rattle.c5_definitions.specs.WorkedNumbers.{deleting, one_key, two_by_two}
use Rattle.c5_definitions.specs.WorkedOutputs.{read_a}

abbrev pub w : ℕ → TurnWord
w = turns.Worker

abbrev pub v : TurnWord
v = turns.Visible

abbrev pub s : ℕ → TurnWord
s = turns.Session

-- two and three reads of session 1
abbrev pub two_reads : List ReadParts
two_reads = read_a 1 ∷ read_a 1 ∷ []

abbrev pub three_reads : List ReadParts
three_reads = read_a 1 ∷ two_reads

-- two rows written by one transaction, and one row by one
abbrev pub two_at_once : List Txn
two_at_once = deleting 1 (codes "a" ∷ codes "b" ∷ []) ∷ []

abbrev pub one_write : List Txn
one_write = deleting 1 (codes "a" ∷ []) ∷ []

abbrev pub run : List ℕ → ℕ → TurnRun
run places put_off = record { places = places; put_off = put_off }

-- what was worked by hand of the schedules
pub record AreScheduled : Type 0 where
  -- write 2 is done before write 1: nothing is visible until both are
  pub half_done :
      turn_run two_at_once 2 two_reads (w 2 ∷ v ∷ s 1 ∷ w 1 ∷ v ∷ s 1 ∷ []) ≡ run (0 ∷ 1 ∷ []) 0
  -- write 2 waits for write 1, of the other worker
  pub put_off : turn_run one_key 2 three_reads
      (w 2 ∷ v ∷ s 1 ∷ w 1 ∷ w 2 ∷ v ∷ s 1 ∷ w 1 ∷ v ∷ s 1 ∷ []) ≡ run (0 ∷ 2 ∷ 3 ∷ []) 1
  -- one worker never waits
  pub alone : turn_run one_key 1 three_reads
      (w 1 ∷ v ∷ s 1 ∷ w 1 ∷ v ∷ s 1 ∷ w 1 ∷ v ∷ s 1 ∷ []) ≡ run (1 ∷ 2 ∷ 3 ∷ []) 0
  -- a transaction without writes is visible together with the one before it
  pub no_writes : turn_run two_by_two 1 two_reads (w 1 ∷ v ∷ s 1 ∷ w 1 ∷ v ∷ s 1 ∷ [])
      ≡ run (0 ∷ 2 ∷ []) 0
  -- the first numbers of the workers 2 to 16 are above those of the writes, and hold nothing up
  pub few_writes : turn_run one_write 16 (read_a 1 ∷ []) (w 1 ∷ v ∷ s 1 ∷ []) ≡ run (1 ∷ []) 0
  -- there is no worker 3, session 2 has no read, session 1 has one; `w1` does write 1, and the
  -- first closing round puts write 3 off. Session 3's read is left, and is taken at the last place
  pub closing : turn_run one_key 2 (read_a 3 ∷ read_a 1 ∷ [])
      (w 3 ∷ w 1 ∷ s 2 ∷ s 1 ∷ v ∷ s 1 ∷ []) ≡ run (0 ∷ 3 ∷ []) 1
  -- no words: a round is made, even if there are no writes to do
  pub no_words : turn_run (deleting 1 [] ∷ []) 1 (read_a 2 ∷ []) [] ≡ run (1 ∷ []) 0
