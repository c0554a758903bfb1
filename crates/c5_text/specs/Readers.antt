-- What the readers of orders and heads find in a line.
use Rattle.std.specs.Prelude.{◌≡◌, ◌<◌, ◌^◌, ◌++◌, ℕ, List, IsTrue, Result, MatchResult}
use Rattle.std.specs.Fmt.{decimal}
use Rattle.c5_definitions.specs.Lines.{is_word_end}
use Rattle.c5_definitions.specs.Outputs.{AreU32, number_text, numbers_text, order_line, head_line}
use Rattle.c5_text.specs.declared.order.TextFault.{TextFault}
use Rattle.c5_text.specs.declared.order.TextFault.TheVariants.{NoMemory}
use Rattle.c5_text.specs.declared.replies.ReplyHead.{ReplyHead}

-- the bytes print this number of 32 bits
pub record IsNumber (bytes : List ℕ) (n : ℕ) : Type 0 where
  pub small : n < 2 ^ 32
  pub spelled : bytes ≡ decimal n

-- the bytes are the label, a space and this number of 32 bits, and then the rest, if any after a
-- space
pub record IsAfter (label bytes : List ℕ) (n : ℕ) (rest : List ℕ) : Type 0 where
  pub small : n < 2 ^ 32
  pub ends : IsTrue (is_word_end rest)
  pub spelled : bytes ≡ label ++ (number_text n ++ rest)

-- the bytes are these numbers of 32 bits, each after a space
pub record AreNumbers (bytes numbers : List ℕ) : Type 0 where
  pub small : AreU32 numbers
  pub spelled : bytes ≡ numbers_text numbers

-- the line is that of this order of numbers of 32 bits
pub record IsOrder (line scripts : List ℕ) : Type 0 where
  pub small : AreU32 scripts
  pub spelled : line ≡ order_line scripts

-- the line is this head, whose numbers have 32 bits
pub record IsHead (line : List ℕ) (head : ReplyHead) : Type 0 where
  pub small_session : head.session < 2 ^ 32
  pub small_place : head.place < 2 ^ 32
  pub small_lag : head.lag < 2 ^ 32
  pub spelled : line ≡ head_line head.session head.place head.lag

-- a value of which this holds, or out of memory
abbrev pub OrNoMemory : {T : Type 0} → Result T TextFault → (T → Type 0) → Type 0
OrNoMemory result P = MatchResult result P (λ fault. fault ≡ NoMemory)
