-- The texts of orders and replies, and all that `clone` and `backup` print.
use Rattle.std.specs.Prelude.{◌≡◌, ◌≤◌, ◌<◌, ◌+◌, ◌-◌, ◌^◌, ℕ, List, [], ◌∷◌, ◌++◌, codes, decimal}
use Rattle.std.specs.Prelude.{length}
use Rattle.std.specs.FinMap.{empty}
use Rattle.std.specs.Fmt.{signed_decimal}
use Rattle.std.specs.List.{AllByRecursion, flat_map}
use Rattle.c5_rows.specs.Order.{row_name_cmp}
use Rattle.c5_rows.specs.State.{State, after_txns, state_after}
use Rattle.c5_rows.specs.declared.answer.AnswerLine.{AnswerLine}
use Rattle.c5_rows.specs.declared.answer.AnswerLine.TheVariants.{Found, Absent, Sum}
use Rattle.c5_rows.specs.declared.answer.Reply.{Reply}
use Rattle.c5_rows.specs.declared.tables.TableDef.{TableDef}
use Rattle.c5_rows.specs.declared.writes.Txn.{Txn}
use Rattle.c5_definitions.specs.FitsState.{StateFits}
use Rattle.c5_definitions.specs.Lines.{lines_of}
use Rattle.c5_definitions.specs.Replies.{in_reply_order, reply_at, replies_at}
use Rattle.c5_definitions.specs.ScriptParts.{ReadParts, ScriptParts}
use Rattle.c5_definitions.specs.SerialRun.{serial_txns}
use Rattle.c5_definitions.specs.Texts.{line_text, name_text, rows_text}

-- a space and the number
abbrev pub number_text : ℕ → List ℕ
number_text n = 32 ∷ decimal n

-- a space and the number, for each number
abbrev pub numbers_text : List ℕ → List ℕ
numbers_text numbers = flat_map number_text numbers

-- `order` and the script numbers, without a line end
abbrev pub order_line : List ℕ → List ℕ
order_line scripts = codes "order" ++ numbers_text scripts

-- the same with a line end
abbrev pub order_text : List ℕ → List ℕ
order_text scripts = order_line scripts ++ 10 ∷ []

-- a session, a place, and how many transactions come after it, without a line end
abbrev pub head_line : ℕ → ℕ → ℕ → List ℕ
head_line session place lag =
    codes "read" ++ number_text session
    ++ codes " place" ++ number_text place
    ++ codes " lag" ++ number_text lag

-- the line of a row, `-` in place of its cells if it is absent, or a sum; without a line end
abbrev pub answer_line : List TableDef → AnswerLine → List ℕ
answer_line tables (Found name row) = line_text tables (record { name = name; row = row })
answer_line tables (Absent name) = name_text tables name ++ codes " -"
answer_line tables (Sum n) = codes "sum " ++ signed_decimal n

-- the head's line and a line for each answer, of a reply to one of so many transactions
abbrev pub reply_text : List TableDef → ℕ → Reply → List ℕ
reply_text tables total reply =
    (head_line reply.session reply.place (total - reply.place) ++ 10 ∷ [])
    ++ flat_map (λ line. answer_line tables line ++ 10 ∷ []) reply.answer

-- before the first transaction there are no rows
abbrev pub no_rows : State
no_rows = empty {R = row_name_cmp}

-- what `backup` prints of a script's reads at these places: the replies, and the rows after all
-- transactions
abbrev pub backup_text : ScriptParts → List Txn → List ℕ → List ℕ
backup_text script txns places =
    flat_map (reply_text script.tables (length txns))
    (replies_at no_rows txns (in_reply_order script.reads) places)
    ++ rows_text script.tables (after_txns txns no_rows)

-- what `clone` prints: the order, and what `backup` prints of the bodies' serial run in this order
abbrev pub clone_text : ScriptParts → List ℕ → List ℕ → List ℕ
clone_text script order places =
    order_text order ++ backup_text script (serial_txns script.bodies no_rows order) places

-- ---- laws of these texts

-- the reply to the read has a line for its head and one for each line of the read
abbrev pub HasItsLines : List TableDef → ReadParts → Type 0
HasItsLines tables read =
    (total : ℕ) (state : State) (txns : List Txn) (place : ℕ)
    → StateFits tables (state_after state txns place)
    → length (lines_of (reply_text tables total (reply_at state txns read place)))
    ≡ 1 + length read.lines

-- numbers of 32 bits
abbrev pub AreU32 : List ℕ → Type 0
AreU32 numbers = AllByRecursion (λ n. n < 2 ^ 32) numbers

-- numbers of 32 bits, fewer than 2^32 of them, and for each read a place that is at most their
-- count
pub record AreOrderAndPlaces (script : ScriptParts) (order places : List ℕ) : Type 0 where
  pub numbers : AreU32 order
  pub few : length order < 2 ^ 32
  pub one_each : length places ≡ length (in_reply_order script.reads)
  pub within : AllByRecursion (λ place. place ≤ length order) places

-- what `clone` prints is the text of at most one order and one list of places
abbrev pub OneOrderAndPlaces : ScriptParts → Type 0
OneOrderAndPlaces script =
    (order these places those : List ℕ)
    → AreOrderAndPlaces script order places → AreOrderAndPlaces script these those
    → clone_text script order places ≡ clone_text script these those
    → (order ≡ these) × (places ≡ those)
