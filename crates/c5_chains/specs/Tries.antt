-- What a try makes of a pass, and when a write is put off.
use Rattle.std.specs.Prelude.{◌≡◌, ◌≢◌, ◌≤◌, ◌<◌, ◌==◌, ◌++◌, ℕ, true, false, List, [], ◌∷◌}
use Rattle.std.specs.Prelude.{if◌then◌else◌}
use Rattle.c5_rows.specs.declared.writes.RowName.{RowName}
use Rattle.c5_definitions.specs.WriteNumbers.{row_of, predecessor_of, IsWrite}
use Rattle.c5_board.specs.declared.known.Look.TheVariants.{LoadRecord, ExchangeHead}
use Rattle.c5_rows.specs.Numbers.{is_among}
use Rattle.c5_board.specs.Boards.{Pass, names, record_of}
use Rattle.c5_board.specs.Passes.{IsHeadOf, CoversRow, owner_in, floor_of, end_in}
use Rattle.c5_chains.specs.declared.install.Install.{Install}
use Rattle.c5_chains.specs.declared.install.Install.TheVariants.{Installed, PutOff}

-- the head that the exchange found
abbrev pub head_found : List RowName → ℕ → Install → ℕ
head_found names w Installed = predecessor_of names w
head_found names w (PutOff seen) = seen

-- the pass after w was tried, when its row's head was found to be this: w is installed if that is
-- its predecessor
abbrev pub after_try : Pass → ℕ → ℕ → Pass
after_try p w head = record p {
  installed = if head == predecessor_of (names p.board) w then w ∷ p.installed else p.installed;
  looks = p.looks ++ LoadRecord w (record_of (names p.board) w) ∷ ExchangeHead w head ∷ [];
}

-- the number, as far as the pass knows, isn't installed: it isn't among its installed numbers,
-- below its owner's floor or up to the end of the place
pub record IsUnknown (p : Pass) (w : ℕ) : Type 0 where
  pub write : IsWrite (names p.board) w
  pub not_installed : is_among w p.installed ≡ false
  pub not_below : floor_of p (owner_in p w) ≤ w
  pub after_place : end_in p p.place < w

-- the head was 0 or a number of the row, below the predecessor, which isn't known to be installed.
-- That a head found is installed follows from the law, by the look
pub record IsBehind (p : Pass) (w seen : ℕ) : Type 0 where
  pub head : IsHeadOf (names p.board) (row_of (names p.board) w) seen
  pub below : seen < predecessor_of (names p.board) w
  pub unknown : IsUnknown p (predecessor_of (names p.board) w)

-- the predecessor is installed, if there is one and the pass holds its owner's role
abbrev pub FollowsInstalled : Pass → ℕ → Type 0
FollowsInstalled p w = predecessor_of (names p.board) w ≢ 0
    → is_among (owner_in p (predecessor_of (names p.board) w)) p.roles ≡ true
    → is_among (predecessor_of (names p.board) w) p.installed ≡ true

-- why w was installed, or put off
abbrev pub IsCaused : Pass → ℕ → Install → Type 0
IsCaused p w Installed = FollowsInstalled p w
IsCaused p w (PutOff seen) = IsBehind p w seen
