-- A write that is put off.
use Rattle.std.proofs.Common.{◌≡◌, ◌≢◌, ◌∙◌, ◌+◌, ◌≤◌, ◌<◌, ◌++◌, ℕ, Bool, true, false, List, ap}
use Rattle.std.proofs.Common.{sym, subst, refl, arith, true≢false}
use borrow.Author.Tests.{leb-true, leb-false}
use lib.Dec.{leb}
use Rattle.c5_rows.specs.declared.writes.RowName.{RowName}
use Rattle.c5_definitions.specs.WriteNumbers.{row_of, predecessor_of, IsWrite}
use Rattle.c5_definitions.specs.NumberLaws.{PredecessorsAreLast}
use Rattle.c5_board.specs.declared.known.Look.{Look}
use Rattle.c5_board.specs.declared.known.Record.{Record}
use Rattle.c5_rows.specs.Numbers.{is_among}
use Rattle.c5_board.specs.Boards.{Board, Pass, names, record_of}
use Rattle.c5_board.specs.Passes.{IsHeadOf, CoversRow, owner_in, floor_of, end_in}
use Rattle.c5_chains.specs.Tries.{IsBehind, IsUnknown, FollowsInstalled}

not_true : (b : Bool) → (b ≡ true → ⊥) → b ≡ false
not_true true h = absurd (h refl)
not_true false h = refl

not_less : (a b : ℕ) → (a < b → ⊥) → b ≤ a
not_less a b h = by (leb b a) refl
  where
    by : (t : Bool) → leb b a ≡ t → b ≤ a
    by true e = leb-true b a e
    by false e = absurd (h (leb-false b a e))

pub behind : (p mid : Pass) (looks : List Look) (w seen : ℕ) (link : Record)
    → PredecessorsAreLast (names p.board) → mid ≡ record p { looks = looks }
    → link ≡ record_of (names p.board) w → IsWrite (names p.board) w
    → IsHeadOf (names p.board) link.row seen → seen < link.predecessor → CoversRow mid link.row seen
    → IsBehind p w seen
behind p mid looks w seen link laws same is write head less covers =
    let row : link.row ≡ row_of (names p.board) w = ap (λ (l : Record). l.row) is in
    let predecessor : link.predecessor ≡ predecessor_of (names p.board) w =
    ap (λ (l : Record). l.predecessor) is in
    let some : predecessor_of (names p.board) w ≢ 0 = λ e. absurd (omega arith) in
    let on = laws.on_row w write some in
    let covered : CoversRow (record p { looks = looks }) (row_of (names p.board) w) seen =
    subst (λ (r : ℕ). CoversRow (record p { looks = looks }) r seen) row
    (subst (λ (q : Pass). CoversRow q link.row seen) same covers) in
    record {
      head = subst (λ (r : ℕ). IsHeadOf (names p.board) r seen) row head;
      below = omega arith;
      unknown = record {
        write = on.0;
        not_installed = not_true _
            (λ h. let reached = covered.installed _ on.0 on.1 h in omega arith);
        not_below = not_less _ _ (λ h. let reached = covered.floors _ on.0 on.1 h in omega arith);
        after_place = not_less _ _
            (λ h. let reached = covered.place _ on.0 on.1 (omega arith) in omega arith);
      };
    }

-- the same if the board has another name
pub behind_on : (p mid : Pass) (b : Board) (looks : List Look) (w seen : ℕ) (link : Record)
    → p.board ≡ b → PredecessorsAreLast (names p.board) → mid ≡ record p { looks = looks }
    → link ≡ record_of (names b) w → IsWrite (names p.board) w
    → IsHeadOf (names b) link.row seen → seen < link.predecessor → CoversRow mid link.row seen
    → IsBehind p w seen
behind_on p mid b looks w seen link of laws same is write head less covers =
    subst (λ (x : Board). link ≡ record_of (names x) w → IsHeadOf (names x) link.row seen
    → IsBehind p w seen) of
    (λ (i : link ≡ record_of (names p.board) w)
    (h : IsHeadOf (names p.board) link.row seen). behind p mid looks w seen link laws same i
    write h less covers) is head

-- a write that is installed follows one that is
pub follows : (p mid : Pass) (b : Board) (looks : List Look) (w : ℕ) (link : Record) → p.board ≡ b
    → PredecessorsAreLast (names p.board) → mid ≡ record p { looks = looks }
    → link ≡ record_of (names b) w → IsWrite (names p.board) w
    → CoversRow mid link.row link.predecessor → FollowsInstalled p w
follows p mid b looks w link of laws same is write covers =
    let link_is : link ≡ record_of (names p.board) w =
    subst (λ (x : Board). link ≡ record_of (names x) w) (sym of) is in
    let row : link.row ≡ row_of (names p.board) w = ap (λ (l : Record). l.row) link_is in
    let predecessor : link.predecessor ≡ predecessor_of (names p.board) w =
    ap (λ (l : Record). l.predecessor) link_is in
    let covered : CoversRow (record p { looks = looks }) (row_of (names p.board) w)
    (predecessor_of (names p.board) w) =
    subst (λ (n : ℕ). CoversRow (record p { looks = looks }) (row_of (names p.board) w) n)
    predecessor
    (subst (λ (r : ℕ). CoversRow (record p { looks = looks }) r link.predecessor) row
    (subst (λ (q : Pass). CoversRow q link.row link.predecessor) same covers)) in
    λ some role.
    let on = laws.on_row w write some in
    covered.own (predecessor_of (names p.board) w) on.0 on.1 (omega arith) role
