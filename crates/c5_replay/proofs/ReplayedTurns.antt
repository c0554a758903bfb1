-- What a replay by a schedule comes to once its rounds are done and all reads are taken.
use Rattle.std.proofs.Common.{◌≡◌, ◌∙◌, ◌+◌, ◌≤◌, ℕ, true, List, length, ap, sym, subst, arith}
use Rattle.std.proofs.lemmas.List.{take_all}
use Rattle.c5_rows.specs.Numbers.{is_among}
use Rattle.c5_rows.specs.Sizes.{max_sessions}
use Rattle.c5_rows.specs.State.{State, after_txns, state_after}
use Rattle.c5_rows.specs.declared.answer.Reply.{Reply}
use Rattle.c5_rows.specs.declared.writes.Txn.{Txn}
use Rattle.c5_definitions.specs.Replies.{in_reply_order, replies_at}
use Rattle.c5_definitions.specs.ScriptParts.{ReadParts}
use Rattle.c5_definitions.specs.Turns.{TurnMachine, after_closing, after_words, is_all_done}
use Rattle.c5_definitions.specs.Turns.{places_taken, turn_run, turn_start}
use Rattle.c5_definitions.specs.declared.script.TurnWord.{TurnWord}
use Rattle.c5_board.specs.Boards.{Board, Pass, names, write_count}
use Rattle.c5_reads.specs.Looks.{OnlyLooks}
use Rattle.c5_reads.proofs.LookLemmas.{only-then}
use Rattle.c5_replay.specs.Answered.{places_of}
use Rattle.c5_replay.specs.Joins.{HaveReplied}
use Rattle.c5_replay.specs.Replays.{HasReplayed}
use Rattle.c5_replay.specs.TurnReplays.{IsTurnReplay, missed_first}
use Rattle.c5_replay.specs.TurnStates.{FitsTurns, left_places, machine_of}
use Rattle.c5_replay.specs.declared.turning.Turning.{Turning}
use Rattle.c5_replay.proofs.LastPlace.{done-each}
use Rattle.c5_replay.proofs.MachineLemmas.{places-taken}
use Rattle.c5_replay.proofs.Sessions.{loaded-later}
use Rattle.c5_replay.proofs.StepLemmas.{looked-missed}

pub replayed : (board : Board) (start : State) (reads : List ReadParts) (u : Turning) (p q : Pass)
    (replies : List Reply) → FitsTurns board start reads u
    → is_all_done (write_count board) u.pass.installed ≡ true
    → u.pass.place ≡ length board.log.txns → OnlyLooks u.pass p → OnlyLooks p q
    → HaveReplied p start reads max_sessions replies
    → HasReplayed board.log board.workers reads replies q
replayed board start reads u p q replies h all last first second replied =
    let only = only-then u.pass p q first second in
    let same : q.board ≡ board =
    ap (λ (x : Pass). x.board) only.pass ∙ h.turning.of_board in
    record {
      over = ap (λ (x : Board). x.log) same;
      count = ap (λ (x : Board). x.workers) same;
      roles = λ i w. ap (λ (x : Pass). is_among i x.roles) only.pass ∙ h.turning.roles i w;
      snapshot = ap (λ (x : Pass). x.snapshot) only.pass ∙ h.turning.snapshot;
      scheduler = ap (λ (x : Pass). x.scheduler) only.pass ∙ h.turning.scheduler;
      installed = λ w write. ap (λ (x : Pass). is_among w x.installed) only.pass
          ∙ done-each (write_count board) u.pass.installed (names board)
          (λ t. write_count board) all w write;
      place = ap (λ (x : Pass). x.place) only.pass ∙ last;
      loads = λ s w. loaded-later p q reads replies second.more s (replied.loads s w)
          (ap (λ (x : Pass). x.board) second.pass) (ap (λ (x : Pass). x.looks) second.pass);
    }

pub missed-all : (board : Board) (start : State) (reads : List ReadParts) (u : Turning)
    (p q : Pass) → FitsTurns board start reads u → OnlyLooks u.pass p → OnlyLooks p q
    → u.put_off ≡ missed_first (names board) q.looks
missed-all board start reads u p q h first second =
    let only = only-then u.pass p q first second in
    let same : q.board ≡ board =
    ap (λ (x : Pass). x.board) only.pass ∙ h.turning.of_board in
    (looked-missed u.pass q u.workers.items u.put_off only h.missed).count
    ∙ ap (λ (x : Board). missed_first (names x) q.looks) same

pub rows-after : (start rows : State) (txns : List Txn) (place : ℕ) → place ≡ length txns
    → rows ≡ state_after start txns place → rows ≡ after_txns txns start
rows-after start rows txns place last is =
    is ∙ ap (λ (l : List Txn). after_txns l start) (take_all place txns (omega arith))

pub turn-replay : (board : Board) (start : State) (reads : List ReadParts) (turns : List TurnWord)
    (u : Turning) (p : Pass) (replies : List Reply) (rows : State)
    → FitsTurns board start reads u
    → machine_of u ≡ after_closing board.log.txns
    (after_words board.log.txns reads (turn_start board.workers) turns)
    → p.board ≡ board → HaveReplied p start reads max_sessions replies
    → places_of replies ≡ left_places reads u.pass.place 1 u.sessions.items
    → rows ≡ after_txns board.log.txns start
    → IsTurnReplay board.log board.workers start reads turns replies rows u.put_off
unfolding turn_run
turn-replay board start reads turns u p replies rows h machine same replied places after =
    let count : length u.sessions.items ≡ max_sessions =
    (let c = h.sessions.count in omega arith) in
    record {
      replied = subst
          (λ (b : Board). replies ≡ replies_at start b.log.txns (in_reply_order reads)
          (places_of replies)) same replied.answered.replied
          ∙ ap (λ (l : List ℕ). replies_at start board.log.txns (in_reply_order reads) l)
          (places ∙ places-taken reads u count ∙ ap (places_taken reads) machine);
      after = after;
      count = ap (λ (m : TurnMachine). m.put_off) machine;
    }
