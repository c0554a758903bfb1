-- What is left of a log is installed and made visible.
use Rattle.std.proofs.Common.{◌≡◌, ◌∙◌, ◌+◌, ◌-◌, ◌≤◌, ◌<◌, ◌++◌, ℕ, zero, suc, true, List, [], ◌∷◌}
use Rattle.std.proofs.Common.{length, get_or, ap, sym, subst, refl, arith}
use Rattle.c5_rows.specs.Numbers.{is_among}
use Rattle.c5_rows.specs.Sizes.{max_sessions}
use Rattle.c5_rows.specs.State.{State}
use Rattle.c5_rows.specs.declared.answer.Reply.{Reply}
use Rattle.c5_definitions.specs.NumberLaws.{PlacesEnd}
use Rattle.c5_definitions.specs.ScriptParts.{ReadParts}
use Rattle.c5_definitions.specs.WriteNumbers.{IsWrite, end_of, place_below}
use Rattle.c5_board.specs.Boards.{Board, Pass, names, write_count, IsWorker}
use Rattle.c5_board.specs.Passes.{floor_of}
use Rattle.c5_board.proofs.SetLemmas.{range_has}
use Rattle.c5_snapshot.specs.Advances.{LoadsEachProgress, IsLeastOf, advanced, progress_loads}
use Rattle.c5_workers.specs.Finishing.{Finishes}
use Rattle.c5_workers.specs.declared.worker.Worker.{Worker}
use Rattle.c5_replay.specs.Joins.{AreAllJoined, HasFinished}
use Rattle.c5_replay.proofs.Sessions.{loaded-later}

default : (xs : List ℕ) (k d e : ℕ) → k < length xs → get_or xs k d ≡ get_or xs k e
default [] k d e less = absurd (omega arith)
default (x ∷ xs) zero d e less = refl
default (x ∷ xs) (suc k) d e less = default xs k d e (omega arith)

pub all-roles : (board : Board) (start : State) (reads : List ReadParts) (p : Pass)
    (workers : List Worker) (replies : List Reply)
    → AreAllJoined board start reads p workers replies → (i : ℕ) → IsWorker board.workers i
    → is_among i p.roles ≡ true
all-roles board start reads p workers replies h i w =
    ap (λ (l : List ℕ). is_among i l) h.worked.pass_with.roles_so ∙ range_has i 1 board.workers w.0
    (let x = w.1 in omega arith)

-- the least of the floors after all is installed is above each write
above-writes : (p q : Pass) (n least : ℕ) → LoadsEachProgress p q → IsLeastOf least q.floors
    → ((i : ℕ) → IsWorker p.board.workers i → is_among i p.roles ≡ true)
    → ((i : ℕ) → IsWorker p.board.workers i → n < floor_of p i) → n < least
above-writes p q n least loads is roles above =
    let k = is.among.0 in
    let less : k < length q.floors = is.among.1 in
    let count = loads.count in
    let worker : IsWorker p.board.workers (k + 1) = (omega arith, omega arith) in
    let back : (k + 1) - 1 ≡ k = omega arith in
    let same : floor_of q (k + 1) ≡ least =
    ap (λ (j : ℕ). get_or q.floors j 0) back ∙ default q.floors k 0 least less ∙ is.among.2 in
    let own = loads.own (k + 1) worker (roles (k + 1) worker) in
    let high = above (k + 1) worker in
    omega arith

pub finished : (board : Board) (start : State) (reads : List ReadParts) (replies : List Reply)
    (workers : List Worker) (a b c : Pass) (place least : ℕ) → PlacesEnd board.log.txns
    → AreAllJoined board start reads a workers replies
    → Finishes a b → c ≡ advanced b c.floors place → LoadsEachProgress b c
    → IsLeastOf least c.floors → place ≡ place_below board.log.txns least
    → HasFinished board reads replies c
finished board start reads replies workers a b c place least law joined fin adv loads is at =
    let at_a : a.board ≡ board = joined.worked.pass_with.of_board in
    let at_b : b.board ≡ board = ap (λ (x : Pass). x.board) fin.pass ∙ at_a in
    let at_c : c.board ≡ board = ap (λ (x : Pass). x.board) adv ∙ at_b in
    let roles_b : (i : ℕ) → IsWorker board.workers i
    → is_among i b.roles ≡ true =
    λ i w. ap
    (λ (x : Pass). is_among i x.roles) fin.pass ∙ all-roles board start reads a workers replies
    joined i w in
    let to_b : (i : ℕ) → IsWorker b.board.workers i
    → IsWorker board.workers i = λ i w. subst (λ (x : Board). IsWorker x.workers i) at_b w in
    let to_a : (i : ℕ) → IsWorker b.board.workers i
    → IsWorker a.board.workers i =
    λ i w. subst (λ (x : Board). IsWorker x.workers i) (at_b ∙ sym at_a) w in
    let count : write_count b.board ≡ write_count board = ap write_count at_b in
    let high : write_count board < least =
    above-writes b c (write_count board) least loads is (λ i w. roles_b i (to_b i w))
    (λ i w. (let f = (fin.floors i (to_a i w)).above in omega arith)) in
    let txns = board.log.txns in
    let ends : end_of txns (length txns) ≡ write_count board = law.all in
    let up : length txns ≤ place_below txns least =
    law.greatest least (length txns) (omega arith) (omega arith) in
    let down : place_below txns least ≤ length txns = law.place least in
    let placed : c.place ≡ place = ap (λ (x : Pass). x.place) adv in
    record {
      of_board = at_c;
      worker_roles_all = λ i w. ap (λ (x : Pass). is_among i x.roles) adv ∙ roles_b i w;
      snapshot_role = ap (λ (x : Pass). x.snapshot) adv ∙ ap
          (λ (x : Pass). x.snapshot) fin.pass ∙ joined.snapshot_role;
      scheduler_role = ap (λ (x : Pass). x.scheduler) adv ∙ ap
          (λ (x : Pass). x.scheduler) fin.pass ∙ joined.scheduler_role;
      installed_all = λ w write. ap (λ (x : Pass). is_among w x.installed) adv ∙ fin.installed w
          (subst (λ (x : Board). IsWrite (names x) w) (sym at_a) write);
      last_place = omega arith;
      loads = λ s w. loaded-later b c reads replies (progress_loads 1 c.floors) s
          (loaded-later a b reads replies _ s (joined.replied.loads s w) (at_b ∙ sym at_a)
          (ap (λ (x : Pass). x.looks) fin.pass)) (at_c ∙ sym at_b) (ap (λ (x : Pass). x.looks) adv);
    }
