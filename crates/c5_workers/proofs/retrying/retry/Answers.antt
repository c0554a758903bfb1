use Rattle.std.proofs.Common.{◌≡◌, ◌∙◌, ◌+◌, ◌≤◌, ◌<◌, ℕ, List, length, get_or, set, ap, sym, subst}
use Rattle.std.proofs.Common.{arith, true}
use Rattle.c5_board.specs.Boards.{Board, Pass, names}
use Rattle.c5_rows.specs.Numbers.{is_among}
use Rattle.c5_chains.specs.declared.install.Install.TheVariants.{Installed, PutOff}
use Rattle.c5_chains.specs.Tries.{after_try, head_found}
use Rattle.c5_workers.specs.Tries.{IsRetrying}
use Rattle.c5_workers.proofs.TryLemmas.{retry-ready, retry-installed, retry-put_off, retried}
use Rattle.c5_workers.proofs.retrying.retry.Goals as goal
use Rattle.c5_workers.proofs.retrying.retry.Goals.{in-Installed, in-PutOff}

pub try_install-requires-clause-role : goal.try_install-requires-clause-role
try_install-requires-clause-role c =
    let less : c.loop-place.place < length c.loop-place.list = omega arith in
    let ready = retry-ready _ _ _ _ _ _ _ _ c.loop-place.invariant.retrying less in
    subst (λ (i : ℕ). is_among i c.loop-place.pass.roles ≡ true)
    (sym ready.0.owned) c.loop-place.invariant.retrying.fits.role

pub try_install-requires-clause-write : goal.try_install-requires-clause-write
try_install-requires-clause-write c =
    let less : c.loop-place.place < length c.loop-place.list = omega arith in
    let ready = retry-ready _ _ _ _ _ _ _ _ c.loop-place.invariant.retrying less in
    (ready.0.write.positive, ready.0.scheduled_so)

pub try_install-requires-clause-not_installed : goal.try_install-requires-clause-not_installed
try_install-requires-clause-not_installed c =
    let less : c.loop-place.place < length c.loop-place.list = omega arith in
    (retry-ready _ _ _ _ _ _ _ _ c.loop-place.invariant.retrying less).1

pub loop-place-preserved : goal.loop-place-preserved
loop-place-preserved c =
    let less : c.loop-place.place < length c.loop-place.list = omega arith in
    elim c.match-try_install.branch [
      | in-Installed w ↦
          let is = subst (λ (b : Board). c.try_install.new.pass
          ≡ after_try c.loop-place.pass (get_or c.loop-place.list c.loop-place.place 0)
          (head_found (names b) (get_or c.loop-place.list c.loop-place.place 0) Installed))
          (sym c.loop-place.invariant.board) w.in-Installed.ensures.pass in
          record {
            board = ap
                (λ (p : Pass). p.board) w.in-Installed.ensures.pass ∙ c.loop-place.invariant.board;
            retrying =
                subst (λ (l : List ℕ). IsRetrying c.args.pass.now c.try_install.new.pass c.args.i
                c.args.next c.args.list.now l (c.loop-place.place + 1) c.match-try_install.kept)
                (sym w.list-is)
                (subst (IsRetrying c.args.pass.now c.try_install.new.pass c.args.i c.args.next
                c.args.list.now c.loop-place.list (c.loop-place.place + 1)) (sym w.kept-is)
                (retry-installed _ _ _ _ _ _ _ _ c.loop-place.invariant.retrying less
                c.try_install.new.pass w.in-Installed.ensures.cause is));
          }
      | in-PutOff w ↦
          let is = subst (λ (b : Board). c.try_install.new.pass
          ≡ after_try c.loop-place.pass (get_or c.loop-place.list c.loop-place.place 0)
          (head_found (names b) (get_or c.loop-place.list c.loop-place.place 0)
          (PutOff w.in-PutOff.seen)))
          (sym c.loop-place.invariant.board) w.in-PutOff.ensures.pass in
          record {
            board = ap
                (λ (p : Pass). p.board) w.in-PutOff.ensures.pass ∙ c.loop-place.invariant.board;
            retrying =
                subst (λ (l : List ℕ). IsRetrying c.args.pass.now c.try_install.new.pass c.args.i
                c.args.next c.args.list.now l (c.loop-place.place + 1) c.match-try_install.kept)
                (sym w.list-is)
                (subst (IsRetrying c.args.pass.now c.try_install.new.pass c.args.i c.args.next
                c.args.list.now
                (set c.loop-place.list c.loop-place.kept
                (get_or c.loop-place.list c.loop-place.place 0)) (c.loop-place.place + 1))
                (sym w.kept-is)
                (retry-put_off _ _ _ _ _ _ _ _ c.loop-place.invariant.retrying less
                c.try_install.new.pass w.in-PutOff.seen w.in-PutOff.ensures.cause is));
          }
    ]

pub returns-clause-fits : goal.returns-clause-fits
returns-clause-fits c = let all : length c.loop-place.list ≤ c.loop-place.place = omega arith in
    (retried _ _ _ _ _ _ _ _ c.loop-place.invariant.retrying all).0

pub returns-clause-retries : goal.returns-clause-retries
returns-clause-retries c = let all : length c.loop-place.list ≤ c.loop-place.place = omega arith in
    (retried _ _ _ _ _ _ _ _ c.loop-place.invariant.retrying all).1
