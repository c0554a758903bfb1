use Rattle.std.proofs.Common.{◌≡◌, ℕ, List, [], length, ap, ◌∙◌, arith, subst, sym}
use Rattle.atomic_table.specs.Table.{opening}
use Rattle.c5_definitions.specs.RowIndex.{bucket_count}
use Rattle.c5_definitions.proofs.IndexLemmas.{count-few}
use Rattle.c5_definitions.proofs.NumberLemmas.{length-names_in}
use Rattle.c5_frames.specs.Log.{Log}
use Rattle.c5_frames.specs.Index.{writes_of}
use Rattle.c5_plan.specs.Sizes.{IsPlanned}
use Rattle.c5_board.specs.declared.rule.Opening.{Opening}
use Rattle.c5_board.specs.Words.{writes_in, buckets_in}
use Rattle.c5_board.specs.First.{first_words}
use Rattle.c5_board.specs.Rule.{IsKept}
use Rattle.c5_board.specs.Views.{first_view}
use Rattle.c5_board.specs.StepFacts.{Seated}
use Rattle.c5_board.specs.Passes.{IsSound}
use Rattle.c5_board.specs.Boards.{pass_of}
use Rattle.c5_board.proofs.Facts.{facts}
use Rattle.c5_board.proofs.NewBoard.{opens, length-words, first_sound}
use Rattle.c5_board.proofs.board.Board.new.Goals as goal

-- the number of writes is that of their names
counted : (log plan : Log) (n : ℕ) → log ≡ plan → n ≡ length (writes_of log.txns)
    → n ≡ writes_in plan
counted log plan n same is = is ∙
    (ap (λ (l : Log). length (writes_of l.txns)) same ∙ sym (length-names_in plan.txns))

pub bucket_count-buckets-requires : goal.bucket_count-buckets-requires
bucket_count-buckets-requires c = let e =
    counted _ _ _ c.log-log.ensures.value c.writes-writes.ensures.value in
    let few = c.log-log.ensures.planned.writes in omega arith

pub first_words-requires-clause-writes : goal.first_words-requires-clause-writes
first_words-requires-clause-writes c = let e =
    counted _ _ _ c.log-log.ensures.value c.writes-writes.ensures.value in
    let few = c.log-log.ensures.planned.writes in omega arith

pub first_words-requires-clause-buckets : goal.first_words-requires-clause-buckets
first_words-requires-clause-buckets c =
    let e = counted _ _ _ c.log-log.ensures.value c.writes-writes.ensures.value in
    let few = c.log-log.ensures.planned.writes in
    let h = count-few c.writes-writes.result (omega arith) in
    let is = c.bucket_count-buckets.ensures in omega arith

pub of_words-requires : goal.of_words-requires
of_words-requires c =
    let log = c.args.plan.now in
    let e = counted _ _ _ c.log-log.ensures.value c.writes-writes.ensures.value in
    let buckets = c.bucket_count-buckets.ensures ∙ ap bucket_count e in
    let words = c.as_slice.ensures.value ∙
    (c.in_ok-words.ensures ∙ (λ t. first_words (e t) c.args.workers (buckets t))) in
    let value = c.of.ensures ∙ c.log-log.ensures.value in
    subst (λ (z : Log × List ℕ). IsKept z.0 c.args.workers
    (opening {S = Unit {0}} z.1 [] (first_view z.0 c.args.workers)))
    (λ t. (sym value t, sym words t))
    (opens log c.args.workers
    (facts log c.args.workers c.log-log.ensures.planned c.requires.0 c.requires.1))

pub invariant_of-board : goal.invariant_of-board
invariant_of-board c =
    let made = c.in-Ok.ensures {u = tt} in
    let log = c.args.plan.now in
    let e = counted _ _ _ c.log-log.ensures.value c.writes-writes.ensures.value in
    let buckets = c.bucket_count-buckets.ensures ∙ ap bucket_count e in
    let words = c.as_slice.ensures.value ∙
    (c.in_ok-words.ensures ∙ (λ t. first_words (e t) c.args.workers (buckets t))) in
    let value = c.of.ensures ∙ c.log-log.ensures.value in
    record {
      words = made.0 ∙
          (ap (λ (l : List ℕ). length l) words ∙ length-words (writes_in log) c.args.workers
          (buckets_in log));
      slots = made.1;
      log = ap (λ (k : Opening). k.log.value) made.5 ∙ value;
      same_workers = ap (λ (k : Opening). k.workers) made.5;
      planned = c.log-log.ensures.planned;
      some = c.requires.0;
      at_most_sixteen = c.requires.1;
      writes = e;
      buckets = buckets;
    }

pub invariant_of-result : goal.invariant_of-result
invariant_of-result c =
    let made = c.in-Ok.ensures {u = tt} in
    let log = c.of.result.value in
    let value = c.of.ensures ∙ c.log-log.ensures.value in
    let planned = subst IsPlanned (sym value) c.log-log.ensures.planned in
    record {
      place = sym (ap (λ (m : Seated). m.0.place) made.4);
      no_slots = ap (λ (m : Seated). m.1) made.4;
      sound = subst (λ (m : Seated). IsSound (pass_of c.in-Ok.seat.table_id m.0)) (sym made.4)
          (first_sound log c.args.workers
          (facts log c.args.workers planned c.requires.0 c.requires.1) c.in-Ok.seat.table_id);
    }
