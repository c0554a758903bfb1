use Rattle.std.proofs.Common.{◌≡◌, ◌∙◌, ◌≤◌, ◌<◌, ◌+◌, ℕ, ap, sym, subst, arith, refl, Some}
use Rattle.std.proofs.Common.{true≢false}
use Rattle.c5_definitions.specs.WriteNumbers.{name_at}
use Rattle.c5_definitions.specs.RowIndex.{bucket_count, first_in_bucket, start_of, next_bucket}
use Rattle.c5_board.specs.Boards.{Board, Pass, names, write_count}
use Rattle.c5_chains.specs.Paths.{buckets_of, start_in, IsOnPath}
use Rattle.c5_chains.proofs.OnPaths.{on_path-begin, on_path-next, path-ends, path-free}
use Rattle.c5_chains.proofs.OnPaths.{path-meets_free, first-found, scheduled-found, same-names}
use Rattle.c5_chains.proofs.OnPaths.{within-log, row-found}
use Rattle.c5_chains.proofs.following.follow_path.Goals as goal

pub loop-init : goal.loop-init
loop-init c = record {
  within = omega (arith, c.start-bucket.ensures.within, c.buckets-buckets.ensures.value);
  path = subst (IsOnPath c.args.pass.now c.args.pass.now c.args.name.now 0)
      (sym (c.start-bucket.ensures.value ∙ ap (λ (b : Board). start_in b c.args.name.now)
      (sym c.requires))) (on_path-begin c.args.pass.now c.args.name.now);
}

pub load_bucket-w-requires-clause-pass : goal.load_bucket-w-requires-clause-pass
load_bucket-w-requires-clause-pass c =
    ap (λ (p : Pass). p.board) c.loop.invariant.path.pass ∙ c.requires

pub load_bucket-w-requires-clause-bucket : goal.load_bucket-w-requires-clause-bucket
load_bucket-w-requires-clause-bucket c =
    subst (λ (b : ℕ). c.loop.bucket < b) c.buckets-buckets.ensures.value c.loop.invariant.within

pub returns-then-w-eq0-clause-end : goal.returns-then-w-eq0-clause-end
returns-then-w-eq0-clause-end c =
    path-free _ _ _ _ _ c.load_bucket-w.result (c.number_law.ensures.rows _)
    (c.index_law.ensures.rows _) c.loop.invariant.path
    (scheduled-found c.args.pass.now c.loop.pass _ _ _ c.requires
    (ap (λ (p : Pass). p.scheduled) c.loop.invariant.path.pass)
    c.load_bucket-w.ensures.scheduled) c.if-w-eq0.true

pub returns-then-w-eq0-clause-looks : goal.returns-then-w-eq0-clause-looks
returns-then-w-eq0-clause-looks c =
    path-ends _ _ _ _ _ _ _ _ c.loop.invariant.path c.load_bucket-w.ensures.pass c.if-w-eq0.true

pub has_name-requires : goal.has_name-requires
has_name-requires c =
    let found = first-found c.args.pass.now _ _ _ _ c.requires
    (c.index_law.ensures.rows _) c.buckets-buckets.ensures.value c.loop.invariant.within
    c.load_bucket-w.ensures.first c.if-w-eq0.false in
    within-log c.args.pass.now c.log-log.result.now _
    (same-names c.args.pass.now _ c.log-log.result.now c.requires
    (c.log-log.ensures.value ∙ c.plan.ensures.log)) found.1.write

pub returns-then-has_name-clause-end : goal.returns-then-has_name-clause-end
returns-then-has_name-clause-end c =
    let found = first-found c.args.pass.now _ _ _ _ c.requires
    (c.index_law.ensures.rows _) c.buckets-buckets.ensures.value c.loop.invariant.within
    c.load_bucket-w.ensures.first c.if-w-eq0.false in
    let same = same-names c.args.pass.now _ _ c.requires
    (c.log-log.ensures.value ∙ c.plan.ensures.log) in
    let pass = c.loop.invariant.path.pass in
    row-found c.args.pass.now c.loop.pass _ _ _ _ c.requires (ap (λ (p : Pass). p.scheduler) pass)
    (ap (λ (p : Pass). p.indexed) pass) found.1
    (subst (λ (ns : _). name_at ns c.load_bucket-w.result ≡ Some c.args.name.now) same
    (c.has_name.ensures.0 c.if-has_name.true)) c.load_bucket-w.ensures.own

pub returns-then-has_name-clause-looks : goal.returns-then-has_name-clause-looks
returns-then-has_name-clause-looks c =
    path-ends _ _ _ _ _ _ _ _ c.loop.invariant.path c.load_bucket-w.ensures.pass refl

pub next-bucket-requires : goal.next-bucket-requires
next-bucket-requires c = c.loop.invariant.within

pub loop-preserved : goal.loop-preserved
loop-preserved c =
    let found = first-found c.args.pass.now _ _ _ _ c.requires
    (c.index_law.ensures.rows _) c.buckets-buckets.ensures.value c.loop.invariant.within
    c.load_bucket-w.ensures.first c.if-w-eq0.false in
    let same = same-names c.args.pass.now _ _ c.requires
    (c.log-log.ensures.value ∙ c.plan.ensures.log) in
    let count = c.buckets-buckets.ensures.value in
    let here = count ∙ ap (λ (b : Board). bucket_count (write_count b)) (sym c.requires) in
    let next = c.next-bucket.ensures ∙ ap (λ (n : ℕ). next_bucket n c.loop.bucket) here in
    let less = (c.index_law.ensures.buckets (write_count c.args.board.now)).next c.loop.bucket
    (subst (λ (n : ℕ). c.loop.bucket < n) count c.loop.invariant.within) in
    record {
      within = subst (λ (r : ℕ). r < c.buckets-buckets.result) (sym c.next-bucket.ensures)
          (subst (λ (n : ℕ). next_bucket n c.loop.bucket < n) (sym count) less);
      path = subst
          (IsOnPath c.args.pass.now c.load_bucket-w.new.pass c.args.name.now (c.loop.counter + 1))
          (sym next)
          (on_path-next _ _ _ _ _ _ _ c.loop.invariant.path c.load_bucket-w.ensures.pass found.0
          found.1 (λ is. true≢false
          (sym (c.has_name.ensures.1
          (subst (λ (ns : _). name_at ns c.load_bucket-w.result ≡ Some c.args.name.now)
          (sym same) is)) ∙ c.if-has_name.false)));
    }

pub unreachable-requires : goal.unreachable-requires
unreachable-requires c =
    path-meets_free _ _ _ _ _ (c.index_law.ensures.buckets _)
    (c.index_law.ensures.rows _) c.loop.invariant.path
    (subst (λ (n : ℕ). n ≤ c.loop.counter)
    (c.buckets-buckets.ensures.value ∙ ap (λ (b : Board). bucket_count (write_count b))
    (sym c.requires)) c.loop-test.false)
