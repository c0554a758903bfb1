-- The rule gives the law.
use Rattle.std.proofs.Common.{◌≡◌, ℕ, ◌<◌, ◌≤◌, refl, sym, ap, subst, ◌∙◌, arith}
use Rattle.std.proofs.lemmas.List.Elements.{All-weaker}
use Rattle.c5_definitions.specs.WriteNumbers.{names_in, end_of, owner_of, IsFirstWrite}
use Rattle.c5_frames.specs.Log.{Log}
use Rattle.c5_board.specs.declared.known.Look.{Look}
use Rattle.c5_board.specs.declared.known.Look.TheVariants.{LoadHead, ExchangeHead, LoadProgress}
use Rattle.c5_board.specs.declared.known.Look.TheVariants.{LoadVisible, LoadRecord, LoadScheduled}
use Rattle.c5_board.specs.declared.known.Look.TheVariants.{LoadBucket}
use Rattle.c5_board.specs.Sets.{number_of}
use Rattle.c5_board.specs.Boards.{IsWorker}
use Rattle.c5_board.specs.Passes.{bucket_up_to}
use Rattle.c5_board.specs.Rule.{IsInstalled, IsFoundInstalled, IsKept}
use Rattle.c5_board.specs.Law.{Boarded, IsDone, IsInstalledOnce, the_words, IsFoundDone, IsLawful}
use Rattle.c5_board.specs.Law.{BoardLaw}
use Rattle.c5_board.proofs.Facts.{Facts, facts}
use Rattle.c5_board.proofs.SetLemmas.{listed-once}

module _ (log : Log) (workers : ℕ) (k : Facts log workers) (s : Boarded)
    (r : IsKept log workers s) where
  -- the view with the role of w's owner has w among its installed numbers if the head has
  -- reached it
  done : (w : ℕ) → IsInstalled log workers (the_words log workers s) w → IsDone s w
  done w is =
      let own : IsWorker workers (owner_of workers w) = (k.owners.some w, k.owners.worker w) in
      let h = r.workers_held (owner_of workers w) own in (
        r.holders.worker (owner_of workers w),
        h.0,
        h.1,
        (r.each (r.holders.worker (owner_of workers w)) h.0 h.1).all_installed w is h.2,
      )

  installed : (w : ℕ) → IsDone s w → IsInstalled log workers (the_words log workers s) w
  installed w d = ((r.each d.0 d.1 d.2).installed w d.3).0

  found_done : (look : Look) → IsFoundInstalled log workers (the_words log workers s) look
      → IsFoundDone log workers s look
  found_done (LoadHead row found) h = λ ne. done found (h ne)
  found_done (ExchangeHead w found) h = λ ne. done found (h ne)
  found_done (LoadProgress i found) h = tt
  found_done (LoadVisible found) h = tt
  found_done (LoadRecord w found) h = tt
  found_done (LoadScheduled found) h = tt
  found_done (LoadBucket j found) h = tt

  -- the visible place is below every floor of the view with the snapshot role, so its writes are
  -- installed
  all_visible : (w : ℕ) → 1 ≤ w → w ≤ end_of log.txns (the_words log workers s).visible → IsDone s w
  all_visible w positive within =
      let h = r.snapshot_held in
      let f = (r.each r.holders.snapshot h.0 h.1).snapshot h.2 in
      let own : IsWorker workers (owner_of workers w) = (k.owners.some w, k.owners.worker w) in
      let floor = (r.each r.holders.snapshot h.0 h.1).floors (owner_of workers w) own in
      let below = f.below (owner_of workers w) own in
      let same : end_of log.txns h.0.place ≡ end_of log.txns (the_words log workers s).visible =
      ap (end_of log.txns) f.place in
      let reached = floor.reached in
      done w ((r.words.progress (owner_of workers w) own).below w positive (omega arith) refl)

  -- the view with the role of an installed number's owner lists it once
  installed_once : (w : ℕ) → IsDone s w → IsInstalledOnce log workers s w
  installed_once w d = let f = r.each d.0 d.1 d.2 in record {
    seat = d.0;
    view = d.1;
    at = d.2;
    role = (f.installed w d.3).1;
    listed = listed-once w d.1.installed f.once d.3;
    only = λ other v at has_w. let g = r.each other v at in
        sym (g.roles (owner_of workers w) (g.installed w has_w).1).1 ∙
        (f.roles (owner_of workers w) (f.installed w d.3).1).1;
  }

  pub lawful : IsLawful log workers s
  lawful = record {
    of_board = λ seat v at. let f = r.each seat v at in
        record { same_log = f.same_log; same_workers = f.same_workers };
    roles = record {
      worker = λ i is. let h = r.workers_held i is in record {
        seat = r.holders.worker i;
        view = h.0;
        at = h.1;
        holds = h.2;
        only = λ other v at holds. sym ((r.each other v at).roles i holds).1;
      };
      snapshot = let h = r.snapshot_held in record {
        seat = r.holders.snapshot;
        view = h.0;
        at = h.1;
        holds = h.2;
        only = λ other v at holds. sym ((r.each other v at).snapshot holds).holder;
      };
      scheduler = let h = r.scheduler_held in record {
        seat = r.holders.scheduler;
        view = h.0;
        at = h.1;
        holds = h.2;
        only = λ other v at holds. sym ((r.each other v at).scheduler holds).holder;
      };
      owned = λ seat v w at has_w. let h = (r.each seat v at).installed w has_w in (h.0.write, h.1);
      once = λ a b v u w at_a at_b has_v has_u.
          let h = ((r.each a v at_a).roles (owner_of workers w)
          ((r.each a v at_a).installed w has_v).1).1 in
          let g = ((r.each b u at_b).roles (owner_of workers w)
          ((r.each b u at_b).installed w has_u).1).1 in
          sym h ∙ g;
      distinct = λ seat v at. (r.each seat v at).once;
    };
    heads = record {
      head = r.words.heads.rows;
      installed =
          λ w is. (
            (λ d. (installed w d).reached),
            (λ reached. done w (record { write = is; reached = reached })),
          );
      others = r.words.heads.others;
    };
    progress = record {
      positive = λ i is. (r.words.progress i is).positive;
      owned = λ i is. (r.words.progress i is).owned;
      floor = λ seat v i at holds. sym ((r.each seat v at).own_floors i holds);
      below = λ i w is positive below own. done w
          ((r.words.progress i is).below w positive below own);
    };
    reached = λ seat v at. let f = r.each seat v at in record {
      floors = λ i is. (f.floors i is).reached;
      place = f.place;
      scheduled = f.scheduled;
      end = f.end;
    };
    visible = record {
      within = r.words.visible;
      place = λ seat v at holds. sym ((r.each seat v at).snapshot holds).place;
      below = λ seat v i at holds is. let f = (r.each seat v at).snapshot holds in
          subst (λ (p : ℕ). end_of log.txns p < number_of v.floors i) f.place (f.below i is);
    };
    looks = λ seat v at. let f = r.each seat v at in record {
      known = f.looks;
      done = All-weaker (IsFoundInstalled log workers (the_words log workers s))
          (IsFoundDone log workers s) found_done v.looks f.found;
    };
    records = λ seat v at holds. let f = (r.each seat v at).scheduler holds in
        let least = r.words.records.least in let most = r.words.records.most in
        let within = r.words.records.within in let written = f.written in record {
          scheduled = sym f.scheduled;
          least = omega arith;
          most = omega arith;
          within = omega arith;
          stored = λ w is below. r.words.records.stored w is (omega arith);
          blank = λ w is above. r.words.records.blank w is (omega arith);
        };
    scheduled = λ w d. r.words.scheduled w (installed w d);
    index = λ seat v at holds. let f = (r.each seat v at).scheduler holds in
        let indexed = f.indexed in let not_above = r.words.index.not_above in record {
          first = λ ne. subst (IsFirstWrite (names_in log.txns)) (sym f.indexed)
              (r.words.index.first (λ z. ne (f.indexed ∙ z)));
          not_above = omega arith;
          all = λ w is within. let h = r.words.index.all w is within in omega arith;
        };
    buckets = λ seat v j at holds within. r.words.index.buckets j within
        ∙ ap (λ (n : ℕ). bucket_up_to (names_in log.txns) n j)
        (sym ((r.each seat v at).scheduler holds).indexed);
    all_visible = all_visible;
    visible_once = λ w positive within. installed_once w (all_visible w positive within);
  }

pub board_is_lawful : BoardLaw
board_is_lawful log workers planned bounds s r =
    lawful log workers (facts log workers planned bounds.0 bounds.1) s r
