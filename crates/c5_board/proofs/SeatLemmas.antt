-- One view and the words change: what the other seats and the rule need.
use Rattle.std.proofs.Common.{◌≡◌, ◌≢◌, ℕ, zero, suc, ◌≤◌, ⊎_elim, Bool, true, List, [], ◌∷◌}
use Rattle.std.proofs.Common.{length, get_or, set, refl, sym, ap, subst, ◌∙◌, arith}
use Rattle.std.specs.Prelude.{All}
use Rattle.std.proofs.lemmas.List.Elements.{All-weaker}
use mathlib.Core.Logic.{dite}
use mathlib.Core.Option as maybe
use mathlib.Core.Option.{some, some-injective, some-ne-none}
use native.Mathlib.Decide.{ℕ_discrete}
use lib.ListN.{get_elem?}
use Rattle.atomic_table.specs.Seated.{TableId}
use Rattle.atomic_table.specs.Table.{State}
use Rattle.atomic_table.proofs.Lists.{at_set, set_else}
use Rattle.c5_rows.specs.declared.writes.RowName.{RowName}
use Rattle.c5_definitions.specs.WriteNumbers.{names_in, row_of, end_of, owner_of, IsWrite}
use Rattle.c5_frames.specs.Log.{Log}
use Rattle.c5_board.specs.declared.known.Known.{Known}
use Rattle.c5_board.specs.declared.known.Look.{Look}
use Rattle.c5_board.specs.declared.known.Look.TheVariants.{LoadHead, ExchangeHead, LoadProgress}
use Rattle.c5_board.specs.declared.known.Look.TheVariants.{LoadVisible, LoadRecord, LoadScheduled}
use Rattle.c5_board.specs.declared.known.Look.TheVariants.{LoadBucket}
use Rattle.c5_board.specs.Sets.{number_of}
use Rattle.c5_rows.specs.Numbers.{is_among}
use Rattle.c5_board.specs.Words.{word_count}
use Rattle.c5_board.specs.Boards.{Pass, IsWorker}
use Rattle.c5_board.specs.Passes.{IsLookOf, IsReached, IsSound, CoversRow}
use Rattle.c5_board.specs.Rule.{BoardWords, board_words, Holders, IsInstalled, WordsFit}
use Rattle.c5_board.specs.Rule.{IsFoundInstalled, SeatFits, IsKept}
use Rattle.c5_board.proofs.Facts.{Facts}
use Rattle.c5_board.proofs.WordLemmas.{SameHeads}

-- ---- views in a list

pub there : {A : Type 0} (l : List A) (i : ℕ) (v w : A) → get_elem? l i ≡ some v
    → get_elem? (set l i w) i ≡ some w
there [] i v w e = absurd (some-ne-none v (sym e))
there (x ∷ xs) zero v w e = refl
there (x ∷ xs) (suc i) v w e = there xs i v w e

pub one_view : {A : Type 0} (l : List A) (j : ℕ) (v w : A) → get_elem? l j ≡ some v
    → get_elem? l j ≡ some w → v ≡ w
one_view l j v w e f = some-injective v w (sym e ∙ f)

-- ---- looks

-- a look stays true when more is known
pub look_more : (names : List RowName) (floors floors' : List ℕ)
    (place place' scheduled scheduled' : ℕ) → ((i : ℕ) → number_of floors i ≤ number_of floors' i)
    → place ≤ place' → scheduled ≤ scheduled'
    → (look : Look) → IsLookOf names floors place scheduled look
    → IsLookOf names floors' place' scheduled' look
look_more names floors floors' place place' scheduled scheduled' f p s (LoadHead row found) h =
    let q = h.1 in (h.0, omega arith)
look_more names floors floors' place place' scheduled scheduled' f p s (ExchangeHead w found) h =
    let q = h.1 in (h.0, omega arith)
look_more names floors floors' place place' scheduled scheduled' f p s (LoadProgress i found) h =
    let q = f i in omega arith
look_more names floors floors' place place' scheduled scheduled' f p s (LoadVisible found) h =
    omega arith
look_more names floors floors' place place' scheduled scheduled' f p s (LoadRecord w found) h = h
look_more names floors floors' place place' scheduled scheduled' f p s (LoadScheduled found) h =
    omega arith
look_more names floors floors' place place' scheduled scheduled' f p s (LoadBucket j found) h = h

-- the same holders, with these marks
abbrev pub with_marks : Holders → ℕ → ℕ → Holders
with_marks h written indexed =
    record {
      worker = h.worker;
      snapshot = h.snapshot;
      scheduler = h.scheduler;
      written = written;
      indexed = indexed;
    }

module _ (log : Log) (workers : ℕ) (k : Facts log workers) where
  abbrev pub St : Type 0
  St = State (Unit {0}) Known

  abbrev pub Rule : St → Type 0
  Rule s = IsKept log workers s

  abbrev pub Inst : BoardWords → ℕ → Type 0
  Inst x w = IsInstalled log workers x w

  abbrev pub Seat : Holders → BoardWords → ℕ → Known → Type 0
  Seat h x seat v = SeatFits log workers h x seat v

  abbrev pub words_in : St → BoardWords
  words_in s = board_words log workers s.words

  abbrev pub names : List RowName
  names = names_in log.txns

  abbrev pub own : ℕ → ℕ
  own w = owner_of workers w

  pub owner_is : (w : ℕ) → IsWorker workers (owner_of workers w)
  owner_is w = (k.owners.some w, k.owners.worker w)

  -- ---- words grow

  pub record Grown (x y : BoardWords) : Type 0 where
    pub heads : (w : ℕ) → IsWrite (names_in log.txns) w → x.head w ≤ y.head w
    pub progress : (i : ℕ) → IsWorker workers i → x.progress i ≤ y.progress i
    pub scheduled : x.scheduled ≤ y.scheduled
    pub visible : x.visible ≤ y.visible

  pub inst_grown : (x y : BoardWords) (w : ℕ)
      → ((v : ℕ) → IsWrite (names_in log.txns) v → x.head v ≤ y.head v) → Inst x w → Inst y w
  inst_grown x y w grown is = let h =
      grown (row_of (names_in log.txns) w) (k.rows.first w is.write).write in
      let reached = is.reached in record { write = is.write; reached = omega arith }

  pub same_grown : (x y : BoardWords) → SameHeads log workers x y → (v : ℕ)
      → IsWrite (names_in log.txns) v → x.head v ≤ y.head v
  same_grown x y same v is = let e = same v is in omega arith

  pub inst_same : (x y : BoardWords) (w : ℕ) → SameHeads log workers x y → Inst x w → Inst y w
  inst_same x y w same is = inst_grown x y w (same_grown x y same) is

  pub found_grown : (x y : BoardWords)
      → ((v : ℕ) → IsWrite (names_in log.txns) v → x.head v ≤ y.head v) → (look : Look)
      → IsFoundInstalled log workers x look → IsFoundInstalled log workers y look
  found_grown x y grown (LoadHead row found) h = λ ne. inst_grown x y found grown (h ne)
  found_grown x y grown (ExchangeHead w found) h = λ ne. inst_grown x y found grown (h ne)
  found_grown x y grown (LoadProgress i found) h = tt
  found_grown x y grown (LoadVisible found) h = tt
  found_grown x y grown (LoadRecord w found) h = tt
  found_grown x y grown (LoadScheduled found) h = tt
  found_grown x y grown (LoadBucket j found) h = tt

  -- ---- the other seats

  -- what changes doesn't concern this view's roles
  pub record Untouched (h : Holders) (written indexed : ℕ) (x y : BoardWords)
      (u : Known) : Type 0 where
    pub installs : (w : ℕ) → Inst y w → is_among (owner_of workers w) u.roles ≡ true → Inst x w
    pub progress : (i : ℕ) → is_among i u.roles ≡ true → y.progress i ≡ x.progress i
    pub snapshot : u.snapshot ≡ true → y.visible ≡ x.visible
    pub scheduler : u.scheduler ≡ true → (y.scheduled ≡ x.scheduled) × (written ≡ h.written)
        × (indexed ≡ h.indexed)

  pub stays : (h : Holders) (written indexed : ℕ) (x y : BoardWords) (seat : ℕ) (u : Known)
      → Grown x y → Untouched h written indexed x y u → Seat h x seat u
      → Seat (with_marks h written indexed) y seat u
  stays h written indexed x y seat u grown same f = record {
    same_log = f.same_log;
    same_workers = f.same_workers;
    roles = f.roles;
    installed = λ w is. let i = f.installed w is in (inst_grown x y w grown.heads i.0, i.1);
    all_installed = λ w is role. f.all_installed w (same.installs w is role) role;
    once = f.once;
    count = f.count;
    floors = λ i is. let g = f.floors i is in let reached = g.reached in
        let p = grown.progress i is in
        record { positive = g.positive; owned = g.owned; reached = omega arith };
    own_floors = λ i role. f.own_floors i role ∙ sym (same.progress i role);
    place = let a = f.place in let b = grown.visible in omega arith;
    scheduled = let a = f.scheduled in let b = grown.scheduled in omega arith;
    end = f.end;
    snapshot = λ role. let g = f.snapshot role in
        record { holder = g.holder; place = g.place ∙ sym (same.snapshot role); below = g.below };
    scheduler = λ role. let g = f.scheduler role in let e = same.scheduler role in record {
      holder = g.holder;
      scheduled = g.scheduled ∙ sym e.0;
      written = g.written ∙ sym e.1;
      indexed = g.indexed ∙ sym e.2;
    };
    looks = f.looks;
    found = All-weaker (IsFoundInstalled log workers x) (IsFoundInstalled log workers y)
        (found_grown x y grown.heads) u.looks f.found;
  }

  -- ---- one view and the words change

  -- the view has the roles that it had
  pub record SameRoles (v w : Known) : Type 0 where
    pub worker_roles : w.roles ≡ v.roles
    pub snapshot_role : w.snapshot ≡ v.snapshot
    pub scheduler_role : w.scheduler ≡ v.scheduler

  still_held : (s : St) (id : ℕ) (v w : Known) (seat : ℕ) (role : Known → Bool)
      → get_elem? s.views id ≡ some v → role w ≡ role v
      → (u : Known) × (get_elem? s.views seat ≡ some u) × (role u ≡ true) → (u : Known)
      × (get_elem? (set s.views id w) seat ≡ some u) × (role u ≡ true)
  still_held s id v w seat role at same h = dite (ℕ_discrete seat id)
      (λ e. (
        w,
        subst (λ (i : ℕ). get_elem? (set s.views id w) i ≡ some w) (sym e)
            (there s.views id v w at),
        same ∙ (ap role
            (one_view s.views id v h.0 at (subst (λ (i : ℕ). get_elem? s.views i ≡ some h.0) e h.1))
            ∙ h.2),
      ))
      (λ ne. (h.0, set_else s.views id seat w ne ∙ h.1, h.2))

  pub moved : (s : St) (r : Rule s) (id : ℕ) (v w : Known) (words : List ℕ)
      (homes : List (maybe.Option (Unit {0}))) (written indexed : ℕ)
      → get_elem? s.views id ≡ some v → SameRoles v w → length words ≡ word_count log workers
      → WordsFit log workers written indexed (board_words log workers words)
      → Seat (with_marks r.holders written indexed) (board_words log workers words) id w
      → ((j : ℕ) (u : Known) → j ≢ id → get_elem? s.views j ≡ some u
      → Seat (with_marks r.holders written indexed) (board_words log workers words) j u)
      → Rule (record { words = words; homes = homes; views = set s.views id w })
  moved s r id v w words homes written indexed at same count fit mine others = record {
    holders = with_marks r.holders written indexed;
    count = count;
    words = fit;
    each = λ j u e. ⊎_elim
        (λ (t : (j ≡ id) × (w ≡ u)). subst
        (λ (z : ℕ × Known). Seat (with_marks r.holders written indexed)
        (board_words log workers words) z.0 z.1) (λ i. (sym t.0 i, t.1 i)) mine)
        (λ (t : (j ≢ id) × (get_elem? s.views j ≡ some u)). others j u t.0 t.1)
        (at_set s.views id j w u e);
    workers_held = λ i is. still_held s id v w (r.holders.worker i) (λ u. is_among i u.roles) at
        (ap (is_among i) same.worker_roles) (r.workers_held i is);
    snapshot_held = still_held s id v w r.holders.snapshot
        (λ u. u.snapshot) at same.snapshot_role r.snapshot_held;
    scheduler_held = still_held s id v w r.holders.scheduler
        (λ u. u.scheduler) at same.scheduler_role r.scheduler_held;
  }

  -- one view knows more
  pub learned : (s : St) (r : Rule s) (id : ℕ) (v w : Known) → get_elem? s.views id ≡ some v
      → SameRoles v w → Seat r.holders (words_in s) id w
      → Rule (record { words = s.words; homes = s.homes; views = set s.views id w })
  learned s r id v w at same mine =
      moved s r id v w s.words s.homes r.holders.written r.holders.indexed at same r.count r.words
      mine (λ j u ne e. r.each j u e)

  -- ---- what a fitting view shows

  -- every write up to the end of the visible place is installed
  pub visible_installed : (s : St) → Rule s → (w : ℕ) → 1 ≤ w
      → w ≤ end_of log.txns (words_in s).visible → Inst (words_in s) w
  visible_installed s r w positive within =
      let h = r.snapshot_held in
      let f = (r.each r.holders.snapshot h.0 h.1).snapshot h.2 in
      let floor = (r.each r.holders.snapshot h.0 h.1).floors (owner_of workers w) (owner_is w) in
      let below = f.below (owner_of workers w) (owner_is w) in
      let same : end_of log.txns h.0.place ≡ end_of log.txns (words_in s).visible =
      ap (end_of log.txns) f.place in
      let reached = floor.reached in
      (r.words.progress (owner_of workers w) (owner_is w)).below w positive (omega arith) refl

  abbrev pub shows : TableId → Known → Pass
  shows table v = record {
    board = record { table = table; log = log; workers = workers };
    roles = v.roles;
    installed = v.installed;
    snapshot = v.snapshot;
    scheduler = v.scheduler;
    written = v.written;
    indexed = v.indexed;
    floors = v.floors;
    place = v.place;
    scheduled = v.scheduled;
    looks = v.looks;
  }

  pub sound : (table : TableId) (h : Holders) (x : BoardWords) (seat : ℕ) (v : Known)
      → WordsFit log workers h.written h.indexed x → Seat h x seat v → IsSound (shows table v)
  sound table h x seat v fit f = record {
    workers = λ i role. (f.roles i role).0;
    installed = λ w is. let i = f.installed w is in (i.0.write, i.1);
    count = f.count;
    floors = λ i is. let g = f.floors i is in (g.positive, g.owned);
    place = let a = f.place in let b = fit.visible in omega arith;
    scheduled = let a = f.scheduled in let b = fit.records.least in let c = fit.records.within in
        omega arith;
    end = f.end;
    looks = f.looks;
  }

  -- the head of a row covers what the pass knows of the row
  reached_head : (x : BoardWords) (row : ℕ) (look : Look) → (floors : List ℕ) (place scheduled : ℕ)
      → IsLookOf (names_in log.txns) floors place scheduled look
      → IsFoundInstalled log workers x look → IsReached (names_in log.txns) row (x.head row) look
  reached_head x row (LoadHead r found) floors place scheduled h g =
      λ e. dite (ℕ_discrete found 0) (λ z. omega arith)
      (λ ne. let i = (g ne).reached in let on = (h.0 ne).1 in
      let same : x.head (row_of (names_in log.txns) found) ≡ x.head row = ap x.head (on ∙ e) in
      omega arith)
  reached_head x row (ExchangeHead w found) floors place scheduled h g =
      λ e. dite (ℕ_discrete found 0) (λ z. omega arith)
      (λ ne. let i = (g ne).reached in let on = (h.0 ne).1 in
      let same : x.head (row_of (names_in log.txns) found) ≡ x.head row = ap x.head (on ∙ e) in
      omega arith)
  reached_head x row (LoadProgress i found) floors place scheduled h g = tt
  reached_head x row (LoadVisible found) floors place scheduled h g = tt
  reached_head x row (LoadRecord w found) floors place scheduled h g = tt
  reached_head x row (LoadScheduled found) floors place scheduled h g = tt
  reached_head x row (LoadBucket j found) floors place scheduled h g = tt

  all_reached : (x : BoardWords) (row : ℕ) (floors : List ℕ) (place scheduled : ℕ)
      (looks : List Look) → All (IsLookOf (names_in log.txns) floors place scheduled) looks
      → All (IsFoundInstalled log workers x) looks
      → All (IsReached (names_in log.txns) row (x.head row)) looks
  all_reached x row floors place scheduled looks h g =
      λ i d within. reached_head x row (get_or looks i d) floors place scheduled (h i d within)
      (g i d within)

  installed_below : (x : BoardWords) (row w : ℕ) → row_of (names_in log.txns) w ≡ row → Inst x w
      → w ≤ x.head row
  installed_below x row w on is = let reached = is.reached in
      let same : x.head (row_of (names_in log.txns) w) ≡ x.head row = ap x.head on in omega arith

  pub covers : (table : TableId) (s : St) (r : Rule s) (seat : ℕ) (v : Known) (row : ℕ)
      → Seat r.holders (words_in s) seat v → CoversRow (shows table v) row ((words_in s).head row)
  covers table s r seat v row f = record {
    installed = λ w is on has_w. installed_below (words_in s) row w on (f.installed w has_w).0;
    floors = λ w is on below. let reached = (f.floors (owner_of workers w) (owner_is w)).reached in
        installed_below (words_in s) row w on
        ((r.words.progress (owner_of workers w) (owner_is w)).below w is.positive
        (omega arith) refl);
    place = λ w is on within. let ends = k.places.ascend v.place (words_in s).visible f.place in
        installed_below (words_in s) row w on (visible_installed s r w is.positive (omega arith));
    heads = all_reached (words_in s) row v.floors v.place v.scheduled v.looks f.looks f.found;
    own = λ w is on within role. let same : (words_in s).head (row_of (names_in log.txns) w)
        ≡ (words_in s).head row = ap (words_in s).head on in
        f.all_installed w (record { write = is; reached = omega arith }) role;
  }
