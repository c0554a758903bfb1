-- Replies of sessions, one session after the other.
use Rattle.std.proofs.Common.{◌≡◌, ◌∙◌, ◌+◌, ◌≤◌, ◌<◌, ◌==◌, ◌++◌, ℕ, zero, suc, Bool, true, false}
use Rattle.std.proofs.Common.{cond, List, [], ◌∷◌, length, map, ap, sym, subst, refl, arith, rules}
use Rattle.std.proofs.Common.{eq-eqb, Some, slice_get, get_or, drop, max, ⊎_elim, ◌-◌}
use Rattle.std.specs.List.{AllByRecursion, filter, flat_map, range_with_len, zip}
use Rattle.std.proofs.Math.Seq.{drop-cons}
use Rattle.std.proofs.lemmas.Bool.{eqb-true, cases_lt}
use Rattle.std.proofs.lemmas.List.{append_assoc, append-nil, length-append, map-append}
use Rattle.std.proofs.lemmas.List.Concat.{flat_map-cons}
use Rattle.std.proofs.lemmas.List.Elements.{filter-append}
use Rattle.std.proofs.lemmas.Grind.{flat_map-append}
use mathlib.Core.Logic.{dite}
use native.Mathlib.Decide.{ℕ_discrete}
use Rattle.c5_rows.specs.Sizes.{max_sessions}
use Rattle.c5_rows.specs.State.{State}
use Rattle.c5_rows.specs.declared.answer.Reply.{Reply}
use Rattle.c5_rows.specs.declared.writes.Txn.{Txn}
use Rattle.c5_definitions.specs.Replies.{AreLawfulPlaces, PlacesNeverFall, reads_of_session}
use Rattle.c5_definitions.specs.Replies.{reply_at, replies_at}
use Rattle.c5_definitions.specs.ScriptParts.{ReadParts}
use Rattle.c5_frames.specs.Log.{Log}
use Rattle.c5_board.specs.declared.known.Look.{Look}
use Rattle.c5_board.specs.Boards.{Board, Pass, IsWorker}
use Rattle.c5_board.specs.Parts.{joined}
use Rattle.c5_board.proofs.SetLemmas.{not_true}
use Rattle.c5_reads.specs.Looks.{Wanted, AreWithin}
use Rattle.c5_replay.specs.Answered.{places_of, replies_of_session, loads_of_reads, AreAnswered}
use Rattle.c5_replay.specs.Answered.{HasAnswered}
use Rattle.c5_replay.specs.Parts.{HaveSessionsUpTo}
use Rattle.c5_replay.specs.Replays.{HasLoadedReads}
use Rattle.c5_replay.specs.Joins.{IsJoined, HaveReplied, reads_up_to}
use Rattle.c5_replay.proofs.Within.{within-front, within-back, all-append, all-mono, zip-append}

pub all-imply : {X : Type 0} (P Q : X → Type 0) → ((x : X) → P x → Q x) → (xs : List X)
    → AllByRecursion P xs → AllByRecursion Q xs
all-imply P Q f [] h = tt
all-imply P Q f (x ∷ xs) h = (f x h.0, all-imply P Q f xs h.1)

all-first : {X Y : Type 0} (P : X → Type 0) (xs : List X) (ys : List Y) → AllByRecursion P xs
    → AllByRecursion (λ (p : X × Y). P p.0) (zip xs ys)
all-first P [] ys h = tt
all-first P (x ∷ xs) [] h = tt
all-first P (x ∷ xs) (y ∷ ys) h = (h.0, all-first P xs ys h.1)

-- ---- the reads of sessions

of-step : (k : ℕ) (r : ReadParts) (rest : List ReadParts) (b : Bool) → (r.session == k) ≡ b
    → AllByRecursion (λ (x : ReadParts). x.session ≡ k) rest
    → AllByRecursion (λ (x : ReadParts). x.session ≡ k) (cond b (r ∷ rest) rest)
of-step k r rest true e h = (eqb-true r.session k e, h)
of-step k r rest false e h = h

pub sessions-of : (reads : List ReadParts) (k : ℕ)
    → AllByRecursion (λ (x : ReadParts). x.session ≡ k) (reads_of_session reads k)
sessions-of [] k = tt
sessions-of (r ∷ reads) k = of-step k r (reads_of_session reads k) (r.session == k) refl
    (sessions-of reads k)

range-more : (a n : ℕ) → range_with_len a (suc n) ≡ range_with_len a n ++ (a + n) ∷ []
range-more a zero = ap (λ (k : ℕ). k ∷ []) (let e : a ≡ a + 0 = omega arith in e)
range-more a (suc n) =
    let e : (a + 1) + n ≡ a + suc n = omega arith in
    ap (λ (l : List ℕ). a ∷ l)
    (range-more (a + 1) n ∙ ap (λ (k : ℕ). range_with_len (a + 1) n ++ k ∷ []) e)

pub reads-more : (reads : List ReadParts) (n i : ℕ) → n + 1 ≡ i
    → reads_up_to reads i ≡ reads_up_to reads n ++ reads_of_session reads i
reads-more reads n i e =
    let f = reads_of_session reads in
    let at : i ≡ suc n = omega arith in
    let last : 1 + n ≡ i = omega arith in
    ap (λ (k : ℕ). flat_map f (range_with_len 1 k)) at ∙ ap (λ (l : List ℕ). flat_map f l)
    (range-more 1 n) ∙ flat_map-append f (range_with_len 1 n) ((1 + n) ∷ [])
    ∙ ap (λ (l : List ReadParts). reads_up_to reads n ++ l)
    (flat_map-cons f (1 + n) [] ∙ append-nil (f (1 + n))) ∙ ap
    (λ (k : ℕ). reads_up_to reads n ++ f k) last

sessions-from : (reads : List ReadParts) (a n : ℕ)
    → AllByRecursion (λ (x : ReadParts). x.session < a + n)
    (flat_map (reads_of_session reads) (range_with_len a n))
sessions-from reads a zero = tt
sessions-from reads a (suc n) =
    subst (AllByRecursion (λ (x : ReadParts). x.session < a + suc n))
    (sym (flat_map-cons (reads_of_session reads) a (range_with_len (a + 1) n)))
    (all-append (λ (x : ReadParts). x.session < a + suc n) (reads_of_session reads a)
    (flat_map (reads_of_session reads) (range_with_len (a + 1) n))
    (all-imply (λ (x : ReadParts). x.session ≡ a) (λ (x : ReadParts). x.session < a + suc n)
    (λ x e. omega (arith, e)) (reads_of_session reads a) (sessions-of reads a))
    (all-imply (λ (x : ReadParts). x.session < (a + 1) + n)
    (λ (x : ReadParts). x.session < a + suc n) (λ x e. omega (arith, e))
    (flat_map (reads_of_session reads) (range_with_len (a + 1) n))
    (sessions-from reads (a + 1) n)))

-- ---- the replies of sessions

fall-append : (n : ℕ) (ps qs : List (ReadParts × ℕ)) → PlacesNeverFall ps → PlacesNeverFall qs
    → AllByRecursion (λ (p : ReadParts × ℕ). p.0.session ≤ n) ps
    → AllByRecursion (λ (p : ReadParts × ℕ). n < p.0.session) qs → PlacesNeverFall (ps ++ qs)
fall-append n [] qs h k low high = k
fall-append n ((r, q) ∷ ps) qs h k low high = (
  all-append (λ (next : ReadParts × ℕ). next.0.session ≡ r.session → q ≤ next.1) ps qs h.0
      (all-imply (λ (p : ReadParts × ℕ). n < p.0.session)
      (λ (next : ReadParts × ℕ). next.0.session ≡ r.session → q ≤ next.1)
      (λ x less same. absurd (let l = low.0 in omega arith)) qs high),
  fall-append n ps qs h.1 k low.1 high,
)

replied-sessions : (Q : ℕ → Type 0) (start : State) (txns : List Txn) (reads : List ReadParts)
    (places : List ℕ) → AllByRecursion (λ (x : ReadParts). Q x.session) reads
    → AllByRecursion (λ (x : Reply). Q x.session) (replies_at start txns reads places)
replied-sessions Q start txns [] places h = tt
replied-sessions Q start txns (r ∷ reads) [] h = tt
replied-sessions Q start txns (r ∷ reads) (p ∷ places) h =
    (h.0, replied-sessions Q start txns reads places h.1)

filter-all : (k : ℕ) (xs : List Reply) → AllByRecursion (λ (x : Reply). x.session ≡ k) xs
    → replies_of_session xs k ≡ xs
filter-all k [] h = refl
filter-all k (x ∷ xs) h =
    ap (λ (b : Bool). cond b (x ∷ replies_of_session xs k) (replies_of_session xs k))
    (eq-eqb x.session k h.0) ∙ ap (λ (l : List Reply). x ∷ l) (filter-all k xs h.1)

filter-none : (k : ℕ) (xs : List Reply) → AllByRecursion (λ (x : Reply). x.session ≡ k → ⊥) xs
    → replies_of_session xs k ≡ []
filter-none k [] h = refl
filter-none k (x ∷ xs) h =
    ap (λ (b : Bool). cond b (x ∷ replies_of_session xs k) (replies_of_session xs k))
    (not_true (x.session == k) (λ t. h.0 (eqb-true x.session k t))) ∙ filter-none k xs h.1

answered-append : (log : Log) (start : State) (ra rb : List ReadParts) (xs ys : List Reply) (n : ℕ)
    → AreAnswered log start ra xs → AreAnswered log start rb ys
    → AllByRecursion (λ (x : ReadParts). x.session ≤ n) ra
    → AllByRecursion (λ (x : ReadParts). n < x.session) rb
    → AreAnswered log start (ra ++ rb) (xs ++ ys)
answered-append log start ra rb xs ys n h k low high =
    let us = places_of xs in
    let vs = places_of ys in
    let now : places_of (xs ++ ys) ≡ us ++ vs = map-append (λ (r : Reply). r.place) xs ys in
    let zipped : zip (ra ++ rb) (us ++ vs) ≡ zip ra us ++ zip rb vs =
    zip-append ra rb us vs h.lawful.one_each in
    let lawful : AreLawfulPlaces (ra ++ rb) (length log.txns) (us ++ vs) = record {
      one_each = length-append us vs ∙ (λ t. h.lawful.one_each t + k.lawful.one_each t) ∙ sym
          (length-append ra rb);
      within = all-append (λ (x : ℕ). x ≤ length log.txns) us vs h.lawful.within k.lawful.within;
      never_fall = subst PlacesNeverFall (sym zipped)
          (fall-append n (zip ra us) (zip rb vs) h.lawful.never_fall k.lawful.never_fall
          (all-first (λ (x : ReadParts). x.session ≤ n) ra us low)
          (all-first (λ (x : ReadParts). n < x.session) rb vs high));
    } in
    let g : ReadParts × ℕ → Reply = λ x. reply_at start log.txns x.0 x.1 in
    let replied : xs ++ ys ≡ replies_at start log.txns (ra ++ rb) (us ++ vs) =
    (λ t. h.replied t ++ k.replied t) ∙ sym
    (ap (λ (l : List (ReadParts × ℕ)). map g l) zipped ∙ map-append g (zip ra us) (zip rb vs))
    in
    record {
      lawful = subst (AreLawfulPlaces (ra ++ rb) (length log.txns)) (sym now) lawful;
      replied = subst (λ (l : List ℕ). xs ++ ys ≡ replies_at start log.txns (ra ++ rb) l)
          (sym now) replied;
    }

pub replied-none : (p : Pass) (start : State) (reads : List ReadParts)
    → HaveReplied p start reads 0 []
replied-none p start reads =
    record {
      answered = record {
        lawful = record { one_each = refl; within = tt; never_fall = tt };
        replied = refl;
      };
      loads = λ s w. absurd (let a = w.0 in let b = w.1 in omega arith);
    }

pub replied-next : (p : Pass) (start : State) (reads : List ReadParts) (n i : ℕ)
    (replies more : List Reply) → HaveReplied p start reads n replies → n + 1 ≡ i
    → HasAnswered p start (reads_of_session reads i) more
    → HaveReplied p start reads i (replies ++ more)
replied-next p start reads n i replies more h next own =
    let low : AllByRecursion (λ (x : ReadParts). x.session ≤ n) (reads_up_to reads n) =
    all-imply (λ (x : ReadParts). x.session < 1 + n) (λ (x : ReadParts). x.session ≤ n)
    (λ x e. omega (arith, e)) (reads_up_to reads n) (sessions-from reads 1 n) in
    let are : AllByRecursion (λ (x : ReadParts). x.session ≡ i) (reads_of_session reads i) =
    sessions-of reads i in
    let high : AllByRecursion (λ (x : ReadParts). n < x.session) (reads_of_session reads i) =
    all-imply (λ (x : ReadParts). x.session ≡ i) (λ (x : ReadParts). n < x.session)
    (λ x e. omega (arith, e)) (reads_of_session reads i) are in
    let old_low : AllByRecursion (λ (x : Reply). x.session ≤ n) replies =
    subst (AllByRecursion (λ (x : Reply). x.session ≤ n)) (sym h.answered.replied)
    (replied-sessions (λ s. s ≤ n) start p.board.log.txns (reads_up_to reads n)
    (places_of replies) low) in
    let new_are : AllByRecursion (λ (x : Reply). x.session ≡ i) more =
    subst (AllByRecursion (λ (x : Reply). x.session ≡ i)) (sym own.answered.replied)
    (replied-sessions (λ s. s ≡ i) start p.board.log.txns (reads_of_session reads i)
    (places_of more) are) in
    let txns = p.board.log.txns in
    let test : ℕ → Reply → Bool = λ s x. x.session == s in
    record {
      answered = subst (λ (l : List ReadParts). AreAnswered p.board.log start l (replies ++ more))
          (sym (reads-more reads n i next))
          (answered-append p.board.log start (reads_up_to reads n)
          (reads_of_session reads i) replies more n h.answered own.answered low high);
      loads = λ s w. dite (ℕ_discrete s i)
          (λ e.
          let none : replies_of_session replies s ≡ [] =
          filter-none s replies
          (all-imply (λ (x : Reply). x.session ≤ n) (λ (x : Reply). x.session ≡ s → ⊥)
          (λ x l same. absurd (omega arith)) replies old_low) in
          let all : replies_of_session more s ≡ more =
          filter-all s more
          (all-imply (λ (x : Reply). x.session ≡ i) (λ (x : Reply). x.session ≡ s)
          (λ x l. l ∙ sym e) more new_are) in
          let is : replies_of_session (replies ++ more) s ≡ more =
          filter-append (test s) replies more ∙ (λ t. none t ++ all t) in
          subst (λ (z : ℕ × List Reply). AreWithin
          (loads_of_reads txns (reads_of_session reads z.0) (places_of z.1)) p.looks)
          (λ t. (sym e t, sym is t)) own.loads)
          (λ ne.
          let none : replies_of_session more s ≡ [] =
          filter-none s more
          (all-imply (λ (x : Reply). x.session ≡ i) (λ (x : Reply). x.session ≡ s → ⊥)
          (λ x l same1. ne (sym same1 ∙ l)) more new_are) in
          let is : replies_of_session (replies ++ more) s ≡ replies_of_session replies s =
          filter-append (test s) replies more ∙ ap
          (λ (l : List Reply). replies_of_session replies s ++ l) none ∙ append-nil
          (replies_of_session replies s) in
          let less : s ≤ n = (let u = w.1 in omega arith) in
          subst (λ (l : List Reply). AreWithin
          (loads_of_reads txns (reads_of_session reads s) (places_of l)) p.looks)
          (sym is) (h.loads s (w.0, less)));
    }

pub replied-more : (a b : Pass) (start : State) (reads : List ReadParts) (n i : ℕ)
    (replies more : List Reply) → HaveReplied a start reads n replies → n + 1 ≡ i
    → b.board ≡ a.board
    → HasAnswered b start (reads_of_session reads i) more
    → HaveReplied (joined a b) start reads i (replies ++ more)
replied-more a b start reads n i replies more h next same own =
    replied-next (joined a b) start reads n i replies more before next after
  where
    before : HaveReplied (joined a b) start reads n replies
    before = record {
      answered = h.answered;
      loads = λ s w. within-front
          (loads_of_reads a.board.log.txns (reads_of_session reads s)
          (places_of (replies_of_session replies s))) a.looks b.looks (h.loads s w);
    }

    after : HasAnswered (joined a b) start (reads_of_session reads i) more
    after = record {
      answered = subst
          (λ (x : Board). AreAnswered x.log start (reads_of_session reads i) more) same
          own.answered;
      reached = all-mono b.place (max a.place b.place) (omega arith) (places_of more) own.reached;
      loads = within-back
          (loads_of_reads a.board.log.txns (reads_of_session reads i) (places_of more)) a.looks
          b.looks
          (subst (λ (x : Board). AreWithin
          (loads_of_reads x.log.txns (reads_of_session reads i) (places_of more)) b.looks) same
          own.loads);
    }

-- the loads are still among the looks of a pass with more looks
pub loaded-later : (a b : Pass) (reads : List ReadParts) (replies : List Reply) (more : List Look)
    (session : ℕ) → HasLoadedReads a reads replies session → b.board ≡ a.board
    → b.looks ≡ a.looks ++ more → HasLoadedReads b reads replies session
loaded-later a b reads replies more session h same looks =
    subst (λ (z : Board × List Look). AreWithin
    (loads_of_reads z.0.log.txns (reads_of_session reads session)
    (places_of (replies_of_session replies session))) z.1) (λ t. (sym same t, sym looks t))
    (within-front
    (loads_of_reads a.board.log.txns (reads_of_session reads session)
    (places_of (replies_of_session replies session))) a.looks more h)

pub replied-later : (a b : Pass) (start : State) (reads : List ReadParts) (n : ℕ)
    (replies : List Reply) → HaveReplied a start reads n replies → IsJoined a b
    → HaveReplied b start reads n replies
replied-later a b start reads n replies h j = record {
  answered = subst (λ (x : Board). AreAnswered x.log start (reads_up_to reads n) replies)
      (sym j.of_board) h.answered;
  loads = λ s w. loaded-later a b reads replies j.more s (h.loads s w) j.of_board j.looks_more;
}

-- ---- a read is taken off those that are left

drop-at : (reads : List ReadParts) (k : ℕ) (read : ReadParts) → slice_get reads k ≡ Some read
    → drop k reads ≡ read ∷ drop (k + 1) reads
drop-at [] k read at = (let e = at in search rules)
drop-at (x ∷ reads) zero read at = ap (λ (y : ReadParts). y ∷ reads) (let e = at in search rules)
drop-at (x ∷ reads) (suc k) read at =
    let e : suc k + 1 ≡ suc (k + 1) = omega arith in
    drop-at reads k read at ∙ ap (λ (j : ℕ). read ∷ drop j (x ∷ reads)) (sym e)

pub read-taken : (reads : List ReadParts) (k number : ℕ) (read : ReadParts) (done : List ReadParts)
    → slice_get reads k ≡ Some read → read.session ≡ number
    → done ++ reads_of_session (drop k reads) number ≡ reads_of_session reads number
    → (done ++ read ∷ []) ++ reads_of_session (drop (k + 1) reads) number
    ≡ reads_of_session reads number
read-taken reads k number read done at same h =
    let rest = reads_of_session (drop (k + 1) reads) number in
    let here : reads_of_session (drop k reads) number ≡ read ∷ rest =
    ap (λ (l : List ReadParts). reads_of_session l number) (drop-at reads k read at) ∙ ap
    (λ (b : Bool). cond b (read ∷ rest) rest) (eq-eqb read.session number same) in
    append_assoc done (read ∷ []) rest ∙ (ap (λ (l : List ReadParts). done ++ l) (sym here) ∙ h)

-- ---- sessions without reads

-- one read more that isn't of a later session
pub sessions-next : (reads : List ReadParts) (i k : ℕ) (read : ReadParts) → i < length reads
    → read ≡ get_or reads i read → read.session ≤ k → HaveSessionsUpTo k (drop (i + 1) reads)
    → HaveSessionsUpTo k (drop i reads)
sessions-next reads i k read within is low rest =
    let next : i + 1 ≡ suc i = omega arith in
    subst (HaveSessionsUpTo k)
    (sym
    (drop-cons reads i read within ∙ ap (λ (r : ReadParts). r ∷ drop (suc i) reads) (sym is)))
    (low, subst (λ (m : ℕ). HaveSessionsUpTo k (drop m reads)) next rest)

no-reads : (reads : List ReadParts) (n session : ℕ) → HaveSessionsUpTo n reads → n < session
    → reads_of_session reads session ≡ []
no-reads [] n session all above = refl
no-reads (r ∷ reads) n session all above =
    ap
    (λ (b : Bool).
    cond b (r ∷ reads_of_session reads session) (reads_of_session reads session))
    (not_true (r.session == session)
    (λ t. let low = all.0 in let same = eqb-true r.session session t in omega arith))
    ∙ no-reads reads n session all.1 above

-- later sessions have no reads
no-more-reads : (reads : List ReadParts) (n k : ℕ) → HaveSessionsUpTo n reads
    → reads_up_to reads n ≡ reads_up_to reads (n + k)
no-more-reads reads n zero all = ap (reads_up_to reads) (omega arith)
no-more-reads reads n (suc k) all =
    no-more-reads reads n k all
    ∙ sym
    (reads-more reads (n + k) (n + suc k) (omega arith)
    ∙ ap (λ (l : List ReadParts). reads_up_to reads (n + k) ++ l)
    (no-reads reads n (n + suc k) all (omega arith)) ∙ append-nil (reads_up_to reads (n + k)))

pub replied-all : (p : Pass) (start : State) (reads : List ReadParts) (n : ℕ)
    (replies : List Reply) → n ≤ max_sessions → HaveSessionsUpTo n reads
    → HaveReplied p start reads n replies → HaveReplied p start reads max_sessions replies
replied-all p start reads n replies few all so_far = record {
  answered = subst (λ (rs : List ReadParts). AreAnswered p.board.log start rs replies)
      (no-more-reads reads n (max_sessions - n) all
      ∙ ap (reads_up_to reads) (let e : n + (max_sessions - n) ≡ max_sessions = omega arith in e))
      so_far.answered;
  loads = λ session is. ⊎_elim
      (λ (above : n < session).
      subst
      (λ (rs : List ReadParts). AreWithin
      (loads_of_reads p.board.log.txns rs (places_of (replies_of_session replies session))) p.looks)
      (sym (no-reads reads n session all above)) tt)
      (λ (low : session ≤ n). so_far.loads session (is.0, low)) (cases_lt n session);
}
