-- The path of a name, bucket after bucket.
use Rattle.std.proofs.Common.{◌≡◌, ◌≢◌, ◌∙◌, ◌+◌, ◌-◌, ◌≤◌, ◌<◌, ◌++◌, ◌⊎◌, inl, inr, ℕ, zero, suc}
use Rattle.std.proofs.Common.{Bool, true, false, List, [], ◌∷◌, length, get_or, Option, Some, None}
use Rattle.std.proofs.Common.{ap, sym, subst, refl, arith, append_assoc, append-nil, length-append}
use Rattle.std.specs.Prelude.{All, nat_le, if◌then◌else◌}
use borrow.Author.Tests.{leb-true, leb-false, le-leb}
use lib.Dec.{leb}
use Rattle.std.proofs.Math.Nat.{eq-or-lt_of_le}
use Rattle.std.proofs.lemmas.List.Elements.{All-append, All-cons, All-nil, All-get_or}
use Rattle.std.proofs.Math.ListN.{get_or-append}
use Rattle.std.proofs.Math.Seq.{get_or-append_seam}
use Rattle.std.specs.Option.{unwrap_or}
use Rattle.c5_rows.specs.declared.writes.RowName.{RowName}
use Rattle.c5_definitions.specs.WriteNumbers.{names_in, name_at, row_of, IsWrite, IsFirstWrite}
use Rattle.c5_definitions.specs.RowIndex.{bucket_count, start_of, start_of_write, next_bucket}
use Rattle.c5_definitions.specs.RowIndex.{bucket_on_path, first_in_bucket, IsSlot}
use Rattle.c5_definitions.specs.NumberLaws.{RowsAreNumbered}
use Rattle.c5_definitions.specs.IndexLaws.{BucketsSuffice, RowsAreIndexed, LeadsToSlot}
use Rattle.c5_definitions.proofs.IndexLemmas.{path-zero, path-suc, path-shift}
use Rattle.c5_frames.specs.Log.{Log}
use Rattle.c5_frames.specs.Index.{writes_of}
use Rattle.c5_plan.proofs.Sizing.{length-names_in}
use Rattle.c5_board.specs.declared.known.Look.{Look}
use Rattle.c5_board.specs.declared.known.Look.TheVariants.{LoadBucket}
use Rattle.c5_board.specs.Boards.{Board, Pass, names, write_count}
use Rattle.c5_board.specs.Passes.{bucket_up_to, IsSound}
use Rattle.c5_chains.specs.Finds.{IsNumberOfRow, IsAbsent, IsFree}
use Rattle.c5_chains.specs.Paths.{path_loads, buckets_of, start_in, IsOther, FollowsPath, IsOnPath}

-- one load more
path_loads-append : (buckets start : ℕ) (passed : List ℕ) (w : ℕ)
    → path_loads buckets start (passed ++ w ∷ [])
    ≡ path_loads buckets start passed ++ LoadBucket (bucket_on_path buckets start (length passed)) w
    ∷ []
path_loads-append buckets start [] w =
    ap (λ (j : ℕ). LoadBucket j w ∷ []) (sym (path-zero buckets start))
path_loads-append buckets start (x ∷ passed) w =
    ap (λ (rest : List Look). LoadBucket start x ∷ rest)
    (path_loads-append buckets (next_bucket buckets start) passed w
    ∙ ap (λ (j : ℕ). path_loads buckets (next_bucket buckets start) passed ++ LoadBucket j w ∷ [])
    (sym (path-shift buckets start (length passed))))

pub on_path-begin : (old : Pass) (name : RowName)
    → IsOnPath old old name 0 (start_in old.board name)
on_path-begin old name = record {
  passed = [];
  count = refl;
  others = All-nil _;
  words = λ i less. absurd (omega arith);
  bucket = sym (path-zero (buckets_of old.board) (start_in old.board name));
  pass = λ j. record old { looks = sym (append-nil old.looks) j };
}

-- the looks after a load
looks-more : (old now new : Pass) (name : RowName) (k j w : ℕ) (h : IsOnPath old now name k j)
    → new ≡ record now { looks = now.looks ++ LoadBucket j w ∷ [] }
    → new ≡ record old {
      looks = old.looks
          ++ path_loads (buckets_of old.board) (start_in old.board name) (h.passed ++ w ∷ []);
    }
looks-more old now new name k j w h is =
    let at : j ≡ bucket_on_path (buckets_of old.board) (start_in old.board name) (length h.passed) =
    h.bucket ∙ ap (bucket_on_path (buckets_of old.board) (start_in old.board name))
    (sym h.count) in
    is
    ∙ (λ i. record (h.pass i) { looks = (h.pass i).looks ++ LoadBucket j w ∷ [] })
    ∙ (λ i. record old {
      looks = (append_assoc old.looks
          (path_loads (buckets_of old.board) (start_in old.board name) h.passed)
          (LoadBucket j w ∷ [])
          ∙ ap (λ (l : List Look). old.looks ++ l)
          (ap (λ (b : ℕ). path_loads (buckets_of old.board) (start_in old.board name) h.passed
          ++ LoadBucket b w ∷ []) at
          ∙ sym (path_loads-append (buckets_of old.board) (start_in old.board name) h.passed w))) i;
    })

pub on_path-next : (old now new : Pass) (name : RowName) (k j w : ℕ) → IsOnPath old now name k j
    → new ≡ record now { looks = now.looks ++ LoadBucket j w ∷ [] }
    → w ≡ first_in_bucket (names old.board) j
    → IsFirstWrite (names old.board) w → (name_at (names old.board) w ≡ Some name → ⊥)
    → IsOnPath old new name (k + 1) (next_bucket (buckets_of old.board) j)
on_path-next old now new name k j w h is word first other =
    let len = h.count in
    record {
      passed = h.passed ++ w ∷ [];
      count = omega (arith, length-append h.passed (w ∷ []));
      others = All-append (IsOther (names old.board) name) h.passed (w ∷ []) h.others
          (All-cons (IsOther (names old.board) name) w [] (record { first = first; other = other })
          (All-nil (IsOther (names old.board) name)));
      words = λ i less. by i (eq-or-lt_of_le (omega arith));
      bucket = ap (next_bucket (buckets_of old.board)) h.bucket ∙ sym
          (path-suc (buckets_of old.board) (start_in old.board name) k) ∙ ap
          (bucket_on_path (buckets_of old.board) (start_in old.board name))
          (let e : suc k ≡ k + 1 = omega arith in e);
      pass = looks-more old now new name k j w h is;
    }
  where
    by : (i : ℕ) → (i ≡ k) ⊎ (i < k) → get_or (h.passed ++ w ∷ []) i 0
        ≡ first_in_bucket (names old.board)
        (bucket_on_path (buckets_of old.board) (start_in old.board name) i)
    by i (inl e) =
        ap (λ (n : ℕ). get_or (h.passed ++ w ∷ []) n 0)
        (e ∙ sym h.count) ∙ get_or-append_seam h.passed w [] 0 ∙ word ∙ ap
        (first_in_bucket (names old.board))
        (h.bucket ∙ ap (bucket_on_path (buckets_of old.board) (start_in old.board name))
        (sym e))
    by i (inr less) = get_or-append h.passed (w ∷ []) 0 i
        (let l = h.count in omega arith) ∙ h.words i less

pub path-ends : (old now new : Pass) (name : RowName) (k j w : ℕ) (row : Option ℕ)
    → IsOnPath old now name k j → new ≡ record now { looks = now.looks ++ LoadBucket j w ∷ [] }
    → w ≡ unwrap_or row 0 → FollowsPath old new name row
path-ends old now new name k j w row h is e = record {
  passed = h.passed;
  others = h.others;
  pass = looks-more old now new name k j w h is ∙ ap
      (λ (n : ℕ). record old {
        looks = old.looks
            ++ path_loads (buckets_of old.board) (start_in old.board name) (h.passed ++ n ∷ []);
      }) e;
}

start-named : (ns : List RowName) (buckets w : ℕ) (name : RowName) → name_at ns w ≡ Some name
    → start_of_write ns buckets w ≡ start_of buckets name
unfolding start_of_write
start-named ns buckets w name e = λ i. elim (e i) [ None ↦ 0 | Some n ↦ start_of buckets n ]

-- the first write of the name, up to the one after what is scheduled, has its slot where the path
-- is at an empty bucket
module _ (old now : Pass) (name : RowName) (k j w : ℕ) (h : IsOnPath old now name k j)
    (scheduled : first_in_bucket (names old.board) j ≤ old.scheduled
    → w ≡ first_in_bucket (names old.board) j) (is : w ≡ 0) where
  pub slot-place : (f kf : ℕ) → IsFirstWrite (names old.board) f
      → name_at (names old.board) f ≡ Some name → f ≤ old.scheduled + 1
      → LeadsToSlot (names old.board) f kf → kf ≡ k
  slot-place f kf first name_is next leads = by (order k kf)
    where
      same : (i : ℕ) → bucket_on_path (buckets_of old.board)
          (start_of_write (names old.board) (buckets_of old.board) f) i
          ≡ bucket_on_path (buckets_of old.board) (start_in old.board name) i
      same i = ap (λ (s : ℕ). bucket_on_path (buckets_of old.board) s i)
          (start-named (names old.board) (buckets_of old.board) f name name_is)

      order : (a b : ℕ) → (a < b) ⊎ ((b < a) ⊎ (b ≡ a))
      order a b = split (leb b a) refl
        where
          split : (t : Bool) → leb b a ≡ t → (a < b) ⊎ ((b < a) ⊎ (b ≡ a))
          split true t = lower (eq-or-lt_of_le (leb-true b a t))
            where
              lower : (b ≡ a) ⊎ (b < a) → (a < b) ⊎ ((b < a) ⊎ (b ≡ a))
              lower (inl e) = inr (inr e)
              lower (inr less) = inr (inl less)
          split false t = inl (leb-false b a t)

      by : (k < kf) ⊎ ((kf < k) ⊎ (kf ≡ k)) → kf ≡ k
      by (inl less) =
          let at : first_in_bucket (names old.board)
          (bucket_on_path (buckets_of old.board)
          (start_of_write (names old.board) (buckets_of old.board) f) k)
          ≡ first_in_bucket (names old.board) j =
          ap (first_in_bucket (names old.board)) (same k ∙ sym h.bucket) in
          let small = leads.before k less in
          absurd (leads.taken k less (at ∙ sym (scheduled (omega arith)) ∙ is))
      by (inr (inl more)) =
          let word : get_or h.passed kf 0 ≡ f =
          h.words kf more ∙ ap (first_in_bucket (names old.board))
          (sym (same kf)) ∙ leads.slot.holds in
          let other = All-get_or (IsOther (names old.board) name) h.passed kf 0
          (let l = h.count in omega arith) h.others in
          absurd (other.other (ap (name_at (names old.board)) word ∙ name_is))
      by (inr (inr e)) = e

-- where the path is at an empty bucket
pub path-free : (old now : Pass) (name : RowName) (k j w : ℕ) → RowsAreNumbered (names old.board)
    → RowsAreIndexed (names old.board) → IsOnPath old now name k j
    → (first_in_bucket (names old.board) j ≤ old.scheduled
    → w ≡ first_in_bucket (names old.board) j) → w ≡ 0 → IsFree old name j
path-free old now name k j w numbered indexed h scheduled is = record {
  absent = λ v write name_is.
      let row = row_of (names old.board) v in
      let first = numbered.first v write in
      let low = numbered.not_above v in
      let its_name : name_at (names old.board) (row_of (names old.board) v) ≡ Some name =
      numbered.one_name (row_of (names old.board) v) v first.write write first.first ∙ name_is in
      above_scheduled v (λ up_to.
      let path = indexed.path (row_of (names old.board) v) first in
      let place = slot-place old now name k j w h scheduled is
      (row_of (names old.board) v) path.0 first its_name (omega arith) path.1 in
      let some = first.write.positive in
      let holds : first_in_bucket (names old.board) j ≡ row_of (names old.board) v =
      ap (first_in_bucket (names old.board))
      (slot-at (row_of (names old.board) v) its_name path.0 place) ∙ path.1.slot.holds in
      let found = scheduled (omega arith) in
      omega arith);
  slot = λ f first name_is next.
      let path = indexed.path f first in
      let place = slot-place old now name k j w h scheduled is f path.0 first name_is next path.1 in
      subst (IsSlot (names old.board) f) (sym (slot-at f name_is path.0 place)) path.1.slot;
}
  where
    above_scheduled : (v : ℕ) → (v ≤ old.scheduled → ⊥) → old.scheduled < v
    above_scheduled v never = by (leb v old.scheduled) refl
      where
        by : (b : Bool) → leb v old.scheduled ≡ b → old.scheduled < v
        by true e = absurd (never (leb-true v old.scheduled e))
        by false e = leb-false v old.scheduled e

    slot-at : (f : ℕ) → name_at (names old.board) f ≡ Some name → (kf : ℕ) → kf ≡ k
        → j ≡ bucket_on_path (buckets_of old.board)
        (start_of_write (names old.board) (buckets_of old.board) f) kf
    slot-at f name_is kf e = h.bucket ∙
        (λ i. bucket_on_path (buckets_of old.board)
        (sym (start-named (names old.board) (buckets_of old.board) f name name_is) i) (sym e i))

-- no path is of other rows alone
pub path-meets_free : (old now : Pass) (name : RowName) (k j : ℕ)
    → BucketsSuffice (write_count old.board) → RowsAreIndexed (names old.board)
    → IsOnPath old now name k j → buckets_of old.board ≤ k → ⊥
path-meets_free old now name k j suffice indexed h all =
    let free = indexed.ends (start_in old.board name) (suffice.start name) in
    let less : free.0 < k = omega (arith, free.1, all) in
    let word = h.words free.0 less ∙ free.2 in
    let other = All-get_or (IsOther (names old.board) name) h.passed free.0 0
    (let l = h.count in omega arith) h.others in
    let some = other.first.write.positive in
    omega arith

-- a word that the scheduler has found is of the index
pub own-found : (ns : List RowName) (indexed j w : ℕ) → w ≡ bucket_up_to ns indexed j → w ≢ 0
    → w ≤ indexed
own-found ns indexed j w e some = by (leb (first_in_bucket ns j) indexed) refl e
  where
    by : (b : Bool) → leb (first_in_bucket ns j) indexed ≡ b
        → w ≡ (if b then first_in_bucket ns j else 0) → w ≤ indexed
    by true t q = let l = leb-true (first_in_bucket ns j) indexed t in omega arith
    by false t q = absurd (some q)

-- what a load that found a row has found
pub first-found : (p : Pass) (b : Board) (j buckets w : ℕ) → p.board ≡ b
    → RowsAreIndexed (names p.board) → buckets ≡ bucket_count (write_count b) → j < buckets
    → (w ≢ 0 → w ≡ first_in_bucket (names b) j) → (w ≡ 0 → ⊥)
    → (w ≡ first_in_bucket (names p.board) j) × IsFirstWrite (names p.board) w
first-found p b j buckets w of indexed count within found some =
    let word : w ≡ first_in_bucket (names p.board) j =
    subst (λ (x : Board). w ≡ first_in_bucket (names x) j) (sym of) (found some) in
    let less : j < bucket_count (write_count p.board) =
    subst (λ (n : ℕ). j < n)
    (count ∙ ap (λ (x : Board). bucket_count (write_count x)) (sym of)) within in (
      word,
      subst (IsFirstWrite (names p.board)) (sym word)
          (indexed.first j less (λ e. some (word ∙ e))),
    )

-- a load of a bucket whose first write is scheduled has found it
pub scheduled-found : (p now : Pass) (b : Board) (j w : ℕ) → p.board ≡ b
    → now.scheduled ≡ p.scheduled
    → (first_in_bucket (names b) j ≤ now.scheduled → w ≡ first_in_bucket (names b) j)
    → first_in_bucket (names p.board) j ≤ p.scheduled → w ≡ first_in_bucket (names p.board) j
scheduled-found p now b j w of kept found =
    let here : first_in_bucket (names p.board) j ≤ now.scheduled
    → w ≡ first_in_bucket (names p.board) j =
    subst (λ (x : Board). first_in_bucket (names x) j ≤ now.scheduled
    → w ≡ first_in_bucket (names x) j) (sym of) found in
    λ le. here (omega arith)

pub same-names : (p : Pass) (b : Board) (l : Log) → p.board ≡ b → l ≡ b.log
    → names_in l.txns ≡ names p.board
same-names p b l of is = ap (λ (x : Log). names_in x.txns) is ∙ ap names (sym of)

pub within-log : (p : Pass) (l : Log) (w : ℕ) → names_in l.txns ≡ names p.board
    → IsWrite (names p.board) w → (1 ≤ w) × (w ≤ length (writes_of l.txns))
within-log p l w same write =
    let within = write.within in
    let len = ap length same in
    (write.positive, omega (arith, length-names_in l.txns))

-- the row of the name
pub row-found : (p now : Pass) (b : Board) (name : RowName) (j w : ℕ) → p.board ≡ b
    → now.scheduler ≡ p.scheduler → now.indexed ≡ p.indexed → IsFirstWrite (names p.board) w
    → name_at (names p.board) w ≡ Some name
    → (now.scheduler ≡ true → w ≡ bucket_up_to (names b) now.indexed j) → IsNumberOfRow p name w
row-found p now b name j w of role kept first name_is own = record {
  first = first;
  name_is = name_is;
  own = λ s.
      let here = own-found (names b) now.indexed j w (own (role ∙ s))
      (λ e. let some = first.write.positive in absurd (omega arith)) in
      omega arith;
}
