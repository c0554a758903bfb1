-- What a pass has looked at.
use Rattle.std.proofs.Common.{◌≡◌, ◌≢◌, ◌∙◌, ◌==◌, ◌≤◌, ◌<◌, inl, inr, ℕ, zero, suc, Bool, true}
use Rattle.std.proofs.Common.{false, if◌then◌else◌, List, [], ◌∷◌, ◌++◌, max, Option, Some, None}
use Rattle.std.proofs.Common.{ap, sym, subst, refl, arith, append_assoc, map}
use Rattle.std.specs.List.{flat_map}
use Rattle.std.specs.Option.{unwrap_or}
use mathlib.Core.Logic.{dite}
use native.Mathlib.Decide.{ℕ_discrete, dec_le}
use Rattle.c5_rows.specs.declared.writes.RowName.{RowName}
use Rattle.c5_definitions.specs.Searches.{least_up_to}
use Rattle.c5_definitions.specs.WriteNumbers.{names_in, name_at, are_one, are_on_one_row, row_of}
use Rattle.c5_definitions.specs.WriteNumbers.{end_of, IsWrite, IsFirstWrite}
use Rattle.c5_definitions.proofs.SearchLemmas.{least-found, least-passes, least-not_above}
use Rattle.c5_board.specs.declared.known.Look.{Look}
use Rattle.c5_board.specs.declared.known.Look.TheVariants.{LoadHead, LoadRecord}
use Rattle.c5_board.specs.declared.known.Record.{Record}
use Rattle.c5_board.specs.Boards.{Board, Pass, names, record_of}
use Rattle.c5_board.specs.Loads.{AreLoads}
use Rattle.c5_board.proofs.LoadLemmas.{loads-append, records-load}
use Rattle.c5_chains.proofs.PathLoads.{path-loads}
use Rattle.c5_chains.specs.Chains.{FollowsRow, numbers_above}
use Rattle.c5_chains.specs.Finds.{IsNumberOfRow, IsAbsent}
use Rattle.c5_chains.specs.Paths.{FollowsPath, path_loads, buckets_of, start_in}
use Rattle.c5_reads.specs.Looks.{Wanted, head, link, AreWithin, row_up_to, head_load, head_loads}
use Rattle.c5_reads.specs.Looks.{loads_of_write, loads_of_rows, OnlyLooks, LooksForNames}
use Rattle.c5_reads.specs.Looks.{LooksForRows}
use Rattle.c5_reads.specs.Filling.{LooksForWrite, LooksForWrites}
use Rattle.c5_reads.proofs.LastWrites.{has_name, named_from, has_own_name, write_named}

-- ---- loads within looks

within-after : (loads : List Wanted) (before looks : List Look) → AreWithin loads looks
    → AreWithin loads (before ++ looks)
within-after loads [] looks h = h
within-after [] (look ∷ before) looks h = tt
within-after (load ∷ loads) (look ∷ before) looks h =
    inr (within-after (load ∷ loads) before looks h)

pub within-joined : (a b : List Wanted) (looks more : List Look) → AreWithin a looks
    → AreWithin b more → AreWithin (a ++ b) (looks ++ more)
within-joined [] b looks more h k = within-after b looks more k
within-joined (load ∷ a) b [] more h k = absurd h
within-joined (load ∷ a) b (look ∷ looks) more (inl h) k =
    inl (h.0, within-joined a b looks more h.1 k)
within-joined (load ∷ a) b (look ∷ looks) more (inr h) k =
    inr (within-joined (load ∷ a) b looks more h k)

loads-joined : (f : RowName → List Wanted) (xs ys : List RowName)
    → flat_map f (xs ++ ys) ≡ flat_map f xs ++ flat_map f ys
loads-joined f [] ys = refl
loads-joined f (x ∷ xs) ys = ap (λ rest. f x ++ rest) (loads-joined f xs ys) ∙ sym
    (append_assoc (f x) (flat_map f xs) (flat_map f ys))

-- ---- looks alone

nothing_more : (looks : List Look) → looks ≡ looks ++ []
nothing_more [] = refl
nothing_more (look ∷ looks) = ap (λ rest. look ∷ rest) (nothing_more looks)

pub only-none : (p : Pass) → OnlyLooks p p
only-none p = record {
  more = [];
  pass = ap (λ (looks : List Look). record p { looks = looks }) (nothing_more p.looks);
  rises = omega arith;
  loads = tt;
}

pub only-more : (p q : Pass) (scheduled : ℕ) (more : List Look) → AreLoads more
    → p.scheduled ≤ scheduled → q ≡ record p { scheduled = scheduled; looks = p.looks ++ more }
    → OnlyLooks p q
only-more p q scheduled more loads rises e =
    let same = ap (λ (x : Pass). x.scheduled) e in
    record {
      more = more;
      pass = e ∙ ap (λ (s : ℕ). record p { scheduled = s; looks = p.looks ++ more }) (sym same);
      rises = subst (λ (s : ℕ). p.scheduled ≤ s) (sym same) rises;
      loads = loads;
    }

pub only-then : (p q r : Pass) → OnlyLooks p q → OnlyLooks q r → OnlyLooks p r
only-then p q r a b = record {
  more = a.more ++ b.more;
  pass = b.pass ∙ ap
      (λ (x : Pass). record x { scheduled = r.scheduled; looks = x.looks ++ b.more }) a.pass
      ∙ ap (λ (looks : List Look). record p { scheduled = r.scheduled; looks = looks })
      (append_assoc p.looks a.more b.more);
  rises = let x = a.rises in let y = b.rises in omega arith;
  loads = loads-append a.more b.more a.loads b.loads;
}

pub only-board : (p q : Pass) → OnlyLooks p q → q.board ≡ p.board
only-board p q a = ap (λ (x : Pass). x.board) a.pass

pub only-place : (p q : Pass) → OnlyLooks p q → q.place ≡ p.place
only-place p q a = ap (λ (x : Pass). x.place) a.pass

-- ---- looks for names

pub for-none : (p : Pass) (place : ℕ) → LooksForNames p p [] place
for-none p place = record { more = []; added = nothing_more p.looks; within = tt }

pub for-then : (p q r : Pass) (xs ys : List RowName) (place : ℕ) → q.board ≡ p.board
    → LooksForNames p q xs place → LooksForNames q r ys place → LooksForNames p r (xs ++ ys) place
for-then p q r xs ys place same a b =
    let f = λ (name : RowName). head_load
    (row_up_to (names_in p.board.log.txns) name (end_of p.board.log.txns place)) in
    record {
      more = a.more ++ b.more;
      added = b.added ∙ ap (λ (looks : List Look). looks
          ++ b.more) a.added ∙ append_assoc p.looks a.more b.more;
      within = subst (λ (loads : List Wanted). AreWithin loads (a.more ++ b.more))
          (sym (loads-joined f xs ys))
          (within-joined (flat_map f xs) (flat_map f ys) a.more b.more a.within
          (subst (λ (board : Board). AreWithin (head_loads board.log.txns ys place) b.more) same
          b.within));
    }

-- ---- one name

-- a row has a write up to the end only if the search finds its number
pub found-is-row : (names : List RowName) (name : RowName) (row end : ℕ) → IsFirstWrite names row
    → name_at names row ≡ Some name → row_up_to names name end ≢ 0 → row_up_to names name end ≡ row
unfolding row_of are_on_one_row
found-is-row names name row end first name_is some =
    let test = has_name names name in
    let k = least_up_to test end in
    let own : test row ≡ true = has_own_name (name_at names row) name name_is in
    let least : least_up_to test row ≡ row =
    ap (λ (o : Option RowName). least_up_to (λ v. are_one (name_at names v) o) row)
    (sym name_is) ∙ first.first in
    let passes : test k ≡ true = least-passes test end some in
    let most : k ≤ end = least-not_above test end in
    let positive : 1 ≤ k = let z = some in omega arith in
    elim (dec_le k row) [
      | yes le ↦ let low = (least-found test row k positive le passes).1 in
          elim (dec_le row end) [
            | yes in_ ↦ let high = (least-found test end row first.write.positive in_ own).1 in
                omega arith
            | no out ↦ omega arith
          ]
      | no gt ↦ let high = (least-found test end row first.write.positive (omega arith) own).1 in
          absurd (omega arith)
    ]

pub none-found : (names : List RowName) (name : RowName) (end : ℕ)
    → ((w : ℕ) → IsWrite names w → name_at names w ≡ Some name → end < w)
    → row_up_to names name end ≡ 0
none-found names name end later = dite (ℕ_discrete (row_up_to names name end) 0)
    (λ e. e)
    (λ some.
    let at = named_from (name_at names (row_up_to names name end)) name
    (least-passes (has_name names name) end some) in
    let above = later (row_up_to names name end)
    (write_named names (row_up_to names name end) name at) at in
    let below = least-not_above (has_name names name) end in
    absurd (omega arith))

head-within : (k row : ℕ) (before looks : List Look) (found : ℕ) → (k ≢ 0 → k ≡ row)
    → AreWithin (head_load k ++ []) (before ++ LoadHead row found ∷ looks)
head-within zero row before looks found same =
    within-after [] before (LoadHead row found ∷ looks) tt
head-within (suc n) row before looks found same =
    within-after (head (suc n) ∷ []) before (LoadHead row found ∷ looks)
    (inl (sym (same (λ e. absurd (omega arith))), tt))

pub only-path : (p q : Pass) (name : RowName) (row : Option ℕ) → FollowsPath p q name row
    → OnlyLooks p q
only-path p q name row path = only-more p q p.scheduled
    (path_loads (buckets_of p.board) (start_in p.board name) (path.passed ++ unwrap_or row 0 ∷ []))
    (path-loads (buckets_of p.board) (start_in p.board name) (path.passed ++ unwrap_or row 0 ∷ []))
    (omega arith) path.pass

pub only-row : (p q : Pass) (row end : ℕ) → FollowsRow p q row end → OnlyLooks p q
only-row p q row end down = only-more p q (max p.scheduled down.head)
    (LoadHead row down.head ∷ map (λ w. LoadRecord w (record_of (names p.board) w))
    (numbers_above (names p.board) row end down.head))
    (tt, records-load (record_of (names p.board)) (numbers_above (names p.board) row end down.head))
    (omega arith) down.pass

pub for-found : (p q r : Pass) (name : RowName) (row end place : ℕ) → IsNumberOfRow p name row
    → FollowsPath p q name (Some row) → FollowsRow q r row end → LooksForNames p r (name ∷ []) place
for-found p q r name row end place is path down =
    let loads = path_loads (buckets_of p.board) (start_in p.board name) (path.passed ++ row ∷ []) in
    let records = map (λ w. LoadRecord w (record_of (names q.board) w))
    (numbers_above (names q.board) row end down.head) in
    let last = end_of p.board.log.txns place in
    record {
      more = loads ++ LoadHead row down.head ∷ records;
      added = ap (λ (x : Pass). x.looks) down.pass ∙ ap
          (λ (x : Pass). x.looks ++ (LoadHead row down.head ∷ records)) path.pass
          ∙ append_assoc p.looks loads (LoadHead row down.head ∷ records);
      within = head-within
          (row_up_to (names p.board) name last) row loads records down.head
          (found-is-row (names p.board) name row last is.first is.name_is);
    }

pub for-absent : (p q : Pass) (name : RowName) (place : ℕ) → IsAbsent p name
    → end_of p.board.log.txns place ≤ p.scheduled → FollowsPath p q name None
    → LooksForNames p q (name ∷ []) place
for-absent p q name place absent le path =
    let loads = path_loads (buckets_of p.board) (start_in p.board name) (path.passed ++ 0 ∷ []) in
    let none = none-found (names p.board) name (end_of p.board.log.txns place)
    (λ w is at. let h = absent w is at in omega arith) in
    record {
      more = loads;
      added = ap (λ (x : Pass). x.looks) path.pass;
      within = subst (λ (k : ℕ). AreWithin (head_load k ++ []) loads) (sym none) tt;
    }

-- ---- names after names

pub looks-step : (first now after : Pass) (all left step rest : List RowName) (place : ℕ)
    → left ≡ step ++ rest → after.board ≡ now.board
    → ((new : Pass) → LooksForNames now new left place → LooksForNames first new all place)
    → LooksForNames now after step place → (new : Pass) → LooksForNames after new rest place
    → LooksForNames first new all place
looks-step first now after all left step rest place e same h made new more =
    h new (subst (λ (names : List RowName). LooksForNames now new names place) (sym e)
    (for-then now after new step rest place same made more))

pub looks-end : (first now : Pass) (all left : List RowName) (place : ℕ) → left ≡ []
    → ((new : Pass) → LooksForNames now new left place → LooksForNames first new all place)
    → LooksForNames first now all place
looks-end first now all left place e h =
    h now (subst (λ (names : List RowName). LooksForNames now now names place) (sym e)
    (for-none now place))

-- ---- write after write

within-again : (names : List RowName) (w : ℕ) (found : Record) → (row_of names w == w) ≡ false
    → AreWithin (loads_of_write names w) (LoadRecord w found ∷ [])
within-again names w found other =
    subst (λ (b : Bool). AreWithin (link w ∷ (if b then head w ∷ [] else []))
    (LoadRecord w found ∷ [])) (sym other) (inl (refl, tt))

within-first : (w : ℕ) (b : Bool) (found : Record) (seen : ℕ) (rest : List Look)
    → AreWithin (link w ∷ (if b then head w ∷ [] else []))
    (LoadRecord w found ∷ LoadHead w seen ∷ rest)
within-first w true found seen rest = inl (refl, inl (refl, tt))
within-first w false found seen rest = inl (refl, tt)

pub for-again : (p q : Pass) (board : Board) (w : ℕ) → p.board ≡ board
    → (row_of (names board) w == w) ≡ false
    → q ≡ record p { looks = p.looks ++ LoadRecord w (record_of (names board) w) ∷ [] }
    → LooksForWrite p q w
for-again p q board w same other made = record {
  more = LoadRecord w (record_of (names board) w) ∷ [];
  added = ap (λ (x : Pass). x.looks) made;
  within = subst
      (λ (b : Board). AreWithin (loads_of_write (names b) w)
      (LoadRecord w (record_of (names board) w) ∷ [])) (sym same)
      (within-again (names board) w (record_of (names board) w) other);
}

pub for-first : (p q r : Pass) (board : Board) (w end : ℕ)
    → q ≡ record p { looks = p.looks ++ LoadRecord w (record_of (names board) w) ∷ [] }
    → FollowsRow q r w end → LooksForWrite p r w
for-first p q r board w end made down =
    let found = record_of (names board) w in
    let records = map (λ v. LoadRecord v (record_of (names q.board) v))
    (numbers_above (names q.board) w end down.head) in
    record {
      more = LoadRecord w found ∷ LoadHead w down.head ∷ records;
      added = ap (λ (x : Pass). x.looks) down.pass ∙ ap
          (λ (x : Pass). x.looks ++ (LoadHead w down.head ∷ records)) made
          ∙ append_assoc p.looks (LoadRecord w found ∷ []) (LoadHead w down.head ∷ records);
      within = within-first w (row_of (names p.board) w == w) found down.head records;
    }

pub writes-none : (p : Pass) → LooksForWrites p p 0
writes-none p = record { more = []; added = nothing_more p.looks; within = tt }

pub writes-then : (p q r : Pass) (n w : ℕ) → w ≡ suc n → q.board ≡ p.board → LooksForWrites p q n
    → LooksForWrite q r w → LooksForWrites p r w
writes-then p q r n w next same a b = record {
  more = a.more ++ b.more;
  added = b.added ∙ ap (λ (looks : List Look). looks
      ++ b.more) a.added ∙ append_assoc p.looks a.more b.more;
  within = subst (λ (v : ℕ). AreWithin (loads_of_rows (names p.board) v) (a.more ++ b.more))
      (sym next)
      (within-joined (loads_of_rows (names p.board) n)
      (loads_of_write (names p.board) (suc n)) a.more b.more a.within
      (subst (λ (v : ℕ). AreWithin (loads_of_write (names p.board) v) b.more) next
      (subst (λ (board : Board). AreWithin (loads_of_write (names board) w) b.more) same
      b.within)));
}

pub writes-all : (p q : Pass) (n place : ℕ) → n ≡ end_of p.board.log.txns place
    → LooksForWrites p q n → LooksForRows p q place
writes-all p q n place all a = record {
  more = a.more;
  added = a.added;
  within = subst (λ (v : ℕ). AreWithin (loads_of_rows (names p.board) v) a.more) all a.within;
}
