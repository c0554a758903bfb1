-- What sessions of a schedule have taken, in a pass that looks on.
use Rattle.std.proofs.Common.{◌≡◌, ◌∙◌, ◌+◌, ◌-◌, ◌≤◌, ◌<◌, ◌++◌, ◌⊎◌, inl, inr, ℕ, zero, suc, Bool}
use Rattle.std.proofs.Common.{true, false, cond, List, [], ◌∷◌, length, map, drop, set, replicate}
use Rattle.std.proofs.Common.{Some, slice_get, get_or, ap, sym, subst, refl, arith, length-set}
use Rattle.std.proofs.Common.{get_or-set_same, get_or-set_other, nat_lt}
use Rattle.std.specs.List.{AllByRecursion}
use Rattle.std.proofs.lemmas.Bool.{lt-ltb, le-ltb, ltb-true, ltb-false}
use Rattle.std.proofs.lemmas.List.{append_assoc, append-nil, length-append}
use Rattle.std.proofs.lemmas.Option.{slice_get_within, get_or_from_slice_get, slice_get-get_or}
use borrow.Author.Tests.{eqb-true, eqb-false}
use lib.Dec.{eqb}
use Rattle.c5_rows.specs.Sizes.{max_sessions}
use Rattle.c5_rows.specs.State.{State}
use Rattle.c5_rows.specs.declared.answer.Reply.{Reply}
use Rattle.c5_definitions.specs.Replies.{reads_of_session}
use Rattle.c5_definitions.specs.ScriptParts.{ReadParts}
use Rattle.c5_definitions.specs.Turns.{with_left_taken, with_one_taken}
use Rattle.c5_board.specs.declared.known.Look.{Look}
use Rattle.c5_board.specs.Boards.{Board, Pass}
use Rattle.c5_reads.specs.Looks.{AreWithin, OnlyLooks}
use Rattle.c5_replay.specs.Answered.{places_of, loads_of_reads, AreAnswered, HasAnswered}
use Rattle.c5_replay.specs.TurnStates.{HasTaken, AreSessions, IsBlockFrom, left_places}
use Rattle.c5_replay.specs.TurnStates.{taken_by}
use Rattle.c5_replay.specs.declared.session_turns.SessionTurns.{SessionTurns}
use Rattle.c5_replay.proofs.Within.{within-front, all-mono}
use Rattle.c5_replay.specs.Joins.{HaveReplied, reads_up_to}
use Rattle.c5_replay.proofs.Sessions.{read-taken, loaded-later}

-- the pass is of the same board, its place hasn't fallen, and looks were added at the end
pub record IsLater (old new : Pass) : Type 0 where
  pub of_board : new.board ≡ old.board
  pub rises : old.place ≤ new.place
  pub more : List Look
  pub looks : new.looks ≡ old.looks ++ more

pub looked-later : (p q : Pass) → OnlyLooks p q → IsLater p q
looked-later p q only =
    let at : q.place ≡ p.place = ap (λ (x : Pass). x.place) only.pass in
    record {
      of_board = ap (λ (x : Pass). x.board) only.pass;
      rises = omega arith;
      more = only.more;
      looks = ap (λ (x : Pass). x.looks) only.pass;
    }

-- ---- a session in a later pass

pub answered-in : (p q : Pass) (start : State) (reads : List ReadParts) (replies : List Reply)
    → IsLater p q → HasAnswered p start reads replies → HasAnswered q start reads replies
answered-in p q start reads replies later h = record {
  answered = subst (λ (b : Board). AreAnswered b.log start reads replies) (sym later.of_board)
      h.answered;
  reached = all-mono p.place q.place later.rises (places_of replies) h.reached;
  loads = subst
      (λ (z : Board × List Look). AreWithin
      (loads_of_reads z.0.log.txns reads (places_of replies)) z.1)
      (λ t. (sym later.of_board t, sym later.looks t))
      (within-front
      (loads_of_reads p.board.log.txns reads (places_of replies)) p.looks later.more h.loads);
}

pub taken-in : (p q : Pass) (start : State) (reads : List ReadParts) (s : SessionTurns)
    → IsLater p q → HasTaken p start reads s → HasTaken q start reads s
taken-in p q start reads s later h = record {
  done = h.done;
  split = h.split;
  answered = answered-in p q start h.done s.replies.items later h.answered;
}

pub sessions-in : (p q : Pass) (start : State) (reads : List ReadParts) (before : ℕ)
    (sessions : List SessionTurns) → IsLater p q → AreSessions p start reads before sessions
    → AreSessions q start reads before sessions
sessions-in p q start reads before sessions later are = record {
  count = are.count;
  order = are.order;
  each = λ k s at. taken-in p q start reads s later (are.each k s at);
}

-- what is at a place after another session was put at one
record IsOtherSession (sessions : List SessionTurns) (k j : ℕ) (s : SessionTurns) : Type 0 where
  there : slice_get sessions j ≡ Some s

session_cases : (sessions : List SessionTurns) (k j : ℕ) (after s : SessionTurns)
    → k < length sessions → slice_get (set sessions k after) j ≡ Some s
    → ((j ≡ k) × (s ≡ after)) ⊎ IsOtherSession sessions k j s
session_cases sessions k j after s less at = by (eqb j k) refl
  where
    here : get_or (set sessions k after) j s ≡ s
    here = get_or_from_slice_get (set sessions k after) j s s at

    by : (b : Bool) → eqb j k ≡ b
        → ((j ≡ k) × (s ≡ after)) ⊎ IsOtherSession sessions k j s
    by true e =
        let same = eqb-true j k e in
        inl (
          same,
          sym here ∙ ap
              (λ (n : ℕ). get_or (set sessions k after) n s) same ∙ get_or-set_same sessions k after
              s less,
        )
    by false e =
        let apart = eqb-false j k e in
        let within = slice_get_within (set sessions k after) j s at in
        let len = length-set sessions k after in
        inr (record {
          there = slice_get-get_or sessions j s (omega arith) ∙ ap (λ (x : SessionTurns). Some x)
              (sym (get_or-set_other sessions k j after s apart) ∙ here);
        })

pub sessions-with : (p q : Pass) (start : State) (reads : List ReadParts)
    (sessions : List SessionTurns) (k : ℕ) (old new : SessionTurns)
    → AreSessions p start reads 0 sessions → slice_get sessions k ≡ Some old → IsLater p q
    → new.session ≡ old.session → HasTaken q start reads new
    → AreSessions q start reads 0 (set sessions k new)
sessions-with p q start reads sessions k old new are at later same taken = record {
  count = ap (λ (n : ℕ). 0 + n) (length-set sessions k new) ∙ are.count;
  order = λ j s is. order j s (session_cases sessions k j new s less is);
  each = λ j s is. each j s (session_cases sessions k j new s less is);
}
  where
    less : k < length sessions
    less = slice_get_within sessions k old at

    order : (j : ℕ) (s : SessionTurns)
        → ((j ≡ k) × (s ≡ new)) ⊎ IsOtherSession sessions k j s → s.session ≡ 0 + j + 1
    order j s (inl h) = ap (λ (x : SessionTurns). x.session) h.1 ∙ same ∙ are.order k old at
        ∙ ap (λ (n : ℕ). 0 + n + 1) (sym h.0)
    order j s (inr h) = are.order j s h.there

    each : (j : ℕ) (s : SessionTurns)
        → ((j ≡ k) × (s ≡ new)) ⊎ IsOtherSession sessions k j s → HasTaken q start reads s
    each j s (inl h) = subst (λ (x : SessionTurns). HasTaken q start reads x) (sym h.1) taken
    each j s (inr h) = taken-in p q start reads s later (are.each j s h.there)

-- ---- the next read of a session

taken-count : (p : Pass) (start : State) (reads : List ReadParts) (s : SessionTurns)
    → HasTaken p start reads s
    → length (taken_by s) + length (reads_of_session (drop s.looked reads) s.session)
    ≡ length (reads_of_session reads s.session)
taken-count p start reads s h =
    let rest = reads_of_session (drop s.looked reads) s.session in
    ap (λ (n : ℕ). n + length rest) h.answered.answered.lawful.one_each
    ∙ sym (length-append h.done rest)
    ∙ ap (λ (l : List ReadParts). length l) h.split

pub none-left : (p : Pass) (start : State) (reads : List ReadParts) (s : SessionTurns)
    → HasTaken p start reads s → reads_of_session (drop s.looked reads) s.session ≡ []
    → length (taken_by s) ≡ length (reads_of_session reads s.session)
none-left p start reads s h none =
    let count = taken-count p start reads s h in
    let zero_so : length (reads_of_session (drop s.looked reads) s.session) ≡ 0 =
    ap (λ (l : List ReadParts). length l) none in
    omega arith

-- no read of the session is left
pub test-none : (p : Pass) (start : State) (reads : List ReadParts) (s : SessionTurns)
    → HasTaken p start reads s → reads_of_session (drop s.looked reads) s.session ≡ []
    → nat_lt (length (taken_by s)) (length (reads_of_session reads s.session)) ≡ false
test-none p start reads s h none =
    let e = none-left p start reads s h none in
    le-ltb (length (taken_by s)) (length (reads_of_session reads s.session)) (omega arith)

pub places-none : (p : Pass) (start : State) (reads : List ReadParts) (s : SessionTurns) (place : ℕ)
    → HasTaken p start reads s → reads_of_session (drop s.looked reads) s.session ≡ []
    → taken_by s ≡ with_one_taken (length (reads_of_session reads s.session)) place (taken_by s)
places-none p start reads s place h none =
    sym (ap (λ (b : Bool). cond b (taken_by s ++ place ∷ []) (taken_by s))
    (test-none p start reads s h none))

-- the first block that is left is the session's next read
left-from : (reads : List ReadParts) (s : SessionTurns) (at : ℕ)
    (b : IsBlockFrom reads s.session s.looked at) (done : List ReadParts)
    → done ++ reads_of_session (drop s.looked reads) s.session
    ≡ reads_of_session reads s.session
    → (done ++ b.read ∷ []) ++ reads_of_session (drop (at + 1) reads) s.session
    ≡ reads_of_session reads s.session
left-from reads s at b done split =
    read-taken reads at s.session b.read done b.is b.own
    (ap (λ (l : List ReadParts). done ++ l) (sym b.skipped) ∙ split)

pub test-some : (p : Pass) (start : State) (reads : List ReadParts) (s : SessionTurns) (at : ℕ)
    → HasTaken p start reads s → IsBlockFrom reads s.session s.looked at
    → nat_lt (length (taken_by s)) (length (reads_of_session reads s.session)) ≡ true
test-some p start reads s at h b =
    let rest = reads_of_session (drop (at + 1) reads) s.session in
    let all = ap (λ (l : List ReadParts). length l) (left-from reads s at b h.done h.split) in
    let two = length-append (h.done ++ b.read ∷ []) rest in
    let one = length-append h.done (b.read ∷ []) in
    let each = h.answered.answered.lawful.one_each in
    let last : length (b.read ∷ []) ≡ 1 = refl in
    lt-ltb (length (taken_by s)) (length (reads_of_session reads s.session)) (omega arith)

pub places-some : (p : Pass) (start : State) (reads : List ReadParts) (s t : SessionTurns)
    (at place : ℕ) → HasTaken p start reads s → IsBlockFrom reads s.session s.looked at
    → taken_by t ≡ taken_by s ++ place ∷ []
    → taken_by t ≡ with_one_taken (length (reads_of_session reads s.session)) place (taken_by s)
places-some p start reads s t at place h b is =
    is ∙ sym (ap (λ (c : Bool). cond c (taken_by s ++ place ∷ []) (taken_by s))
    (test-some p start reads s at h b))

pub taken-more : (q : Pass) (start : State) (reads : List ReadParts) (s t : SessionTurns) (at : ℕ)
    (b : IsBlockFrom reads s.session s.looked at) (done : List ReadParts)
    → done ++ reads_of_session (drop s.looked reads) s.session
    ≡ reads_of_session reads s.session
    → t.session ≡ s.session → t.looked ≡ at + 1
    → HasAnswered q start (done ++ b.read ∷ []) t.replies.items → HasTaken q start reads t
taken-more q start reads s t at b done split same looked answered = record {
  done = done ++ b.read ∷ [];
  split = subst
      (λ (z : ℕ × ℕ). (done ++ b.read ∷ []) ++ reads_of_session (drop z.0 reads) z.1
      ≡ reads_of_session reads z.1) (λ i. (sym looked i, sym same i))
      (left-from reads s at b done split);
  answered = answered;
}

-- ---- the reads that are left

-- once one more is taken, one fewer is left
pub left-some : (reads : List ReadParts) (place session : ℕ) (taken more : List ℕ)
    → nat_lt (length taken) (length (reads_of_session reads session)) ≡ true
    → more ≡ with_one_taken (length (reads_of_session reads session)) place taken
    → with_left_taken reads place session more ≡ with_left_taken reads place session taken
left-some reads place session taken more less is = by (length (reads_of_session reads session)) less
    is
  where
    below : (n : ℕ) → nat_lt (length taken) n ≡ true → length taken < n
    below n fewer = ltb-true (length taken) n fewer

    step : (n : ℕ) → length taken < n → (taken ++ place ∷ []) ++ replicate
        (n - length (taken ++ place ∷ [])) place ≡ taken ++ replicate (n - length taken) place
    step n fewer =
        let len = length-append taken (place ∷ []) in
        let one : length (place ∷ []) ≡ 1 = refl in
        let e : n - length taken ≡ suc (n - length (taken ++ place ∷ [])) = omega arith in
        append_assoc taken (place ∷ []) (replicate (n - length (taken ++ place ∷ [])) place)
        ∙ ap (λ (k : ℕ). taken ++ replicate k place) (sym e)

    by : (n : ℕ) → nat_lt (length taken) n ≡ true → more ≡ with_one_taken n place taken
        → more ++ replicate (n - length more) place ≡ taken ++ replicate (n - length taken) place
    by n fewer same =
        let now : more ≡ taken ++ place ∷ [] =
        same ∙ ap (λ (c : Bool). cond c (taken ++ place ∷ []) taken) fewer in
        ap (λ (l : List ℕ). l ++ replicate (n - length l) place) now ∙ step n (below n fewer)

-- the same, with other names of the place and of the session
pub left-more : (reads : List ReadParts) (place place2 session session2 : ℕ) (taken more : List ℕ)
    → place2 ≡ place → session2 ≡ session
    → nat_lt (length taken) (length (reads_of_session reads session2)) ≡ true
    → more ≡ with_one_taken (length (reads_of_session reads session2)) place2 taken
    → with_left_taken reads place session more ≡ with_left_taken reads place session taken
left-more reads place place2 session session2 taken more at same less is =
    subst (λ (z : ℕ × ℕ). with_left_taken reads z.0 z.1 more ≡ with_left_taken reads z.0 z.1 taken)
    (λ i. (at i, same i)) (left-some reads place2 session2 taken more less is)

-- none is left
pub left-none : (reads : List ReadParts) (place session session2 : ℕ) (taken : List ℕ)
    → session2 ≡ session
    → nat_lt (length taken) (length (reads_of_session reads session2)) ≡ false
    → taken ≡ with_left_taken reads place session taken
left-none reads place session session2 taken same test =
    let many = ltb-false (length taken) (length (reads_of_session reads session2)) test in
    let e : length (reads_of_session reads session2) - length taken ≡ 0 = omega arith in
    subst (λ (s : ℕ). taken ≡ with_left_taken reads place s taken) same
    (sym (ap (λ (k : ℕ). taken ++ replicate k place) e ∙ append-nil taken))

pub none-taken : (count place : ℕ) (taken more : List ℕ) → nat_lt (length taken) count ≡ false
    → more ≡ with_one_taken count place taken → more ≡ taken
none-taken count place taken more test is =
    is ∙ ap (λ (c : Bool). cond c (taken ++ place ∷ []) taken) test

-- one more is taken, so fewer are left
pub fewer-left : (count place : ℕ) (taken more : List ℕ) → nat_lt (length taken) count ≡ true
    → more ≡ with_one_taken count place taken → count - length more < count - length taken
fewer-left count place taken more test is =
    let less = ltb-true (length taken) count test in
    let now : more ≡ taken ++ place ∷ [] =
    is ∙ ap (λ (c : Bool). cond c (taken ++ place ∷ []) taken) test in
    let len = ap (λ (l : List ℕ). length l) now in
    let two = length-append taken (place ∷ []) in
    let one : length (place ∷ []) ≡ 1 = refl in
    omega arith

-- all reads of the session are answered
pub answered-all : (p : Pass) (start : State) (reads : List ReadParts) (s : SessionTurns)
    → HasTaken p start reads s
    → nat_lt (length (taken_by s)) (length (reads_of_session reads s.session)) ≡ false
    → HasAnswered p start (reads_of_session reads s.session) s.replies.items
answered-all p start reads s h test =
    let rest = reads_of_session (drop s.looked reads) s.session in
    let count = taken-count p start reads s h in
    let many = ltb-false (length (taken_by s)) (length (reads_of_session reads s.session)) test in
    let none : rest ≡ [] = nothing rest (omega arith) in
    subst (λ (l : List ReadParts). HasAnswered p start l s.replies.items)
    (sym (append-nil h.done) ∙ ap (λ (l : List ReadParts). h.done ++ l) (sym none) ∙ h.split)
    h.answered
  where
    nothing : (l : List ReadParts) → length l ≡ 0 → l ≡ []
    nothing [] e = refl
    nothing (r ∷ l) e = absurd (omega arith)

-- ---- the replies of all sessions

pub replied-in : (p q : Pass) (start : State) (reads : List ReadParts) (n : ℕ)
    (replies : List Reply) → IsLater p q → HaveReplied p start reads n replies
    → HaveReplied q start reads n replies
replied-in p q start reads n replies later h = record {
  answered = subst (λ (b : Board). AreAnswered b.log start (reads_up_to reads n) replies)
      (sym later.of_board) h.answered;
  loads = λ s w. loaded-later p q reads replies later.more s (h.loads s w) later.of_board
      later.looks;
}

-- ---- the next of the sessions that are left

pub first-session : (p : Pass) (start : State) (reads : List ReadParts) (before : ℕ)
    (s : SessionTurns) (rest : List SessionTurns) → AreSessions p start reads before (s ∷ rest)
    → (s.session ≡ before + 1) × HasTaken p start reads s
    × AreSessions p start reads (before + 1) rest
first-session p start reads before s rest h =
    let first = h.order 0 s refl in (
      (let e : before + 0 + 1 ≡ before + 1 = omega arith in first ∙ e),
      h.each 0 s refl,
      record {
        count = (let c = h.count in omega arith);
        order = λ k t at.
            let e = h.order (suc k) t at in
            let same : before + suc k + 1 ≡ before + 1 + k + 1 = omega arith in
            e ∙ same;
        each = λ k t at. h.each (suc k) t at;
      },
    )

-- after its reads that are left are taken
pub left-step : (reads : List ReadParts) (place place2 first session : ℕ) (s : SessionTurns)
    (rest : List SessionTurns) (before after whole : List ℕ) → place2 ≡ place → session ≡ first
    → after ≡ before ++ with_left_taken reads place2 session (taken_by s)
    → before ++ left_places reads place first (s ∷ rest) ≡ whole
    → after ++ left_places reads place (first + 1) rest ≡ whole
left-step reads place place2 first session s rest before after whole at same is h =
    ap (λ (l : List ℕ). l ++ left_places reads place (first + 1) rest)
    (is ∙ (λ x. before ++ with_left_taken reads (at x) (same x) (taken_by s)))
    ∙ append_assoc before (with_left_taken reads place first (taken_by s))
    (left_places reads place (first + 1) rest)
    ∙ h

-- no read was left, so all of them are answered
pub end-answered : (q : Pass) (start : State) (reads : List ReadParts) (old new : SessionTurns)
    (place session : ℕ) → HasTaken q start reads new → new.session ≡ old.session
    → old.session ≡ session
    → nat_lt (length (taken_by old)) (length (reads_of_session reads old.session)) ≡ false
    → taken_by new
    ≡ with_one_taken (length (reads_of_session reads old.session)) place (taken_by old)
    → HasAnswered q start (reads_of_session reads session) new.replies.items
end-answered q start reads old new place session h same name_is test is =
    let now = none-taken (length (reads_of_session reads old.session)) place (taken_by old)
    (taken_by new) test is in
    let test_new : nat_lt (length (taken_by new)) (length (reads_of_session reads new.session))
    ≡ false =
    (λ x. nat_lt (length (now x)) (length (reads_of_session reads (same x)))) ∙ test in
    subst (λ (n : ℕ). HasAnswered q start (reads_of_session reads n) new.replies.items)
    (same ∙ name_is) (answered-all q start reads new h test_new)
