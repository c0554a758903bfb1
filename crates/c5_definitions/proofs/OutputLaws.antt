-- What `clone` prints determines the order and the places.
use Rattle.std.proofs.Common.{◌≡◌, ◌∙◌, ℕ, ◌+◌, ◌-◌, ◌^◌, ◌<◌, ◌≤◌, List, [], ◌∷◌, ◌++◌, length}
use Rattle.std.proofs.Common.{refl, sym, ap, subst, append_assoc, arith}
use Rattle.std.specs.Prelude.{codes}
use Rattle.std.specs.List.{AllByRecursion, flat_map}
use Rattle.std.proofs.lemmas.List.{append_cancel_left}
use Rattle.c5_rows.specs.State.{State, after_writes}
use Rattle.c5_rows.specs.declared.answer.Reply.{Reply}
use Rattle.c5_rows.specs.declared.tables.TableDef.{TableDef}
use Rattle.c5_rows.specs.declared.writes.Txn.{Txn}
use Rattle.c5_definitions.specs.declared.script.Statement.{Statement}
use Rattle.c5_definitions.specs.Eval.{eval}
use Rattle.c5_definitions.specs.Replies.{in_reply_order, reply_at, replies_at}
use Rattle.c5_definitions.specs.ScriptParts.{ReadParts, ScriptParts}
use Rattle.c5_definitions.specs.SerialRun.{body_at, serial_txns, serial_txns_from}
use Rattle.c5_definitions.specs.Outputs.{AreU32, AreOrderAndPlaces, number_text, order_text}
use Rattle.c5_definitions.specs.Outputs.{answer_line, reply_text, no_rows, backup_text, clone_text}
use Rattle.c5_definitions.proofs.NumberTexts.{EndsDigits, number-cut}

-- ---- orders

numbers-end : (numbers s : List ℕ) → EndsDigits (flat_map number_text numbers ++ 10 ∷ s)
numbers-end [] s = omega arith
numbers-end (n ∷ numbers) s = omega arith

numbers-cut : (a b s t : List ℕ) → AreU32 a → AreU32 b
    → flat_map number_text a ++ 10 ∷ s ≡ flat_map number_text b ++ 10 ∷ t → (a ≡ b) × (s ≡ t)
numbers-cut [] [] s t small_a small_b e = (refl, cc)
numbers-cut [] (y ∷ b) s t small_a small_b e = let clash : ◌≡◌ {A = ℕ} 10 32 = cc in
    absurd (omega (arith, clash))
numbers-cut (x ∷ a) [] s t small_a small_b e = let clash : ◌≡◌ {A = ℕ} 32 10 = cc in
    absurd (omega (arith, clash))
numbers-cut (x ∷ a) (y ∷ b) s t small_a small_b e =
    let left = append_assoc (number_text x) (flat_map number_text a) (10 ∷ s) in
    let right = append_assoc (number_text y) (flat_map number_text b) (10 ∷ t) in
    let here = number-cut x y (flat_map number_text a ++ 10 ∷ s) (flat_map number_text b ++ 10 ∷ t)
    (omega (arith, small_a.0)) (omega (arith, small_b.0)) (numbers-end a s) (numbers-end b t)
    (sym left ∙ e ∙ right) in
    let more = numbers-cut a b s t small_a.1 small_b.1 here.1 in
    let first = here.0 in
    let others = more.0 in
    ((cc), more.1)

pub order-cut : (a b s t : List ℕ) → AreU32 a → AreU32 b → order_text a ++ s ≡ order_text b ++ t
    → (a ≡ b) × (s ≡ t)
order-cut a b s t small_a small_b e =
    let rest = append_cancel_left (codes "order") ((flat_map number_text a ++ 10 ∷ []) ++ s)
    ((flat_map number_text b ++ 10 ∷ []) ++ t) e in
    let left = append_assoc (flat_map number_text a) (10 ∷ []) s in
    let right = append_assoc (flat_map number_text b) (10 ∷ []) t in
    numbers-cut a b s t small_a small_b (sym left ∙ rest ∙ right)

-- ---- replies

regroup : (a b c d e f g h i : List ℕ) → ((((((a ++ b) ++ c) ++ d) ++ e) ++ f) ++ g) ++ h ++ i
    ≡ ((a ++ b) ++ c) ++ (d ++ (e ++ (f ++ (g ++ (h ++ i)))))
regroup a b c d e f g h i = simp append_assoc

-- the place is the second number of the head
abbrev after_place : List TableDef → ℕ → Reply → List ℕ → List ℕ
after_place tables total reply s = codes " lag"
    ++ (number_text (total - reply.place)
    ++ ((10 ∷ []) ++ (flat_map (λ line. answer_line tables line ++ 10 ∷ []) reply.answer ++ s)))

reply-parts : (tables : List TableDef) (total : ℕ) (reply : Reply) (s : List ℕ)
    → reply_text tables total reply ++ s
    ≡ ((codes "read" ++ number_text reply.session) ++ codes " place")
    ++ (number_text reply.place ++ after_place tables total reply s)
reply-parts tables total reply s =
    regroup (codes "read") (number_text reply.session) (codes " place") (number_text reply.place)
    (codes " lag") (number_text (total - reply.place)) (10 ∷ [])
    (flat_map (λ line. answer_line tables line ++ 10 ∷ []) reply.answer) s

place-cut : (tables : List TableDef) (total : ℕ) (a b : Reply) (s t : List ℕ)
    → a.session ≡ b.session → a.place < 2 ^ 64 → b.place < 2 ^ 64
    → reply_text tables total a ++ s ≡ reply_text tables total b ++ t → a.place ≡ b.place
place-cut tables total a b s t same small_a small_b e =
    let prefix = (codes "read" ++ number_text a.session) ++ codes " place" in
    let prefixes : (codes "read" ++ number_text b.session) ++ codes " place" ≡ prefix =
    ap (λ (n : ℕ). (codes "read" ++ number_text n) ++ codes " place") (sym same) in
    let whole = sym (reply-parts tables total a s) ∙ e ∙ reply-parts tables total b t ∙ ap
    (λ (f : List ℕ). f ++ (number_text b.place ++ after_place tables total b t)) prefixes in
    let rest = append_cancel_left prefix (number_text a.place ++ after_place tables total a s)
    (number_text b.place ++ after_place tables total b t) whole in
    (number-cut a.place b.place (after_place tables total a s)
    (after_place tables total b t) small_a small_b (omega arith) (omega arith) rest).0

replies-cut : (tables : List TableDef) (total : ℕ) (state : State) (txns : List Txn)
    (reads : List ReadParts) (p q r : List ℕ)
    → length p ≡ length reads → length q ≡ length reads → AllByRecursion (λ place. place ≤ total) p
    → AllByRecursion (λ place. place ≤ total) q → total < 2 ^ 64
    → flat_map (reply_text tables total) (replies_at state txns reads p) ++ r
    ≡ flat_map (reply_text tables total) (replies_at state txns reads q) ++ r → p ≡ q
replies-cut tables total state txns [] [] [] r lp lq wp wq small e = refl
replies-cut tables total state txns [] [] (y ∷ q) r lp lq wp wq small e = absurd (omega arith)
replies-cut tables total state txns [] (x ∷ p) q r lp lq wp wq small e = absurd (omega arith)
replies-cut tables total state txns (read ∷ reads) [] q r lp lq wp wq small e = absurd (omega arith)
replies-cut tables total state txns (read ∷ reads) (x ∷ p) [] r lp lq wp wq small e =
    absurd (omega arith)
replies-cut tables total state txns (read ∷ reads) (x ∷ p) (y ∷ q) r lp lq wp wq small e =
    let others = λ (places : List ℕ). flat_map (reply_text tables total)
    (replies_at state txns reads places) in
    let text = λ (place : ℕ). reply_text tables total (reply_at state txns read place) in
    let whole : text x ++ (others p ++ r) ≡ text y ++ (others q ++ r) =
    sym (append_assoc (text x) (others p) r) ∙ e ∙ append_assoc (text y) (others q) r in
    let here : x ≡ y = place-cut tables total (reply_at state txns read x)
    (reply_at state txns read y) (others p ++ r) (others q ++ r) refl (omega (arith, wp.0))
    (omega (arith, wq.0)) whole in
    let same = append_cancel_left (text x) (others p ++ r) (others q ++ r)
    (whole ∙ ap (λ (n : ℕ). text n ++ (others q ++ r)) (sym here)) in
    let count_p : length p ≡ length reads = omega arith in
    let count_q : length q ≡ length reads = omega arith in
    let more =
    replies-cut tables total state txns reads p q r count_p count_q wp.1 wq.1 small same in
    cc

-- ---- all of it

length-serial : (stamp : ℕ) (bodies : List (List Statement)) (state : State) (order : List ℕ)
    → length (serial_txns_from stamp bodies state order) ≡ length order
length-serial stamp bodies state [] = refl
length-serial stamp bodies state (number ∷ numbers) = let more =
    length-serial (stamp + 1) bodies
    (after_writes (eval (body_at bodies number) state).writes state) numbers in omega (arith, more)

places-cut : (script : ScriptParts) (order p q : List ℕ) → AreOrderAndPlaces script order p
    → AreOrderAndPlaces script order q
    → backup_text script (serial_txns script.bodies no_rows order) p
    ≡ backup_text script (serial_txns script.bodies no_rows order) q → p ≡ q
places-cut script order p q are_p are_q e =
    let txns = serial_txns script.bodies no_rows order in
    let count : length order ≡ length txns = sym (length-serial 1 script.bodies no_rows order) in
    let within = λ (places : List ℕ)
    (all : AllByRecursion (λ place. place ≤ length order) places). subst
    (λ (n : ℕ). AllByRecursion (λ place. place ≤ n) places) count all in
    replies-cut script.tables (length txns) no_rows txns
    (in_reply_order script.reads) p q _ are_p.one_each are_q.one_each (within p are_p.within)
    (within q are_q.within) (omega (arith, count, are_p.few)) e

pub clone-cut : (script : ScriptParts) (a b p q : List ℕ) → AreOrderAndPlaces script a p
    → AreOrderAndPlaces script b q → clone_text script a p ≡ clone_text script b q → (a ≡ b)
    × (p ≡ q)
clone-cut script a b p q are_a are_b e =
    let cut = order-cut a b (backup_text script (serial_txns script.bodies no_rows a) p)
    (backup_text script (serial_txns script.bodies no_rows b) q) are_a.numbers are_b.numbers e
    in
    let back : b ≡ a = sym cut.0 in
    let are_q : AreOrderAndPlaces script a q =
    subst (λ (o : List ℕ). AreOrderAndPlaces script o q) back are_b in (
      cut.0,
      places-cut script a p q are_a are_q
          (cut.1 ∙ ap
          (λ (o : List ℕ). backup_text script (serial_txns script.bodies no_rows o) q) back),
    )
