-- Loads that are among looks, lists of places, and passes that only read.
use Rattle.std.proofs.Common.{◌≡◌, ◌∙◌, ◌+◌, ◌≤◌, ◌<◌, ◌++◌, ◌⊎◌, inl, inr, ⊎_elim, ℕ, suc, List}
use Rattle.std.proofs.Common.{[], ◌∷◌, length, map, max, ap, sym, subst, refl, arith}
use Rattle.std.specs.List.{AllByRecursion, flat_map, zip}
use Rattle.std.proofs.lemmas.List.{append_assoc, append-nil, length-append, map-append}
use Rattle.std.proofs.lemmas.Grind.{flat_map-append}
use Rattle.c5_rows.specs.State.{State}
use Rattle.c5_rows.specs.declared.answer.Reply.{Reply}
use Rattle.c5_rows.specs.declared.writes.Txn.{Txn}
use Rattle.c5_definitions.specs.Replies.{AreLawfulPlaces, PlacesNeverFall, reply_at, replies_at}
use Rattle.c5_definitions.specs.ScriptParts.{ReadParts}
use Rattle.c5_board.specs.declared.known.Look.{Look}
use Rattle.c5_board.specs.declared.known.Look.TheVariants.{LoadVisible}
use Rattle.c5_board.specs.Boards.{Board, Pass}
use Rattle.c5_reads.specs.Looks.{Wanted, IsLoadOf, AreWithin, loads_of_read, OnlyLooks}
use Rattle.c5_reads.specs.Looks.{LooksForRead}
use Rattle.c5_reads.specs.Sessions.{began}
use Rattle.c5_replay.specs.Answered.{places_of, loads_of_reads, AreAnswered, HasAnswered, OnlyReads}

-- ---- loads among looks

pub within-front : (loads : List Wanted) (xs ys : List Look) → AreWithin loads xs
    → AreWithin loads (xs ++ ys)
within-front [] xs ys h = tt
within-front (l ∷ ls) [] ys h = absurd h
within-front (l ∷ ls) (x ∷ xs) ys h =
    ⊎_elim (λ (m : IsLoadOf l x × AreWithin ls xs). inl (m.0, within-front ls xs ys m.1))
    (λ (r : AreWithin (l ∷ ls) xs). inr (within-front (l ∷ ls) xs ys r)) h

pub within-back : (loads : List Wanted) (xs ys : List Look) → AreWithin loads ys
    → AreWithin loads (xs ++ ys)
within-back [] xs ys h = tt
within-back (l ∷ ls) [] ys h = h
within-back (l ∷ ls) (x ∷ xs) ys h = inr (within-back (l ∷ ls) xs ys h)

pub within-both : (ls bs : List Wanted) (xs ys : List Look) → AreWithin ls xs → AreWithin bs ys
    → AreWithin (ls ++ bs) (xs ++ ys)
within-both [] bs xs ys h k = within-back bs xs ys k
within-both (l ∷ ls) bs [] ys h k = absurd h
within-both (l ∷ ls) bs (x ∷ xs) ys h k =
    ⊎_elim (λ (m : IsLoadOf l x × AreWithin ls xs). inl (m.0, within-both ls bs xs ys m.1 k))
    (λ (r : AreWithin (l ∷ ls) xs). inr (within-both (l ∷ ls) bs xs ys r k)) h

-- ---- lists

pub all-append : {X : Type 0} (P : X → Type 0) (xs ys : List X) → AllByRecursion P xs
    → AllByRecursion P ys → AllByRecursion P (xs ++ ys)
all-append P [] ys h k = k
all-append P (x ∷ xs) ys h k = (h.0, all-append P xs ys h.1 k)

pub all-mono : (n m : ℕ) → n ≤ m → (xs : List ℕ) → AllByRecursion (λ x. x ≤ n) xs
    → AllByRecursion (λ x. x ≤ m) xs
all-mono n m le [] h = tt
all-mono n m le (x ∷ xs) h = (omega (arith, h.0), all-mono n m le xs h.1)

pub zip-append : {X Y : Type 0} (xs us : List X) (ys vs : List Y) → length ys ≡ length xs
    → zip (xs ++ us) (ys ++ vs) ≡ zip xs ys ++ zip us vs
zip-append [] us [] vs e = refl
zip-append [] us (y ∷ ys) vs e = absurd (omega arith)
zip-append (x ∷ xs) us [] vs e = absurd (omega arith)
zip-append (x ∷ xs) us (y ∷ ys) vs e = ap (λ l. (x, y) ∷ l) (zip-append xs us ys vs (omega arith))

pub all-zip : {X Y : Type 0} (P : Y → Type 0) (xs : List X) (ys : List Y) → AllByRecursion P ys
    → AllByRecursion (λ (p : X × Y). P p.1) (zip xs ys)
all-zip P [] ys h = tt
all-zip P (x ∷ xs) [] h = tt
all-zip P (x ∷ xs) (y ∷ ys) h = (h.0, all-zip P xs ys h.1)

pub fall-more : (ps : List (ReadParts × ℕ)) (read : ReadParts) (place : ℕ) → PlacesNeverFall ps
    → AllByRecursion (λ (p : ReadParts × ℕ). p.1 ≤ place) ps
    → PlacesNeverFall (ps ++ (read, place) ∷ [])
fall-more [] read place h all = (tt, tt)
fall-more ((r, q) ∷ ps) read place h all = (
  all-append (λ (next : ReadParts × ℕ). next.0.session ≡ r.session → q ≤ next.1) ps
      ((read, place) ∷ []) h.0 ((λ same. all.0), tt),
  fall-more ps read place h.1 all.1,
)

-- ---- one read more

pub places-more : (replies : List Reply) (reply : Reply)
    → places_of (replies ++ reply ∷ []) ≡ places_of replies ++ reply.place ∷ []
places-more replies reply = map-append (λ (r : Reply). r.place) replies (reply ∷ [])

pub answered-more : (p q : Pass) (start : State) (done : List ReadParts) (read : ReadParts)
    (replies : List Reply) (reply : Reply) (place : ℕ)
    → HasAnswered p start done replies → p.place ≤ place → place ≤ length p.board.log.txns
    → reply ≡ reply_at start p.board.log.txns read place
    → OnlyLooks (began p place) q → LooksForRead (began p place) q read place
    → HasAnswered q start (done ++ read ∷ []) (replies ++ reply ∷ [])
answered-more p q start done read replies reply place h rises within is only looks =
    let txns = p.board.log.txns in
    let places = places_of replies in
    let at : reply.place ≡ place = ap (λ (r : Reply). r.place) is in
    let now : places_of (replies ++ reply ∷ []) ≡ places ++ place ∷ [] =
    places-more replies reply ∙ ap (λ (n : ℕ). places ++ n ∷ []) at in
    let zipped : zip (done ++ read ∷ []) (places ++ place ∷ [])
    ≡ zip done places ++ (read, place) ∷ [] =
    zip-append done (read ∷ []) places (place ∷ []) h.answered.lawful.one_each in
    let board : q.board ≡ p.board = ap (λ (x : Pass). x.board) only.pass in
    let kept : q.place ≡ place = ap (λ (x : Pass). x.place) only.pass in
    let lawful : AreLawfulPlaces (done ++ read ∷ []) (length txns) (places ++ place ∷ []) = record {
      one_each = length-append places (place ∷ []) ∙ ap
          (λ (n : ℕ). n + 1) h.answered.lawful.one_each ∙ sym (length-append done (read ∷ []));
      within = all-append (λ (x : ℕ). x ≤ length txns) places (place ∷ []) h.answered.lawful.within
          (within, tt);
      never_fall = subst PlacesNeverFall (sym zipped)
          (fall-more (zip done places) read place h.answered.lawful.never_fall
          (all-zip (λ (x : ℕ). x ≤ place) done places
          (all-mono p.place place rises places h.reached)));
    } in
    let replied : replies ++ reply ∷ []
    ≡ replies_at start txns (done ++ read ∷ []) (places ++ place ∷ []) =
    (λ t. h.answered.replied t ++ is t ∷ []) ∙ sym
    (ap (λ (l : List (ReadParts × ℕ)). map
    (λ (x : ReadParts × ℕ). reply_at start txns x.0 x.1) l) zipped ∙ map-append
    (λ (x : ReadParts × ℕ). reply_at start txns x.0 x.1) (zip done places) ((read, place) ∷ []))
    in
    let loads : loads_of_reads txns (done ++ read ∷ []) (places ++ place ∷ [])
    ≡ loads_of_reads txns done places ++ loads_of_read txns read place =
    ap (λ (l : List (ReadParts × ℕ)). flat_map
    (λ (x : ReadParts × ℕ). loads_of_read txns x.0 x.1) l) zipped ∙ flat_map-append
    (λ (x : ReadParts × ℕ). loads_of_read txns x.0 x.1) (zip done places) ((read, place) ∷ [])
    ∙ ap (λ (l : List Wanted). loads_of_reads txns done places ++ l)
    (append-nil (loads_of_read txns read place)) in
    let seen : q.looks ≡ p.looks ++ (LoadVisible place ∷ looks.more) =
    looks.added ∙ append_assoc p.looks (LoadVisible place ∷ []) looks.more in
    let found : AreWithin (loads_of_reads txns done places ++ loads_of_read txns read place)
    (p.looks ++ (LoadVisible place ∷ looks.more)) =
    within-both (loads_of_reads txns done places) (loads_of_read txns read place) p.looks
    (LoadVisible place ∷ looks.more) h.loads (inl (refl, looks.within)) in
    record {
      answered = record {
        lawful = subst
            (λ (z : Board × List ℕ). AreLawfulPlaces (done ++ read ∷ []) (length z.0.log.txns) z.1)
            (λ t. (sym board t, sym now t)) lawful;
        replied =
            subst (λ (z : Board × List ℕ). replies ++ reply ∷ []
            ≡ replies_at start z.0.log.txns (done ++ read ∷ []) z.1)
            (λ t. (sym board t, sym now t)) replied;
      };
      reached = subst (λ (z : ℕ × List ℕ). AllByRecursion (λ (x : ℕ). x ≤ z.0) z.1)
          (λ t. (sym kept t, sym now t))
          (all-append (λ (x : ℕ). x ≤ place) places (place ∷ [])
          (all-mono p.place place rises places h.reached) (omega arith, tt));
      loads = subst
          (λ (z : Board × (List ℕ × List Look)). AreWithin
          (loads_of_reads z.0.log.txns (done ++ read ∷ []) z.1.0) z.1.1)
          (λ t. (sym board t, (sym now t, sym seen t)))
          (subst (λ (l : List Wanted). AreWithin l (p.looks ++ (LoadVisible place ∷ looks.more)))
          (sym loads) found);
    }

-- ---- a pass that only reads

pub only-none : (p : Pass) → OnlyReads p p
only-none p =
    record {
      more = [];
      rest = λ t. record p { looks = sym (append-nil p.looks) t };
      not_below = omega arith;
    }

pub only-more : (p q r : Pass) → OnlyReads p q → OnlyReads q r → OnlyReads p r
only-more p q r a b =
    let l : q.looks ++ b.more ≡ p.looks ++ (a.more ++ b.more) =
    ap (λ (x : Pass). x.looks ++ b.more) a.rest ∙ append_assoc p.looks a.more b.more in
    record {
      more = a.more ++ b.more;
      rest = b.rest ∙
          (λ t. record (a.rest t) { place = r.place; scheduled = r.scheduled; looks = l t });
      not_below = (let x = a.not_below in let y = b.not_below in omega arith);
    }

pub only-began : (p : Pass) (place : ℕ) → p.place ≤ place → OnlyReads p (began p place)
only-began p place rises = record { more = LoadVisible place ∷ []; rest = refl; not_below = rises }

pub answered-later : (p q : Pass) (start : State) (reads : List ReadParts) (replies : List Reply)
    → HasAnswered p start reads replies → OnlyReads p q → HasAnswered q start reads replies
answered-later p q start reads replies h only =
    let board : p.board ≡ q.board = sym (ap (λ (x : Pass). x.board) only.rest) in
    let seen : p.looks ++ only.more ≡ q.looks = sym (ap (λ (x : Pass). x.looks) only.rest) in
    record {
      answered = subst (λ (b : Board). AreAnswered b.log start reads replies) board h.answered;
      reached = all-mono p.place q.place only.not_below (places_of replies) h.reached;
      loads = subst
          (λ (z : Board × List Look). AreWithin
          (loads_of_reads z.0.log.txns reads (places_of replies)) z.1) (λ t. (board t, seen t))
          (within-front
          (loads_of_reads p.board.log.txns reads (places_of replies)) p.looks only.more h.loads);
    }

pub answered-none : (p : Pass) (start : State) → HasAnswered p start [] []
answered-none p start =
    record {
      answered = record {
        lawful = record { one_each = refl; within = tt; never_fall = tt };
        replied = refl;
      };
      reached = tt;
      loads = tt;
    }
