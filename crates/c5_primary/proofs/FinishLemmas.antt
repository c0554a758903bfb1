-- The one open transaction of an order book: its begin, its reads, and its end.
use Rattle.std.proofs.Common.{◌≡◌, ◌<◌, ◌≤◌, ◌+◌, ◌-◌, ◌^◌, ◌⊎◌, ℕ, zero, suc, Bool, true, false}
use Rattle.std.proofs.Common.{cond, not, eqb, ltb, true≢false, List, [], ◌∷◌, ◌++◌, length, map}
use Rattle.std.proofs.Common.{take, drop, get_or, Option, Some, None, is_some, IsSome, Result, Ok}
use Rattle.std.proofs.Common.{Err, inl, inr, refl, ap, sym, subst, ◌∙◌, append_assoc, arith}
use Rattle.std.specs.List.{Contains, filter, list_all}
use Rattle.std.proofs.lemmas.Bool.{eq-eqb, eqb-true, ne_eqb}
use Rattle.std.proofs.lemmas.List.{append-nil, take-append-le, take-append-drop, length-append}
use Rattle.std.proofs.Math.Seq.{take-length}
use Rattle.std.specs.FinMap.{empty}
use mathlib.Core.List.{IsPrefix}
use Rattle.c5_rows.specs.declared.cells.Cell.{Cell}
use Rattle.c5_rows.specs.declared.writes.RowName.{RowName}
use Rattle.c5_rows.specs.declared.writes.Write.{Write}
use Rattle.c5_rows.specs.declared.writes.Txn.{Txn}
use Rattle.c5_rows.specs.State.{State}
use Rattle.c5_definitions.specs.declared.history.Entry.{Entry}
use Rattle.c5_definitions.specs.declared.history.Event.{Event}
use Rattle.c5_definitions.specs.declared.history.Event.TheVariants as events
use Rattle.c5_definitions.specs.declared.history.OrderBase.{OrderBase}
use Rattle.c5_definitions.specs.declared.script.Statement.{Statement}
use Rattle.c5_definitions.specs.Follows.{Read, Follows}
use Rattle.c5_definitions.specs.History.{Begun, answered, last_stamp, open_txns, row_seen}
use Rattle.c5_definitions.specs.OrderLog.{IsOpen, IsOutcome, IsOrderHistory, IsFirstConflict}
use Rattle.c5_definitions.specs.OrderLog.{committed, committed_stamp, conflicts, history_log}
use Rattle.c5_definitions.specs.OrderLog.{open_stamp}
use Rattle.c5_definitions.specs.SerialRun.{body_at}
use Rattle.c5_order.specs.declared.answers.BeginFault.{BeginFault}
use Rattle.c5_order.specs.declared.answers.BeginFault.TheVariants as faults
use Rattle.c5_order.specs.declared.answers.Decision.TheVariants as decisions
use Rattle.c5_order.specs.declared.order.OrderState.{OrderState}
use Rattle.c5_order.specs.Answers.{begin_answer, begin_entry, IsDecision}
use Rattle.c5_order.specs.Transactions.{with_event, open_without}
use Rattle.c5_order.proofs.Later.{begins-unread, read-adds, ends-one, last-is-free, commit-counts}
use Rattle.c5_order.proofs.Later.{commits-stay}
use Rattle.c5_order.proofs.Versions.{contains-head}
use Rattle.c5_primary.specs.declared.state.HeldBase.{HeldBase}
use Rattle.c5_primary.specs.declared.state.Opened.{Opened}
use Rattle.c5_primary.specs.OpenStamps.{open_stamps}
use Rattle.c5_primary.specs.Finishing.{own_txn, GoesOn, IsAlone, AreCommittedBelow, begin_of}
use Rattle.c5_primary.specs.Finishing.{held_base}

-- ---- a history that has grown

pub stays : (order : OrderState) → GoesOn order order
stays order = record { base = refl; grew = ([], append-nil order.history) }

pub goes-on : (a b c : OrderState) → GoesOn a b → GoesOn b c → GoesOn a c
goes-on a b c f g = record {
  base = g.base ∙ f.base;
  grew = (
    f.grew.0 ++ g.grew.0,
    sym (append_assoc a.history f.grew.0 g.grew.0) ∙ ap (λ h. h ++ g.grew.0) f.grew.1 ∙ g.grew.1,
  );
}

pub one-more : (order new : OrderState) (e : Entry)
    → new ≡ record order { history = order.history ++ e ∷ [] } → GoesOn order new
one-more order new e is = record {
  base = ap (λ (o : OrderState). o.base) is;
  grew = (e ∷ [], sym (ap (λ (o : OrderState). o.history) is));
}

pub unchanged : (order new : OrderState) → new ≡ order → GoesOn order new
unchanged order new is = record {
  base = ap (λ (o : OrderState). o.base) is;
  grew = ([], append-nil order.history ∙ sym (ap (λ (o : OrderState). o.history) is));
}

-- what is committed stays so
pub still-committed : (n : ℕ) (a b : OrderState) → GoesOn a b
    → IsSome (committed_stamp n (committed a.history))
    → IsSome (committed_stamp n (committed b.history))
still-committed n a b g some = subst (λ h. IsSome (committed_stamp n (committed h))) g.grew.1
    (commits-stay a.history g.grew.0 n some)

-- ---- the one open transaction

first-of : (bs : List Begun) (s : ℕ) → map (λ (b : Begun). b.stamp) bs ≡ s ∷ [] → (b : Begun)
    × Contains bs b × (b.stamp ≡ s)
first-of [] s e = absurd cc
first-of (b ∷ bs) s e = (b, contains-head b bs, cc)

-- the transaction of the one open stamp
pub only-open : (h : List Entry) (s : ℕ) → open_stamps h ≡ s ∷ [] → (b : Begun) × IsOpen h b
    × (b.stamp ≡ s)
only-open h s e = first-of (open_txns h) s e

pub alone-open : (order : OrderState) (b : Begun) → IsAlone order b → IsOpen order.history b
alone-open order b alone = subst (λ bs. Contains bs b) (sym alone.only) (contains-head b [])

pub alone-stamps : (order : OrderState) (b : Begun) → IsAlone order b
    → open_stamps order.history ≡ b.stamp ∷ []
alone-stamps order b alone = ap (map (λ (b : Begun). b.stamp)) alone.only

-- ---- a read of it

abbrev pub read-entry : Begun → ℕ → RowName → Entry
read-entry b s name = record { caller = b.caller; stamp = s; event = events.Read name }

-- the history after a read
abbrev pub AfterRead : List Entry → Begun → ℕ → RowName → List Entry → Type 0
AfterRead h b s name g = IsOpen h b × (b.stamp ≡ s) × (g ≡ h ++ read-entry b s name ∷ [])

pub after-read : (order new : OrderState) (s : ℕ) (name : RowName)
    (o : (b : Begun) × IsOpen order.history b × (b.stamp ≡ s))
    → ((b : Begun) → IsOpen order.history b → b.stamp ≡ s
    → new ≡ record order { history = order.history ++ read-entry b s name ∷ [] })
    → AfterRead order.history o.0 s name new.history × (new.base ≡ order.base)
after-read order new s name (b, is_open, same) is = (
  (is_open, same, ap (λ (x : OrderState). x.history) (is b is_open same)),
  ap (λ (x : OrderState). x.base) (is b is_open same),
)

read-is : (h g : List Entry) (b : Begun) (s : ℕ) (name : RowName) → AfterRead h b s name g
    → with_event h b (events.Read name) ≡ g
read-is h g b s name (is_open, same, is) = ap (λ t. h ++ read-entry b t name ∷ []) same ∙ sym is

pub read-opens : (h g : List Entry) (b : Begun) (s : ℕ) (name : RowName) → AfterRead h b s name g
    → open_txns g ≡ open_txns h
read-opens h g b s name r = ap open_txns (sym (read-is h g b s name r)) ∙
    (read-adds empty h b name r.0).2

pub read-opens-stamps : (h g : List Entry) (b : Begun) (s : ℕ) (name : RowName)
    → AfterRead h b s name g → open_stamps g ≡ open_stamps h
read-opens-stamps h g b s name r = ap (map (λ (x : Begun). x.stamp)) (read-opens h g b s name r)

pub read-last : (last : ℕ) (h g : List Entry) (b : Begun) (s : ℕ) (name : RowName)
    → AfterRead h b s name g → last_stamp last g ≡ last_stamp last h
read-last last h g b s name r =
    ap (last_stamp last) (sym (read-is h g b s name r)) ∙ (read-adds empty h b name r.0).3 last

pub read-answer : (start : State) (h g : List Entry) (b : Begun) (s : ℕ) (name : RowName)
    (row : Option (List Cell)) → AfterRead h b s name g → row ≡ row_seen start h name s
    → answered start g s ≡ answered start h s ++ (name, row) ∷ []
read-answer start h g b s name row r is =
    ap (answered start g) (sym r.1)
    ∙ ap (λ x. answered start x b.stamp) (sym (read-is h g b s name r))
    ∙ (read-adds start h b name r.0).1
    ∙ ap (λ t. answered start h t ++ (name, row_seen start h name t) ∷ []) r.1
    ∙ ap (λ x. answered start h s ++ (name, x) ∷ []) (sym is)

pub read-first : (before : ℕ) (h g : List Entry) (b : Begun) (s : ℕ) (name : RowName)
    → AfterRead h b s name g → before ≤ length h → take before g ≡ take before h
read-first before h g b s name r low =
    ap (take before) r.2 ∙ take-append-le before h (read-entry b s name ∷ []) low

pub read-longer : (before : ℕ) (h g : List Entry) (b : Begun) (s : ℕ) (name : RowName)
    → AfterRead h b s name g → before ≤ length h → before ≤ length g
read-longer before h g b s name r low = let n =
    ap length r.2 ∙ length-append h (read-entry b s name ∷ []) in omega (arith, n, low)

pub read-held : (reference before : ℕ) (order new : OrderState) (b : Begun) (s : ℕ) (name : RowName)
    → AfterRead order.history b s name new.history → new.base ≡ order.base
    → before ≤ length order.history
    → held_base reference new s before ≡ held_base reference order s before
read-held reference before order new b s name r base low =
    let opens = ap (map begin_of) (read-opens order.history new.history b s name r) in
    let last =
    ap (λ (x : OrderBase). last_stamp x.last new.history) base ∙ read-last order.base.last
    order.history new.history b s name r in
    let first = read-first before order.history new.history b s name r low in
    same-held reference s before new.base order.base (map begin_of (open_txns new.history))
    (map begin_of (open_txns order.history)) (last_stamp new.base.last new.history)
    (last_stamp order.base.last order.history) (take before new.history)
    (take before order.history) base opens last first
  where
    same-held : (reference s before : ℕ) (base base' : OrderBase) (opens opens' : List Entry)
        (last last' : ℕ) (first first' : List Entry) → base ≡ base' → opens ≡ opens' → last ≡ last'
        → first ≡ first'
        → ◌≡◌ {A = HeldBase}
        (record {
          reference = reference;
          base = base;
          stamp = s;
          opens = opens;
          last = last;
          before = before;
          first = first;
        })
        (record {
          reference = reference;
          base = base';
          stamp = s;
          opens = opens';
          last = last';
          before = before;
          first = first';
        })
    same-held reference s before base base' opens opens' last last' first first' a b c d =
        rw (a, b, c, d) refl

-- ---- after its reads

script-in : Event → ℕ
script-in (events.Begin n) = n
script-in (events.Read name) = 0
script-in (events.Commit writes) = 0
script-in events.Cancel = 0

begun-is : (a b : Begun) → begin_of a ≡ begin_of b → a ≡ b
unfolding script-in
begun-is a b e =
    let caller : a.caller ≡ b.caller = ap (λ (x : Entry). x.caller) e in
    let stamp : a.stamp ≡ b.stamp = ap (λ (x : Entry). x.stamp) e in
    let script : a.script ≡ b.script = ap (λ (x : Entry). script-in x.event) e in
    same a.caller b.caller a.stamp b.stamp a.script b.script caller stamp script
  where
    same : (c c' s s' n n' : ℕ) → c ≡ c' → s ≡ s' → n ≡ n'
        → ◌≡◌ {A = Begun} (record { caller = c; stamp = s; script = n })
        (record { caller = c'; stamp = s'; script = n' })
    same c c' s s' n n' x y z = rw (x, y, z) refl

opens-are : (bs : List Begun) (b : Begun) → map begin_of bs ≡ begin_of b ∷ [] → bs ≡ b ∷ []
opens-are [] b e = absurd cc
opens-are (x ∷ []) b e = ap (λ y. y ∷ []) (begun-is x b cc)
opens-are (x ∷ y ∷ bs) b e = absurd cc

-- what the reads of a body left
pub record HeldStill (order new : OrderState) (b : Begun) : Type 0 where
  pub goes_on : GoesOn order new
  pub alone : IsAlone new b

prefix-of : (h g : List Entry) → take (length h) g ≡ h → IsPrefix h g
prefix-of h g is =
    (drop (length h) g, ap (λ x. x ++ drop (length h) g) (sym is) ∙ take-append-drop (length h) g)

pub held-still : (reference name before count : ℕ) (order new : OrderState) (s : ℕ) (b : Begun)
    → IsAlone order b → count ≡ length order.history
    → held_base name new s before ≡ held_base reference order b.stamp count
    → HeldStill order new b
held-still reference name before count order new s b alone long is =
    let base : new.base ≡ order.base = ap (λ (x : HeldBase). x.base) is in
    let opens : map begin_of (open_txns new.history) ≡ begin_of b ∷ [] =
    ap (λ (x : HeldBase). x.opens) is ∙ ap (map begin_of) alone.only in
    let last : last_stamp new.base.last new.history ≡ b.stamp =
    ap (λ (x : HeldBase). x.last) is ∙ alone.last in
    let same : before ≡ length order.history = ap (λ (x : HeldBase). x.before) is ∙ long in
    let first : take before new.history ≡ order.history =
    ap (λ (x : HeldBase). x.first) is ∙ ap
    (λ n. take n order.history) long ∙ take-length order.history in
    record {
      goes_on =
          record {
            base = base;
            grew = prefix-of order.history new.history
                (ap (λ n. take n new.history) (sym same) ∙ first);
          };
      alone = record { only = opens-are (open_txns new.history) b opens; last = last };
    }

pub outcome-of : (order : OrderState) (o : Opened) (base : OrderBase) (body : List Statement)
    (reads : List Read) (declined : Bool) (writes : List Write) → order.base ≡ base
    → body ≡ body_at base.bodies o.script → answered order.base.start order.history o.stamp ≡ reads
    → Follows body reads declined writes
    → IsOutcome order.base order.history (own_txn o) writes
outcome-of order o base body reads declined writes same is answers follows = (
  declined,
  subst (λ rs. Follows (body_at order.base.bodies o.script) rs declined writes) (sym answers)
      (subst (λ these. Follows these reads declined writes)
      (is ∙ ap (λ (x : OrderBase). body_at x.bodies o.script) (sym same)) follows),
)

-- ---- its begin

entry-is : (opened : Option ℕ) (last : ℕ) → opened ≡ None → last + 1 < 2 ^ 64
    → begin_entry None opened last ≡ Ok (last + 1)
entry-is opened last none low =
    let other : eqb last (2 ^ 64 - 1) ≡ false =
    ne_eqb last (2 ^ 64 - 1) (λ e. omega (arith, e, low)) in
    rw (none, other) refl

pub begins : (last : ℕ) (h : List Entry) (script : ℕ) → committed_stamp script (committed h) ≡ None
    → open_txns h ≡ [] → last_stamp last h + 1 < 2 ^ 64
    → begin_answer last h script ≡ Ok (last_stamp last h + 1)
begins last h script left none low =
    ap (λ x. begin_entry x (open_stamp script (open_txns h)) (last_stamp last h)) left
    ∙ entry-is (open_stamp script (open_txns h)) (last_stamp last h)
    (ap (open_stamp script) none) low

-- a begin has no fault but out of memory
pub begins-only : (last : ℕ) (h : List Entry) (script : ℕ) (result : Result ℕ BeginFault)
    (fault : BeginFault) → committed_stamp script (committed h) ≡ None → open_txns h ≡ []
    → last_stamp last h + 1 < 2 ^ 64
    → (result ≡ begin_answer last h script) ⊎ (result ≡ Err faults.NoMemory) → result ≡ Err fault
    → fault ≡ faults.NoMemory
begins-only last h script result fault left none low (inl e) is =
    absurd (let x : Err fault ≡ Ok (last_stamp last h + 1) =
    sym is ∙ e ∙ begins last h script left none low in cc)
begins-only last h script result fault left none low (inr e) is =
    let x : Err fault ≡ Err faults.NoMemory = sym is ∙ e in cc

pub begins-next : (last : ℕ) (h : List Entry) (script stamp : ℕ) (result : Result ℕ BeginFault)
    → committed_stamp script (committed h) ≡ None → open_txns h ≡ []
    → last_stamp last h + 1 < 2 ^ 64
    → (result ≡ begin_answer last h script) ⊎ (result ≡ Err faults.NoMemory) → result ≡ Ok stamp
    → stamp ≡ last_stamp last h + 1
begins-next last h script stamp result left none low (inl e) is =
    let x : Ok stamp ≡ Ok (last_stamp last h + 1) =
    sym is ∙ e ∙ begins last h script left none low in cc
begins-next last h script stamp result left none low (inr e) is =
    absurd (let x : Ok stamp ≡ Err faults.NoMemory = sym is ∙ e in cc)

begun-last : (order new : OrderState) (o : Opened)
    → new ≡ record order { history = with_event order.history (own_txn o) (events.Begin o.script) }
    → IsOrderHistory new.base new.history
    → IsOrderHistory order.base (with_event order.history (own_txn o) (events.Begin o.script))
begun-last order new o is allowed =
    subst (λ (x : OrderState). IsOrderHistory x.base x.history) is allowed

pub begun-alone : (order new : OrderState) (o : Opened) → open_txns order.history ≡ []
    → new ≡ record order { history = with_event order.history (own_txn o) (events.Begin o.script) }
    → IsOrderHistory new.base new.history → IsAlone new (own_txn o)
begun-alone order new o none is allowed =
    let b = begins-unread order.base order.history (own_txn o)
    (begun-last order new o is allowed) in
    subst (λ (x : OrderState). IsAlone x (own_txn o)) (sym is)
    (record { only = b.2 ∙ ap (λ bs. bs ++ own_txn o ∷ []) none; last = b.3 })

pub begun-unread : (order new : OrderState) (o : Opened)
    → new ≡ record order { history = with_event order.history (own_txn o) (events.Begin o.script) }
    → IsOrderHistory new.base new.history → answered new.base.start new.history o.stamp ≡ []
begun-unread order new o is allowed =
    subst (λ (x : OrderState). answered x.base.start x.history o.stamp ≡ []) (sym is)
    (begins-unread order.base order.history (own_txn o) (begun-last order new o is allowed)).1

-- ---- its end

pub no-conflict : (order : OrderState) (b : Begun) (writes : List Write) (row : RowName)
    (reader : ℕ) → IsAlone order b → IsOrderHistory order.base order.history
    → IsDecision order.history b.stamp writes (decisions.Conflict row reader) → ⊥
no-conflict order b writes row reader alone allowed first =
    let none = last-is-free order.base order.history b.stamp writes allowed
    (omega (arith, alone.last)) in
    let there =
    subst (λ all. Contains all (record { row = row; reader = reader })) none first.found in
    omega (arith, there.1)

abbrev pub AfterCommit : OrderState → Begun → List Write → OrderState → Type 0
AfterCommit order b writes new =
    new ≡ record order { history = with_event order.history b (events.Commit writes) }

pub none-left : (order new : OrderState) (b : Begun) (writes : List Write) → IsAlone order b
    → AfterCommit order b writes new → open_txns new.history ≡ []
none-left order new b writes alone is =
    ap (λ (x : OrderState). open_txns x.history) is
    ∙ (ends-one order.history b writes).0
    ∙ ap (filter (λ x. not (eqb x.stamp b.stamp))) alone.only
    ∙ rw (eq-eqb b.stamp b.stamp refl) refl

pub same-last : (order new : OrderState) (b : Begun) (writes : List Write) → IsAlone order b
    → AfterCommit order b writes new → last_stamp new.base.last new.history ≡ b.stamp
same-last order new b writes alone is =
    ap (λ (x : OrderState). last_stamp x.base.last x.history) is ∙
    (ends-one order.history b writes).2 order.base.last ∙ alone.last

pub now-committed : (order new : OrderState) (b : Begun) (writes : List Write) → IsAlone order b
    → AfterCommit order b writes new → IsSome (committed_stamp b.script (committed new.history))
now-committed order new b writes alone is =
    subst (λ (x : OrderState). IsSome (committed_stamp b.script (committed x.history))) (sym is)
    (commit-counts order.history b writes (alone-open order b alone))

-- ---- cancels

filter-fewer : (p : Begun → Bool) (bs : List Begun) → length (filter p bs) ≤ length bs
filter-fewer p [] = omega arith
filter-fewer p (b ∷ bs) = by (p b) (filter-fewer p bs)
  where
    by : (t : Bool) → length (filter p bs) ≤ length bs
        → length (cond t (b ∷ filter p bs) (filter p bs)) ≤ suc (length bs)
    by true low = omega (arith, low)
    by false low = omega (arith, low)

filter-less : (p : Begun → Bool) (bs : List Begun) (k : ℕ) (d : Begun) → k < length bs
    → p (get_or bs k d) ≡ false → length (filter p bs) < length bs
filter-less p [] k d lt gone = absurd (omega arith)
filter-less p (b ∷ bs) zero d lt gone = let low = filter-fewer p bs in rw gone (omega (arith, low))
filter-less p (b ∷ bs) (suc k) d lt gone = by (p b) (filter-less p bs k d (omega arith) gone)
  where
    by : (t : Bool) → length (filter p bs) < length bs
        → length (cond t (b ∷ filter p bs) (filter p bs)) < suc (length bs)
    by true low = omega (arith, low)
    by false low = omega (arith, low)

-- the order book after a cancel
abbrev pub AfterCancel : OrderState → Begun → ℕ → OrderState → Type 0
AfterCancel order b s new = IsOpen order.history b × (b.stamp ≡ s)
    × (new ≡ record order {
      history = order.history
          ++ record { caller = b.caller; stamp = s; event = events.Cancel } ∷ [];
    })

cancel-is : (order new : OrderState) (b : Begun) (s : ℕ) → AfterCancel order b s new
    → new ≡ record order { history = with_event order.history b events.Cancel }
cancel-is order new b s (is_open, same, is) =
    is ∙ ap (λ t. record order {
      history = order.history
          ++ record { caller = b.caller; stamp = t; event = events.Cancel } ∷ [];
    }) (sym same)

pub cancel-fewer : (order new : OrderState) (b : Begun) (s : ℕ) → AfterCancel order b s new
    → length (open_txns new.history) < length (open_txns order.history)
cancel-fewer order new b s c =
    let (k, lt, is) = c.0 in
    let no : not (eqb (get_or (open_txns order.history) k b).stamp b.stamp) ≡ false =
    rw (eq-eqb (get_or (open_txns order.history) k b).stamp b.stamp
    (ap (λ (x : Begun). x.stamp) is)) refl in
    let less = filter-less (λ x. not (eqb x.stamp b.stamp)) (open_txns order.history) k b lt no in
    let left : open_txns new.history ≡ open_without b.stamp order.history =
    ap (λ (x : OrderState). open_txns x.history) (cancel-is order new b s c) ∙
    (ends-one order.history b []).1 in
    subst (λ bs. length bs < length (open_txns order.history)) (sym left) less

pub cancel-last : (order new : OrderState) (b : Begun) (s : ℕ) → AfterCancel order b s new
    → last_stamp new.base.last new.history ≡ last_stamp order.base.last order.history
cancel-last order new b s c = ap (λ (x : OrderState). last_stamp x.base.last x.history)
    (cancel-is order new b s c) ∙ (ends-one order.history b []).3 order.base.last

-- ---- the log of an order book in which no transaction is open

all-kept : (txns : List Txn) → filter (λ (t : Txn). true) txns ≡ txns
all-kept [] = refl
all-kept (t ∷ ts) = ap (λ xs. t ∷ xs) (all-kept ts)

pub log-of-all : (h : List Entry) → open_txns h ≡ [] → history_log h ≡ committed h
unfolding history_log
log-of-all h none =
    ap (λ (bs : List Begun). filter
    (λ (txn : Txn). list_all (λ (b : Begun). ltb txn.stamp b.stamp) bs) (committed h)) none ∙
    all-kept (committed h)

-- ---- the bodies below a number

pub one-more-below : (n : ℕ) (h : List Entry) → AreCommittedBelow n h
    → IsSome (committed_stamp n (committed h)) → AreCommittedBelow (n + 1) h
one-more-below n h below here k lt = by (eqb k n) refl
  where
    apart : eqb k n ≡ false → k < n
    apart e = let ne : k ≡ n → ⊥ = λ same. true≢false (sym (eq-eqb k n same) ∙ e) in
        omega (arith, ne)

    by : (t : Bool) → eqb k n ≡ t → IsSome (committed_stamp k (committed h))
    by true e = subst (λ m. IsSome (committed_stamp m (committed h))) (sym (eqb-true k n e)) here
    by false e = below k (apart e)

pub below-still : (n : ℕ) (a b : OrderState) → GoesOn a b → AreCommittedBelow n a.history
    → AreCommittedBelow n b.history
below-still n a b g below k lt = still-committed k a b g (below k lt)

-- the bodies below a number are committed, each with at most one new stamp, and none is open
pub record LeftSoFar (start order : OrderState) (n : ℕ) : Type 0 where
  pub goes_on : GoesOn start order
  pub ended : open_txns order.history ≡ []
  pub last : last_stamp order.base.last order.history ≤ last_stamp start.base.last start.history + n
  pub committed : AreCommittedBelow n order.history

pub one-more-run : (start order new : OrderState) (n : ℕ) → LeftSoFar start order n
    → GoesOn order new
    → last_stamp new.base.last new.history ≤ last_stamp order.base.last order.history + 1
    → open_txns new.history ≡ [] → IsSome (committed_stamp n (committed new.history))
    → LeftSoFar start new (n + 1)
one-more-run start order new n so_far goes_on low none here = record {
  goes_on = goes-on start order new so_far.goes_on goes_on;
  ended = none;
  last = let before = so_far.last in omega (arith, low, before);
  committed = one-more-below n new.history (below-still n order new goes_on so_far.committed) here;
}

pub one-more-there : (start order : OrderState) (n : ℕ) → LeftSoFar start order n
    → is_some (committed_stamp n (committed order.history)) ≡ true → LeftSoFar start order (n + 1)
one-more-there start order n so_far some = record {
  goes_on = so_far.goes_on;
  ended = so_far.ended;
  last = let before = so_far.last in omega (arith, before);
  committed = one-more-below n order.history so_far.committed some;
}
