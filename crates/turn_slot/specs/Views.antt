-- What passes know, as plain data, and the rule of the slot.
use Rattle.std.specs.Prelude.{◌≡◌, ◌≢◌, ℕ, ◌≤◌, Bool, true, false, List, [], ◌∷◌, ◌++◌, length}
use Rattle.std.specs.Prelude.{take, drop, slice_index, All, Option, Some, None}
use mathlib.Core.Option.{some, none}
use mathlib.Core.Option as maybe
use lib.ListN.{get_elem?}
use Rattle.atomic_table.specs.Table.{State, Me, Step}
use Rattle.turn_slot.specs.declared.known.Known.{Known}
use Rattle.turn_slot.specs.declared.known.Origin.{Origin}
use Rattle.turn_slot.specs.declared.known.Part.{Part}
use Rattle.turn_slot.specs.declared.known.TurnStage.{TurnStage}
use Rattle.turn_slot.specs.declared.known.TurnStage.TheVariants.{Without, Won, Out, Back}
use Rattle.turn_slot.specs.Entries.{count_of, IsPassNumber, entries_of, longer, IsSeenOf}
use Rattle.c5_rows.specs.Numbers.{is_among, numbers_from}

abbrev pub has_turn : TurnStage → Bool
has_turn Without = false
has_turn Won = true
has_turn Out = true
has_turn Back = true

-- a pass's number is the first that it unites
abbrev pub pass_number : List ℕ → ℕ
pass_number numbers = slice_index numbers 0

module _ {B E : Type 0} where
  -- a pass of these numbers that has seen and tried nothing
  abbrev pub new_view : Origin B → List ℕ → Known B E
  new_view origin numbers =
      record {
        origin = Some origin;
        numbers = numbers;
        seen = [];
        looks = [];
        stage = Without;
        parts = [];
      }

  -- the first pass, before any is split off
  abbrev pub first_view : Origin B → Known B E
  first_view origin = new_view origin (numbers_from 1 origin.passes)

  -- what a pass that was joined to another knows
  abbrev pub spent_view : Known B E
  spent_view =
      record { origin = None; numbers = []; seen = []; looks = []; stage = Without; parts = [] }

  -- the parts of a split: the other numbers, and the first one
  abbrev pub others_view : Known B E → Known B E
  others_view v =
      record {
        origin = v.origin;
        numbers = drop 1 v.numbers;
        seen = v.seen;
        looks = v.looks;
        stage = v.stage;
        parts = [];
      }

  abbrev pub single_view : Known B E → Known B E
  single_view v =
      record {
        origin = v.origin;
        numbers = take 1 v.numbers;
        seen = v.seen;
        looks = [];
        stage = Without;
        parts = [];
      }

  -- what a pass is to the one that it is joined to
  abbrev pub part_of : Known B E → Part E
  part_of v = record { numbers = v.numbers; seen = v.seen }

  abbrev pub joined_view : Known B E → Known B E → Known B E
  joined_view v w =
      record {
        origin = v.origin;
        numbers = v.numbers ++ w.numbers;
        seen = longer v.seen w.seen;
        looks = v.looks;
        stage = v.stage;
        parts = part_of v ∷ part_of w ∷ [];
      }

  -- the exchange found n
  abbrev pub looked_view : Known B E → ℕ → TurnStage → Known B E
  looked_view v n stage =
      record {
        origin = v.origin;
        numbers = v.numbers;
        seen = v.seen;
        looks = v.looks ++ n ∷ [];
        stage = stage;
        parts = [];
      }

  -- this history was seen
  abbrev pub saw_view : Known B E → List E → TurnStage → Known B E
  saw_view v seen stage =
      record {
        origin = v.origin;
        numbers = v.numbers;
        seen = seen;
        looks = v.looks;
        stage = stage;
        parts = [];
      }

  -- the origin that a pass knows
  abbrev pub IsFrom : Origin B → Known B E → Type 0
  IsFrom origin v = v.origin ≡ Some origin

  -- it hasn't the turn and no slot, and it has a number
  abbrev pub IsIdle : {S : Type 0} → ℕ → Me S (Known B E) → Type 0
  IsIdle number me = (me.1 ≡ []) × (me.0.stage ≡ Without)
      × (me.0.numbers ≡ number ∷ drop 1 me.0.numbers)

  -- it has the turn, and the slot without its value
  abbrev pub IsOut : {V : Type 0} → ℕ → Me (Option V) (Known B E) → Type 0
  IsOut {V} number me = (me.1 ≡ (0, None) ∷ []) × (me.0.stage ≡ Out)
      × (me.0.numbers ≡ number ∷ drop 1 me.0.numbers)

-- of a joined pass: its numbers are among these, and what it had seen is what it saw of the log
abbrev pub IsPartOf : {E : Type 0} → (E → ℕ) → List E → List ℕ → Part E → Type 0
IsPartOf caller log numbers p =
    ((n : ℕ) → is_among n p.numbers ≡ true → is_among n numbers ≡ true)
    × IsSeenOf caller log p.numbers p.seen

module _ {B E : Type 0} (caller : E → ℕ) (origin : Origin B) (log : List E) (holder : ℕ)
    (stage : TurnStage) (who : ℕ) (owner : ℕ → ℕ) where
  -- what the rule says of one seat
  pub record Fits (seat : ℕ) (v : Known B E) : Type 0 where
    pub same_origin : (o : Origin B) → v.origin ≡ Some o → o ≡ origin
    pub numbers : (n : ℕ) → is_among n v.numbers ≡ true → IsPassNumber origin.passes n
        × (owner n ≡ seat)
    pub seen : IsSeenOf caller log v.numbers v.seen
    pub looks : All (λ n. n ≤ origin.passes) v.looks
    pub turn : has_turn v.stage ≡ true → (seat ≡ who) × (stage ≡ v.stage)
        × (pass_number v.numbers ≡ holder)
    pub seen_all : v.stage ≡ Out → v.seen ≡ log
    pub parts : All (IsPartOf caller log v.numbers) v.parts

module _ {V B E : Type 0} (base : V → B) (history : V → List E) where
  -- a value with this base and history lies in the slot
  abbrev pub LiesIn : List (maybe.Option (Option V)) → B → List E → Type 0
  LiesIn homes b log = (x : V) × (homes ≡ some (Some x) ∷ []) × (base x ≡ b) × (history x ≡ log)

  -- the value is in the slot, unless it is out with the turn
  abbrev pub IsPlaced : TurnStage → List (maybe.Option (Option V)) → B → List E → Type 0
  IsPlaced Without homes b log = LiesIn homes b log
  IsPlaced Won homes b log = LiesIn homes b log
  IsPlaced Out homes b log = homes ≡ none ∷ []
  IsPlaced Back homes b log = LiesIn homes b log

-- The rule. The log is the history of the value when it was last in the slot; `who` is the seat
-- with the turn, and `owner` the seat of each number
pub record IsSlotKept {V B E : Type 0} (base : V → B) (history : V → List E) (caller : E → ℕ)
    (origin : Origin B) (s : State (Option V) (Known B E)) : Type 0 where
  pub log : List E
  pub holder : ℕ
  pub stage : TurnStage
  pub who : ℕ
  pub owner : ℕ → ℕ
  pub words : s.words ≡ holder ∷ count_of (length log) ∷ []
  pub place : IsPlaced base history stage s.homes origin.base log
  pub free : holder ≡ 0 → stage ≡ Without
  pub held : holder ≢ 0 → (v : Known B E) × (get_elem? s.views who ≡ some v)
      × (has_turn v.stage ≡ true)
  pub each : (seat : ℕ) (v : Known B E) → get_elem? s.views seat ≡ some v
      → Fits caller origin log holder stage who owner seat v
  pub owned : (n : ℕ) → IsPassNumber origin.passes n → (v : Known B E)
      × (get_elem? s.views (owner n) ≡ some v) × (is_among n v.numbers ≡ true)
  pub callers : All (λ e. IsPassNumber origin.passes (caller e)) log

-- ---- what each step shows

abbrev Sat : Type 0 → Type 0 → Type 0 → Type 0
Sat V B E = Me (Option V) (Known B E)

module _ {V B E : Type 0} where
  -- the exchange found 0, and the pass has the turn; or it found the number of another pass
  abbrev pub tried : Step (Option V) → Sat V B E → ℕ → Sat V B E → Type 0
  tried st m n m' = (n ≡ 0 → m' ≡ (looked_view m.0 0 Won, m.1))
      × (n ≢ 0 → (m' ≡ (looked_view m.0 n Without, m.1)) × (is_among n m.0.numbers ≡ false)
      × ((o : Origin B) → m.0.origin ≡ Some o → IsPassNumber o.passes n))

  module _ (base : V → B) (history : V → List E) (caller : E → ℕ) where
    -- the slot was taken, with the value in it, whose history the pass has then seen
    abbrev pub took : Step (Option V) → Sat V B E → ℕ → Sat V B E → Type 0
    took st m n m' = (x : V) × (m' ≡ (saw_view m.0 (history x) Out, (0, Some x) ∷ m.1))
        × IsSeenOf caller (history x) m.0.numbers m.0.seen
        × ((o : Origin B) → m.0.origin ≡ Some o → base x ≡ o.base)
        × (n ≡ count_of (length (history x)))

  -- the slot was given back, with the value in it
  abbrev pub gave : (V → List E) → Step (Option V) → Sat V B E → ℕ → Sat V B E → Type 0
  gave history st m n m' = (x : V) → m.1 ≡ (0, Some x) ∷ []
      → m' ≡ (saw_view m.0 (history x) Back, [])

  -- the turn was ended
  abbrev pub ended : Step (Option V) → Sat V B E → ℕ → Sat V B E → Type 0
  ended st m n m' = m' ≡ (saw_view m.0 m.0.seen Without, m.1)

  -- the pass has seen each own entry of the parts that were joined into it
  abbrev pub settled : (E → ℕ) → Step (Option V) → Sat V B E → ℕ → Sat V B E → Type 0
  settled caller st m n m' = (m' ≡ (saw_view m.0 m.0.seen Without, m.1))
      × All (λ (p : Part E). entries_of caller p.numbers m.0.seen
      ≡ entries_of caller p.numbers p.seen) m.0.parts
