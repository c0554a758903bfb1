-- What each kind of step reports: the view after it, and what is known of the word that it found.
use Rattle.std.specs.Prelude.{◌≡◌, ◌≢◌, ◌≤◌, ◌<◌, ℕ, true, List, length}
use Rattle.atomic_table.specs.Seated.{TableId}
use Rattle.atomic_table.specs.Table.{Me, Step}
use Rattle.c5_rows.specs.declared.writes.RowName.{RowName}
use Rattle.c5_definitions.specs.WriteNumbers.{names_in, row_of, predecessor_of, end_of, IsWrite}
use Rattle.c5_definitions.specs.WriteNumbers.{IsFirstWrite}
use Rattle.c5_definitions.specs.RowIndex.{first_in_bucket}
use Rattle.c5_board.specs.declared.known.Known.{Known}
use Rattle.c5_board.specs.declared.known.Look.TheVariants.{LoadHead, ExchangeHead, LoadProgress}
use Rattle.c5_board.specs.declared.known.Look.TheVariants.{LoadVisible, LoadRecord, LoadScheduled}
use Rattle.c5_board.specs.declared.known.Look.TheVariants.{LoadBucket}
use Rattle.c5_board.specs.Sets.{number_of}
use Rattle.c5_rows.specs.Numbers.{is_among}
use Rattle.c5_board.specs.Words.{writes_in, buckets_in, head_word, record_word, progress_word}
use Rattle.c5_board.specs.Words.{bucket_word, packed}
use Rattle.c5_board.specs.Boards.{record_of, IsWorker, pass_of}
use Rattle.c5_board.specs.Passes.{IsHeadOf, IsSound, CoversRow, bucket_up_to}
use Rattle.c5_board.specs.Views.{looked, with_installed, with_look, with_floor, with_place}

abbrev pub Seated : Type 0
Seated = Me (Unit {0}) Known

abbrev pub names_of : Known → List RowName
names_of v = names_in v.log.txns

-- what every pass with this view shows is sound
abbrev pub SoundSeat : Seated → Type 0
SoundSeat m = (table : TableId) → IsSound (pass_of table m.0)

-- the seat's view is this one, and it holds no slot
abbrev pub Becomes : Seated → Seated → Known → Type 0
Becomes m m' v = (m' ≡ (v, m.1)) × SoundSeat m'

abbrev pub loads_head : Step (Unit {0}) → Seated → ℕ → Seated → Type 0
loads_head st m n m' = (row : ℕ) → IsFirstWrite (names_of m.0) row → st.word ≡ head_word row
    → Becomes m m' (looked m.0 n (LoadHead row n)) × IsHeadOf (names_of m.0) row n
    × ((table : TableId) → CoversRow (pass_of table m.0) row n)

abbrev pub exchanges_head : Step (Unit {0}) → Seated → ℕ → Seated → Type 0
exchanges_head st m n m' = (w : ℕ) → IsWrite (names_of m.0) w
    → st.word ≡ head_word (row_of (names_of m.0) w) → st.first ≡ predecessor_of (names_of m.0) w
    → st.second ≡ w
    → (n ≡ st.first → Becomes m m' (with_installed m.0 w (ExchangeHead w n)))
    × (n ≢ st.first → Becomes m m' (with_look m.0 (ExchangeHead w n)) × (n < st.first))
    × IsHeadOf (names_of m.0) (row_of (names_of m.0) w) n
    × ((table : TableId) → CoversRow (pass_of table m.0) (row_of (names_of m.0) w) n)

abbrev pub stores_progress : Step (Unit {0}) → Seated → ℕ → Seated → Type 0
stores_progress st m n m' = (i : ℕ) → IsWorker m.0.workers i → st.word ≡ progress_word m.0.log i
    → Becomes m m' (with_floor m.0 i n)

abbrev pub loads_progress : Step (Unit {0}) → Seated → ℕ → Seated → Type 0
loads_progress st m n m' = (i : ℕ) → IsWorker m.0.workers i → st.word ≡ progress_word m.0.log i
    → Becomes m m' (with_look (with_floor m.0 i n) (LoadProgress i n))
    × (number_of m.0.floors i ≤ n) × (1 ≤ n)
    × (is_among i m.0.roles ≡ true → n ≡ number_of m.0.floors i)
    × (m.0.snapshot ≡ true → end_of m.0.log.txns m.0.place < n)

abbrev pub stores_visible : Step (Unit {0}) → Seated → ℕ → Seated → Type 0
stores_visible st m n m' = Becomes m m' (with_place m.0 n)

abbrev pub loads_visible : Step (Unit {0}) → Seated → ℕ → Seated → Type 0
loads_visible st m n m' = Becomes m m' (with_look (with_place m.0 n) (LoadVisible n))
    × (m.0.place ≤ n) × (n ≤ length m.0.log.txns) × (m.0.snapshot ≡ true → n ≡ m.0.place)

abbrev pub stores_record : Step (Unit {0}) → Seated → ℕ → Seated → Type 0
stores_record st m n m' = (w : ℕ) → IsWrite (names_of m.0) w → st.word ≡ record_word m.0.log w
    → Becomes m m' (record m.0 { written = w })

abbrev pub loads_record : Step (Unit {0}) → Seated → ℕ → Seated → Type 0
loads_record st m n m' = (w : ℕ) → IsWrite (names_of m.0) w → st.word ≡ record_word m.0.log w
    → Becomes m m' (with_look m.0 (LoadRecord w (record_of (names_of m.0) w)))
    × (n ≡ packed (record_of (names_of m.0) w))

abbrev pub stores_scheduled : Step (Unit {0}) → Seated → ℕ → Seated → Type 0
stores_scheduled st m n m' = Becomes m m' (record m.0 { scheduled = n })

abbrev pub loads_scheduled : Step (Unit {0}) → Seated → ℕ → Seated → Type 0
loads_scheduled st m n m' = Becomes m m' (looked m.0 n (LoadScheduled n)) × (m.0.scheduled ≤ n)
    × (n ≤ writes_in m.0.log) × (m.0.scheduler ≡ true → n ≡ m.0.scheduled)

abbrev pub stores_bucket : Step (Unit {0}) → Seated → ℕ → Seated → Type 0
stores_bucket st m n m' = Becomes m m' (record m.0 { indexed = n })

abbrev pub loads_bucket : Step (Unit {0}) → Seated → ℕ → Seated → Type 0
loads_bucket st m n m' = (j : ℕ) → j < buckets_in m.0.log
    → st.word ≡ bucket_word m.0.log m.0.workers j
    → Becomes m m' (with_look m.0 (LoadBucket j n)) × (n ≢ 0 → n ≡ first_in_bucket (names_of m.0) j)
    × (first_in_bucket (names_of m.0) j ≤ m.0.scheduled → n ≡ first_in_bucket (names_of m.0) j)
    × (m.0.scheduler ≡ true → n ≡ bucket_up_to (names_of m.0) m.0.indexed j)
