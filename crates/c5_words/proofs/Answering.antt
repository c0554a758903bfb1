-- What the program answers to the end of a parse is what the words mean.
use Rattle.std.proofs.Common.{◌≡◌, ◌⊎◌, inl, inr, true, sym, subst, arith, List, [], ◌∷◌}
use Rattle.std.specs.Prelude.{Result, Err}
use Rattle.clap.specs.Walk.{Row, Text}
use Rattle.clap.specs.Simple.{App, is_simple, matches_of}
use Rattle.clap.specs.Kinds.{IsAmong, Kinds}
use Rattle.clap.specs.Faults.{fault_of, is_simple_and_free}
use Rattle.clap.specs.declared.error.kind.ErrorKind.{ErrorKind}
use Rattle.clap.specs.declared.error.kind.ErrorKind.TheVariants.{OutOfMemory}
use Rattle.c5_words.specs.Program.{program}
use Rattle.c5_words.specs.Meaning.{Answers, meaning_of, request_by, request_for, run_of}
use Rattle.c5_words.specs.declared.request.Request.{Request}
use Rattle.c5_words.specs.declared.request.WordsFault.{WordsFault}
use Rattle.c5_words.specs.declared.request.WordsFault.TheVariants.{NoMemory}
use Rattle.c5_words.proofs.OneKind.{IsOne}
use Rattle.c5_words.proofs.ProgramLemmas.{one_fault, program_is_simple}
use Rattle.c5_words.proofs.ProgramLemmas.{program_is_simple_and_free}

answer_by : (kinds : Kinds) (rows : List Row) (k : ErrorKind) (r : Result Request WordsFault)
    → IsOne kinds → (k ≡ OutOfMemory) ⊎ IsAmong k kinds → (k ≡ OutOfMemory → r ≡ Err NoMemory)
    → Answers (request_for k) r → Answers (request_by kinds rows) r
answer_by kinds rows k r one (inl m) memory h =
    subst (λ (x : Result Request WordsFault). Answers (request_by kinds rows) x) (sym (memory m)) tt
answer_by [] rows k r one (inr a) memory h = absurd a
answer_by (x ∷ []) rows k r one (inr (inl e)) memory h =
    subst (λ (y : ErrorKind). Answers (request_for y) r) e h
answer_by (x ∷ []) rows k r one (inr (inr a)) memory h = absurd a
answer_by (x ∷ y ∷ more) rows k r one (inr a) memory h =
    let few = one.few in
    absurd (omega arith)

pub answer_to_error : (a : App) → a ≡ program → (words : List Text) (k : ErrorKind)
    (r : Result Request WordsFault)
    → (is_simple_and_free a ≡ true → (k ≡ OutOfMemory) ⊎ IsAmong k (fault_of a words))
    → (k ≡ OutOfMemory → r ≡ Err NoMemory) → Answers (request_for k) r
    → Answers (meaning_of words) r
unfolding meaning_of
answer_to_error a is words k r kinds memory h =
    let here = subst (λ (x : App). is_simple_and_free x ≡ true
    → (k ≡ OutOfMemory) ⊎ IsAmong k (fault_of x words)) is kinds in
    answer_by (fault_of program words) (matches_of program words) k r (one_fault words)
    (here program_is_simple_and_free) memory h

pub answer_to_matches : (a : App) → a ≡ program → (words : List Text) (rows : List Row)
    (r : Result Request WordsFault) → (is_simple_and_free a ≡ true → fault_of a words ≡ [])
    → (is_simple a ≡ true → rows ≡ matches_of a words) → Answers (run_of rows) r
    → Answers (meaning_of words) r
unfolding meaning_of
answer_to_matches a is words rows r kinds matches h =
    let none = subst (λ (x : App). is_simple_and_free x ≡ true → fault_of x words ≡ []) is kinds in
    let same = subst (λ (x : App). is_simple x ≡ true → rows ≡ matches_of x words) is matches in
    subst (λ (kinds : Kinds). Answers (request_by kinds (matches_of program words)) r)
    (sym (none program_is_simple_and_free))
    (subst (λ (rs : List Row). Answers (run_of rs) r) (same program_is_simple) h)
