-- Reading line by line up to the line that ends a script.
use Rattle.std.proofs.Common.{◌≡◌, ◌∙◌, ◌+◌, ◌-◌, ◌≤◌, ◌&&◌, ℕ, zero, suc, Bool, true, false, eqb}
use Rattle.std.proofs.Common.{List, [], ◌∷◌, Option, Some, None, Result, Ok, Err, refl, ap, sym}
use Rattle.std.proofs.Common.{arith, if◌then◌else◌}
use Rattle.c5_definitions.specs.declared.script.ScriptKind.{ScriptKind}
use Rattle.c5_definitions.specs.declared.script.ScriptKind.TheVariants as kinds
use Rattle.c5_definitions.specs.declared.script.ScriptFault.{ScriptFault}
use Rattle.c5_definitions.specs.Steps.{◌>>=◌}
use Rattle.c5_definitions.specs.Words.{Word, bare, quoted}
use Rattle.c5_definitions.specs.ScriptParts.{ScriptParts}
use Rattle.c5_definitions.specs.ScriptSoFar.{ScriptSoFar, script_start, is_outside, has_table}
use Rattle.c5_definitions.specs.ScriptSoFar.{is_closed, parts_of}
use Rattle.c5_definitions.specs.Lines.{lines_of, after_lines, words_of}
use Rattle.c5_definitions.specs.Statements.{FrontLine, goes_on, log_follows, is_log_line, log_line}
use Rattle.c5_definitions.specs.Statements.{after_line, after_front_line}
use Rattle.c5_definitions.specs.Script.{on_line, after_front_numbered, front_from, front_of}
use Rattle.c5_script.specs.declared.parsing.ParseFault.{ParseFault}
use Rattle.c5_script.specs.declared.parsing.ParseFault.TheVariants as faults
use Rattle.c5_script.specs.Parsing.{ParseFails}

-- ---- the bytes after lines

behind-one_more : (count : ℕ) (bytes : List ℕ)
    → after_lines 1 (after_lines count bytes) ≡ after_lines (suc count) bytes
unfolding after_lines
behind-one_more zero bytes = refl
behind-one_more (suc count) [] = refl
behind-one_more (suc count) (byte ∷ bytes) =
    elim (eqb byte 10) as
    (λ v. after_lines 1 (if v then after_lines count bytes
    else after_lines (suc count) bytes)
    ≡ (if v then after_lines (suc count) bytes else after_lines (suc (suc count)) bytes)) [
      | true ↦ behind-one_more count bytes
      | false ↦ behind-one_more (suc count) bytes
    ]

pub behind-next : (number : ℕ) (bytes rest behind : List ℕ) → 1 ≤ number
    → after_lines (number - 1) bytes ≡ rest → after_lines 1 rest ≡ behind
    → after_lines number bytes ≡ behind
behind-next number bytes rest behind some before next =
    let more : suc (number - 1) ≡ number = omega arith in
    ap (λ (n : ℕ). after_lines n bytes) (sym more) ∙ sym (behind-one_more (number - 1) bytes) ∙ ap
    (after_lines 1) before ∙ next

-- ---- lines

pub front-starts : (bytes : List ℕ) (s : ScriptSoFar) → s ≡ script_start
    → front_from 1 script_start (lines_of bytes) ≡ front_from 1 s (lines_of bytes)
front-starts bytes s e = ap (λ (s : ScriptSoFar). front_from 1 s (lines_of bytes)) (sym e)

front-step : ℕ → ScriptSoFar → List (List ℕ) → FrontLine → Result (ScriptParts × ℕ) ScriptFault
front-step number s lines (goes_on next) = front_from (number + 1) next lines
front-step number s lines log_follows = Ok (parts_of s, number)

front-line : (number : ℕ) (s : ScriptSoFar) (line : List ℕ) (lines : List (List ℕ))
    (taken : Result FrontLine ScriptFault) → after_front_numbered number s line ≡ taken
    → front_from number s (line ∷ lines) ≡ (taken >>= front-step number s lines)
unfolding front_from front-step
front-line number s line lines taken e = rw (← e) refl

pub front-goes : (number : ℕ) (s next : ScriptSoFar) (line : List ℕ) (lines : List (List ℕ))
    → after_front_numbered number s line ≡ Ok (goes_on next)
    → front_from number s (line ∷ lines) ≡ front_from (number + 1) next lines
unfolding front-step
front-goes number s next line lines e = front-line number s line lines (Ok (goes_on next)) e

pub front-fails : (number : ℕ) (s : ScriptSoFar) (line : List ℕ) (lines : List (List ℕ))
    (bytes : List ℕ) (fault : ParseFault)
    → front_from 1 script_start (lines_of bytes) ≡ front_from number s (line ∷ lines)
    → ParseFails fault (after_front_numbered number s line) → ParseFails fault (front_of bytes)
unfolding front_of
front-fails number s line lines bytes (faults.Bad fault) whole e =
    ap (λ r. r >>= λ front. Ok (front.0, after_lines front.1 bytes))
    (whole ∙ front-line number s line lines (Err fault) e)
front-fails number s line lines bytes faults.NoMemory whole e = tt

pub front-unclosed : (number : ℕ) (s : ScriptSoFar) (bytes : List ℕ)
    → front_from 1 script_start (lines_of bytes) ≡ front_from number s (lines_of [])
    → front_of bytes ≡ Err (record { line = number; kind = kinds.Unclosed })
unfolding front_of front_from lines_of
front-unclosed number s bytes whole =
    ap (λ r. r >>= λ front. Ok (front.0, after_lines front.1 bytes)) whole

pub front-ends : (number : ℕ) (s : ScriptSoFar) (line : List ℕ) (lines : List (List ℕ))
    (bytes behind : List ℕ)
    → front_from 1 script_start (lines_of bytes) ≡ front_from number s (line ∷ lines)
    → after_front_numbered number s line ≡ Ok log_follows → after_lines number bytes ≡ behind
    → front_of bytes ≡ Ok (parts_of s, behind)
unfolding front_of front-step
front-ends number s line lines bytes behind whole e rest =
    ap (λ r. r >>= λ front. Ok (front.0, after_lines front.1 bytes))
    (whole ∙ front-line number s line lines (Ok log_follows) e)
    ∙ ap (λ (rest : List ℕ). Ok (parts_of s, rest)) rest

-- ---- the line that ends a script is outside blocks, where a table may be

never_log : (number : ℕ) (taken : Result ScriptSoFar ScriptKind)
    → on_line number (taken >>= λ next. Ok (goes_on next)) ≡ Ok log_follows → ⊥
never_log number (Ok next) e = cc
never_log number (Err kind) e = cc

is_log : (number : ℕ) (b : Bool) (words : List Word) (taken : Result ScriptSoFar ScriptKind)
    → on_line number (if b then log_line words else (taken >>= λ next. Ok (goes_on next)))
    ≡ Ok log_follows → b ≡ true
is_log number true words taken e = refl
is_log number false words taken e = absurd (never_log number taken e)

both_true : (a b c : Bool) → (a && b && c) ≡ true → (b && c) ≡ true
both_true true true true e = refl
both_true true true false e = absurd cc
both_true true false c e = absurd cc
both_true false b c e = absurd cc

log_closed : (s : ScriptSoFar) (words : List Word) → is_log_line s words ≡ true → is_closed s ≡ true
unfolding is_closed
log_closed s [] e = absurd cc
log_closed s (quoted text ∷ words) e = absurd cc
log_closed s (bare first ∷ words) e = both_true _ (is_outside s.block) (has_table s) e

words_log : (number : ℕ) (s : ScriptSoFar) (words : Result (List Word) ScriptKind)
    → on_line number (words >>= after_front_line s) ≡ Ok log_follows → is_closed s ≡ true
unfolding after_front_line
words_log number s (Ok words) e =
    log_closed s words (is_log number (is_log_line s words) words (after_line s words) e)
words_log number s (Err kind) e = absurd cc

closed-Some : (b : Bool) (found : Option ScriptParts) (end : ScriptParts) → b ≡ true
    → found ≡ (if b then Some end else None) → found ≡ Some end
closed-Some true found end e f = f
closed-Some false found end e f = absurd cc

-- so what has been read can be a script
pub log-finishes : (number : ℕ) (s : ScriptSoFar) (line : List ℕ) (found : Option ScriptParts)
    → after_front_numbered number s line ≡ Ok log_follows
    → found ≡ (if is_closed s then Some (parts_of s) else None) → found ≡ Some (parts_of s)
log-finishes number s line found e f =
    closed-Some (is_closed s) found (parts_of s) (words_log number s (words_of line) e) f
