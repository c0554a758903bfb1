-- Reading line by line.
use Rattle.std.proofs.Common.{◌≡◌, ◌+◌, ℕ, Bool, true, false, List, [], ◌∷◌, Some, None, Result, Ok}
use Rattle.std.proofs.Common.{Err, refl, ap, sym, subst, if◌then◌else◌}
use Rattle.c5_definitions.specs.declared.script.ScriptKind.{ScriptKind}
use Rattle.c5_definitions.specs.declared.script.ScriptKind.TheVariants as kinds
use Rattle.c5_definitions.specs.declared.script.ScriptFault.{ScriptFault}
use Rattle.c5_definitions.specs.Steps.{◌>>=◌}
use Rattle.c5_definitions.specs.ScriptParts.{ScriptParts}
use Rattle.c5_definitions.specs.ScriptSoFar.{ScriptSoFar, script_start, is_closed, parts_of}
use Rattle.c5_definitions.specs.Lines.{lines_of}
use Rattle.c5_definitions.specs.Script.{on_line, fault_on, after_numbered, script_from, script_of}
use Rattle.c5_script.specs.declared.fault.LineError.{LineError}
use Rattle.c5_script.specs.declared.fault.LineError.TheVariants as errors
use Rattle.c5_script.specs.declared.parsing.ParseFault.{ParseFault}
use Rattle.c5_script.specs.declared.parsing.ParseFault.TheVariants as faults
use Rattle.c5_script.specs.Taking.{Fails}
use Rattle.c5_script.specs.Parsing.{ParseFails, parse_fault_on}

-- ---- one line

-- a line that fails a test has a fault
line_fails : {Y : Type 0} (number : ℕ) (error : LineError) (read : Result Y ScriptKind)
    → Fails error read → ParseFails (parse_fault_on number error) (on_line number read)
line_fails number (errors.Fault kind) read h = ap (on_line number) h
line_fails number errors.NoMemory read h = tt

pub words_fail : {X Y : Type 0} (number : ℕ) (error : LineError) (words : Result X ScriptKind)
    (f : X → Result Y ScriptKind) → Fails error words
    → ParseFails (parse_fault_on number error) (on_line number (words >>= f))
words_fail number (errors.Fault kind) words f h = ap (λ w. on_line number (w >>= f)) h
words_fail number errors.NoMemory words f h = tt

pub step_fails : {X Y : Type 0} (number : ℕ) (error : LineError) (words : Result X ScriptKind)
    (held : X) (f : X → Result Y ScriptKind) → words ≡ Ok held → Fails error (f held)
    → ParseFails (parse_fault_on number error) (on_line number (words >>= f))
step_fails number error words held f e h =
    subst (λ w. ParseFails (parse_fault_on number error) (on_line number (w >>= f))) (sym e)
    (line_fails number error (f held) h)

-- ---- all lines

pub script-starts : (bytes : List ℕ) (s : ScriptSoFar) → s ≡ script_start
    → script_of bytes ≡ script_from 1 s (lines_of bytes)
unfolding script_of
script-starts bytes s e = ap (λ (s : ScriptSoFar). script_from 1 s (lines_of bytes)) (sym e)

pub script-goes : (number : ℕ) (s next : ScriptSoFar) (line : List ℕ) (lines : List (List ℕ))
    → after_numbered number s line ≡ Ok next
    → script_from number s (line ∷ lines) ≡ script_from (number + 1) next lines
unfolding script_from
script-goes number s next line lines e =
    ap (λ taken. taken >>= λ next. script_from (number + 1) next lines) e

pub script-fails : (number : ℕ) (s : ScriptSoFar) (line : List ℕ) (lines : List (List ℕ))
    (fault : ParseFault) → ParseFails fault (after_numbered number s line)
    → ParseFails fault (script_from number s (line ∷ lines))
unfolding script_from
script-fails number s line lines (faults.Bad fault) e =
    ap (λ taken. taken >>= λ next. script_from (number + 1) next lines) e
script-fails number s line lines faults.NoMemory e = tt

-- at the end

closed-Some : (b : Bool) (script : ScriptParts) (end : ScriptParts)
    (other : Result ScriptParts ScriptFault) → Some script ≡ (if b then Some end else None)
    → (if b then Ok end else other) ≡ Ok script
closed-Some true script end other e = cc
closed-Some false script end other e = absurd cc

closed-None : (b : Bool) (end : ScriptParts) (other : Result ScriptParts ScriptFault)
    → None ≡ (if b then Some end else None) → (if b then Ok end else other) ≡ other
closed-None true end other e = absurd cc
closed-None false end other e = refl

pub script-ends : (number : ℕ) (s : ScriptSoFar) (script : ScriptParts)
    → Some script ≡ (if is_closed s then Some (parts_of s) else None)
    → script_from number s (lines_of []) ≡ Ok script
unfolding script_from lines_of
script-ends number s script e =
    closed-Some (is_closed s) script (parts_of s) (fault_on number kinds.Unclosed) e

pub script-unclosed : (number : ℕ) (s : ScriptSoFar)
    → None ≡ (if is_closed s then Some (parts_of s) else None)
    → script_from number s (lines_of []) ≡ Err (record { line = number; kind = kinds.Unclosed })
unfolding script_from lines_of
script-unclosed number s e = closed-None (is_closed s) (parts_of s)
    (fault_on number kinds.Unclosed) e
