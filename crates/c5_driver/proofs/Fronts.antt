-- What follows a script is an end of the whole.
use Rattle.std.proofs.Common.{◌≡◌, ◌≤◌, ◌-◌, ◌==◌, ℕ, zero, suc, Bool, true, false, List, [], ◌∷◌}
use Rattle.std.proofs.Common.{length, drop, Result, Ok, Err, ap, refl, subst, arith, ◌∙◌}
use Rattle.std.specs.Prelude.{if◌then◌else◌}
use Rattle.c5_definitions.specs.Steps.{◌>>=◌}
use Rattle.c5_definitions.specs.Lines.{after_lines, lines_of}
use Rattle.c5_definitions.specs.ScriptParts.{ScriptParts}
use Rattle.c5_definitions.specs.ScriptSoFar.{script_start}
use Rattle.c5_definitions.specs.Script.{front_from, front_of}
use Rattle.c5_definitions.specs.declared.script.ScriptFault.{ScriptFault}

-- the second list is the end of the first
pub record IsEnd (bytes rest : List ℕ) : Type 0 where
  pub short : length rest ≤ length bytes
  pub is : drop (length bytes - length rest) bytes ≡ rest

none-before : (bytes : List ℕ) → IsEnd bytes bytes
none-before bytes =
    let none : length bytes - length bytes ≡ 0 = omega arith in
    record { short = omega arith; is = ap (λ (n : ℕ). drop n bytes) none }

one-before : (byte : ℕ) (bytes rest : List ℕ) → IsEnd bytes rest → IsEnd (byte ∷ bytes) rest
one-before byte bytes rest end =
    let short = end.short in
    let one_more : length (byte ∷ bytes) - length rest ≡ suc (length bytes - length rest)
    = omega (arith, short) in
    record {
      short = omega (arith, short);
      is = ap (λ (n : ℕ). drop n (byte ∷ bytes)) one_more ∙ end.is;
    }

either-end : (b : Bool) (byte : ℕ) (bytes x y : List ℕ) → IsEnd bytes x → IsEnd bytes y
    → IsEnd (byte ∷ bytes) (if b then x else y)
either-end true byte bytes x y h k = one-before byte bytes x h
either-end false byte bytes x y h k = one-before byte bytes y k

after-end : (n : ℕ) (bytes : List ℕ) → IsEnd bytes (after_lines n bytes)
unfolding after_lines
after-end zero bytes = none-before bytes
after-end (suc n) [] = none-before []
after-end (suc n) (byte ∷ bytes) =
    either-end (byte == 10) byte bytes (after_lines n bytes) (after_lines (suc n) bytes)
    (after-end n bytes) (after-end (suc n) bytes)

-- what follows the script that was read, or else the bytes
abbrev rest_of : List ℕ → Result (ScriptParts × List ℕ) ScriptFault → List ℕ
rest_of bytes (Ok front) = front.1
rest_of bytes (Err fault) = bytes

rest-end : (bytes : List ℕ) (read : Result (ScriptParts × ℕ) ScriptFault)
    → IsEnd bytes (rest_of bytes (read >>= λ front. Ok (front.0, after_lines front.1 bytes)))
rest-end bytes (Ok front) = after-end front.1 bytes
rest-end bytes (Err fault) = none-before bytes

pub front-end : (bytes rest : List ℕ) (script : ScriptParts) → front_of bytes ≡ Ok (script, rest)
    → IsEnd bytes rest
unfolding front_of
front-end bytes rest script e =
    subst (IsEnd bytes) (ap (rest_of bytes) e)
    (rest-end bytes (front_from 1 script_start (lines_of bytes)))
