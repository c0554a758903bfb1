-- Numbers that are written in words.
use Rattle.std.specs.Prelude.{ℕ, ℤ, ◌+◌, ◌-◌, ◌*◌, ◌^◌, ◌==◌, ◌&&◌, pos, neg_ℤ, Bool, nat_lt}
use Rattle.std.specs.Prelude.{nat_le, List, [], ◌∷◌, length, Option, Some, None, option_and_then}
use Rattle.std.specs.Prelude.{if◌then◌else◌}
use Rattle.std.specs.List.{list_all}
use Rattle.c5_rows.specs.Bytes.{is_between}

-- `0` to `9`
abbrev pub is_digit : ℕ → Bool
is_digit = is_between 48 57

-- the number whose digits are those of n and then these
unfoldable pub digits_after : ℕ → List ℕ → ℕ
digits_after n [] = n
digits_after n (digit ∷ digits) = digits_after (n * 10 + (digit - 48)) digits

-- the number that 1 to 19 digits write
unfoldable pub magnitude_of : List ℕ → Option ℕ
magnitude_of digits = if is_between 1 19 (length digits) && list_all is_digit digits
    then Some (digits_after 0 digits) else None

-- a number below 2^63, and one after a minus up to 2^63
abbrev pub as_positive : ℕ → Option ℤ
as_positive n = if nat_lt n (2 ^ 63) then Some (pos n) else None

abbrev pub as_negative : ℕ → Option ℤ
as_negative n = if nat_le n (2 ^ 63) then Some (neg_ℤ (pos n)) else None

-- the number of 64 bits with a sign that an optional minus and 1 to 19 digits write
unfoldable pub int_of_digits : List ℕ → Option ℤ
int_of_digits [] = None
int_of_digits (first ∷ rest) = if first == 45 then option_and_then as_negative (magnitude_of rest)
    else option_and_then as_positive (magnitude_of (first ∷ rest))

-- the number from 1 to 16 that one or two digits write, the first of them not 0
unfoldable pub turn_number_of : List ℕ → Option ℕ
turn_number_of [] = None
turn_number_of (digit ∷ []) = if is_between 49 57 digit then Some (digit - 48) else None
turn_number_of (ten ∷ digit ∷ []) = if ten == 49 && is_between 48 54 digit
    then Some (10 + (digit - 48)) else None
turn_number_of (ten ∷ digit ∷ other ∷ rest) = None
