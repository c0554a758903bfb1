-- Numbers of a log, the highest byte first.
use Rattle.std.specs.Prelude.{ℕ, ℤ, List}
use Rattle.std.specs.Int.{w64, cast_signed}
use Rattle.byteorder.specs.Endian.{big_number}

-- the number in the first 4 bytes
unfoldable pub number_32 : List ℕ → ℕ
number_32 bytes = big_number 4 bytes

-- the number in the first 8 bytes
unfoldable pub number_64 : List ℕ → ℕ
number_64 bytes = big_number 8 bytes

-- the number with a sign in the first 8 bytes, as two's complement
unfoldable pub signed_64 : List ℕ → ℤ
signed_64 bytes = cast_signed w64 (number_64 bytes)
