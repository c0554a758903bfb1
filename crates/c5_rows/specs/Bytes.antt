-- Which bytes keys, texts and names of tables have.
use Rattle.std.specs.Prelude.{◌≤◌, ◌&&◌, ◌||◌, ◌==◌, ℕ, Bool, List, length, not, nat_le, IsTrue}
use Rattle.std.specs.Prelude.{Result, Ok, Err, if◌then◌else◌}
use Rattle.std.specs.List.{list_all}
use Rattle.c5_rows.specs.declared.names.Bad.{Bad}
use Rattle.c5_rows.specs.declared.names.Bad.TheVariants.{Length, Byte}
use Rattle.c5_rows.specs.Sizes.{max_key_bytes, max_text_bytes, max_name_bytes}

-- the bytes from low to high, both of them included
abbrev pub is_between : ℕ → ℕ → ℕ → Bool
is_between low high byte = nat_le low byte && nat_le byte high

-- printable, and neither a blank nor a quote
abbrev pub is_key_byte : ℕ → Bool
is_key_byte byte = is_between 33 126 byte && not (byte == 34)

-- printable, and no quote
abbrev pub is_text_byte : ℕ → Bool
is_text_byte byte = is_between 32 126 byte && not (byte == 34)

-- a small letter, a digit or an underscore
abbrev pub is_name_byte : ℕ → Bool
is_name_byte byte = is_between 97 122 byte || is_between 48 57 byte || (byte == 95)

-- how many bytes there may be, and which
pub record AreBytes (least most : ℕ) (allowed : ℕ → Bool) (bytes : List ℕ) : Type 0 where
  pub no_shorter : least ≤ length bytes
  pub no_longer : length bytes ≤ most
  pub each : IsTrue (list_all allowed bytes)

-- the bytes of a key
abbrev pub IsKey : List ℕ → Type 0
IsKey = AreBytes 1 max_key_bytes is_key_byte

-- the bytes of a text, which may be empty
abbrev pub IsText : List ℕ → Type 0
IsText = AreBytes 0 max_text_bytes is_text_byte

-- the bytes of a table's name
abbrev pub IsTableName : List ℕ → Type 0
IsTableName = AreBytes 1 max_name_bytes is_name_byte

-- the bytes, or what is wrong with them: their number first
abbrev pub checked_bytes : ℕ → ℕ → (ℕ → Bool) → List ℕ → Result (List ℕ) Bad
checked_bytes least most allowed bytes =
    if nat_le least (length bytes) && nat_le (length bytes) most
    then (if list_all allowed bytes then Ok bytes else Err Byte)
    else Err Length
