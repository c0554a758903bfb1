-- The words of a line.
use Rattle.std.specs.Prelude.{ℕ, List}

-- bytes without spaces, or the bytes between two quotes
pub data Word : Type 0 where
  bare : List ℕ → Word
  quoted : List ℕ → Word
