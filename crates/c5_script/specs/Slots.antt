-- Where the counting of rows keeps the names that it has met.
use Rattle.std.specs.Prelude.{ℕ}

-- places for names: twice as many as the rows that a script may write
abbrev pub slots : ℕ
slots = 131072
