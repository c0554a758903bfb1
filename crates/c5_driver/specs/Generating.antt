-- How each summary ends that `gen` prints.
use Rattle.std.specs.Prelude.{◌≡◌, ◌++◌, ℕ, List, codes}

-- the text has these bytes at its end
pub record EndsWith (ending text : List ℕ) : Type 0 where
  pub before : List ℕ
  pub same : text ≡ before ++ ending

-- the last three lines: there are 64 rows, they add to all money, and all 16 replies saw none of it
-- or all of it
abbrev pub gen_ending : List ℕ
gen_ending = codes "\nrows 64\ntotal 64000\nreads 16 whole 16\n"
