-- What the program prints of itself.
use Rattle.std.specs.Prelude.{ℕ, List, [], ◌∷◌, ◌++◌, codes}

-- lines of a text, each with its line end
abbrev pub lines : List (List ℕ) → List ℕ
lines [] = []
lines (line ∷ rest) = line ++ 10 ∷ lines rest

-- the page that `--help` prints
unfoldable pub help_text : List ℕ
help_text = lines (
    codes "Replays the log of a database's primary on a backup."
    ∷ codes ""
    ∷ codes "usage: c5 COMMAND [OPTIONS] < INPUT"
    ∷ codes ""
    ∷ codes "commands:"
    ∷ codes "  apply      reads a log; prints the rows after it"
    ∷ codes "  primary    reads a script; writes the log of its transactions"
    ∷ codes "  backup     reads a script, a line `log`, a log; prints the replies, then the rows"
    ∷ codes "  clone      reads a script; prints the order of its run, the replies, the rows"
    ∷ codes "  turns      the same, each step in the order of the script's schedule"
    ∷ codes "  gen        reads nothing; runs and replays a script that it makes; prints its totals"
    ∷ codes ""
    ∷ codes "options:"
    ∷ codes "  --threads N    threads of a run, 1 to 16, default 1 (primary, clone)"
    ∷ codes "  --workers N    workers of a replay, 1 to 16, default 1 (backup, clone, turns, gen)"
    ∷ codes "  --count N      transactions to make, 1 to 65536, default 1000 (gen)"
    ∷ codes "  -h, --help     prints this text, and reads nothing"
    ∷ codes "  -V, --version  prints the version, and reads nothing"
    ∷ codes ""
    ∷ codes "An option may be before or after the command, as --threads 4 or --threads=4, and is"
    ∷ codes "given at most once. A value out of its range is refused, also if the command doesn't"
    ∷ codes "use the option."
    ∷ codes ""
    ∷ codes "exit status:"
    ∷ codes "  0  success"
    ∷ codes "  2  bad words"
    ∷ codes "  3  bad script: line L KIND"
    ∷ codes "  4  bad log: at OFFSET KIND"
    ∷ codes "  5  a read failed"
    ∷ codes "  6  a write failed"
    ∷ codes "  7  out of memory"
    ∷ codes "  8  the input is too long"
    ∷ codes "  9  a limit is exceeded"
    ∷ codes ""
    ∷ codes "examples:"
    ∷ codes "  c5 apply < examples/transfers.log"
    ∷ codes "  c5 clone --threads 4 --workers 4 < examples/transfers.c5s"
    ∷ [])

-- the line that `--version` prints
unfoldable pub version_text : List ℕ
version_text = lines (codes "c5 0.1.0" ∷ [])
