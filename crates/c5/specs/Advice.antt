-- What the program says on standard error.
use Rattle.std.specs.Prelude.{ℕ, List, [], codes}
use Rattle.c5_driver.specs.declared.status.Status.{Status}
use Rattle.c5_driver.specs.declared.status.Status.TheVariants as statuses

-- how the line ends for a run whose output doesn't say what went wrong; none for any other
abbrev pub advice_of : Status → List ℕ
advice_of statuses.BadWords = codes "try c5 --help"
advice_of statuses.ReadFault = codes
    "reading standard input failed, so nothing was written; check the input and run it again"
advice_of statuses.WriteFault = codes
    "writing standard output failed, so the result isn't whole; run it again with another output"
advice_of statuses.NoMemory = codes
    "out of memory, so nothing was written; run it again with more memory or a smaller input"
advice_of status = []
