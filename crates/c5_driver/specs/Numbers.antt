-- The exit statuses of the program.
use Rattle.std.specs.Prelude.{ℕ}
use Rattle.c5_driver.specs.declared.status.Status.{Status}
use Rattle.c5_driver.specs.declared.status.Status.TheVariants as statuses

-- the number of a status
abbrev pub status_number : Status → ℕ
status_number statuses.Ok = 0
status_number statuses.BadWords = 2
status_number statuses.BadScript = 3
status_number statuses.BadLog = 4
status_number statuses.ReadFault = 5
status_number statuses.WriteFault = 6
status_number statuses.NoMemory = 7
status_number statuses.TooLong = 8
status_number statuses.Limit = 9
