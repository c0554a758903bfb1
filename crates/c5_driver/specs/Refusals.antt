-- Why a run ends without its text: the status, and the line that says why.
use Rattle.std.specs.Prelude.{ℕ, List, [], ◌++◌, codes, decimal}
use Rattle.c5_definitions.specs.declared.fault.LogKind.{LogKind}
use Rattle.c5_definitions.specs.declared.fault.LogKind.TheVariants as log_kinds
use Rattle.c5_definitions.specs.declared.script.ScriptKind.{ScriptKind}
use Rattle.c5_definitions.specs.declared.script.ScriptKind.TheVariants as script_kinds
use Rattle.c5_definitions.specs.declared.limits.Excess.{Excess}
use Rattle.c5_definitions.specs.declared.limits.Excess.TheVariants as excesses
use Rattle.c5_driver.specs.declared.status.Status.{Status}
use Rattle.c5_driver.specs.declared.status.Status.TheVariants as statuses
use Rattle.c5_driver.specs.declared.refusal.Refusal.{Refusal}
use Rattle.c5_driver.specs.declared.refusal.Refusal.TheVariants as refusals

-- the status of a refusal
abbrev pub status_of : Refusal → Status
status_of refusals.BadWords = statuses.BadWords
status_of refusals.ReadFault = statuses.ReadFault
status_of refusals.TooLong = statuses.TooLong
status_of refusals.NoMemory = statuses.NoMemory
status_of (refusals.BadScript fault) = statuses.BadScript
status_of (refusals.BadLog fault) = statuses.BadLog
status_of (refusals.Limit excess) = statuses.Limit

-- the end of a line that reports a fault: a blank, the kind, the line's end
abbrev pub log_ending : LogKind → List ℕ
log_ending log_kinds.Magic = codes " magic\n"
log_ending log_kinds.Header = codes " header\n"
log_ending log_kinds.Length = codes " length\n"
log_ending log_kinds.Kind = codes " kind\n"
log_ending log_kinds.Table = codes " table\n"
log_ending log_kinds.Key = codes " key\n"
log_ending log_kinds.Cell = codes " cell\n"
log_ending log_kinds.Order = codes " order\n"
log_ending log_kinds.Stamp = codes " stamp\n"
log_ending log_kinds.Count = codes " count\n"
log_ending log_kinds.End = codes " end\n"
log_ending log_kinds.Cut = codes " cut\n"
log_ending log_kinds.After = codes " after\n"

abbrev pub script_ending : ScriptKind → List ℕ
script_ending script_kinds.Byte = codes " byte\n"
script_ending script_kinds.Quote = codes " quote\n"
script_ending script_kinds.Word = codes " word\n"
script_ending script_kinds.Limit = codes " limit\n"
script_ending script_kinds.Count = codes " count\n"
script_ending script_kinds.Name = codes " name\n"
script_ending script_kinds.Table = codes " table\n"
script_ending script_kinds.Key = codes " key\n"
script_ending script_kinds.Column = codes " column\n"
script_ending script_kinds.WrongType = codes " type\n"
script_ending script_kinds.Number = codes " number\n"
script_ending script_kinds.Unclosed = codes " unclosed\n"

-- the line of a limit
abbrev pub limit_line : Excess → List ℕ
limit_line excesses.Transactions = codes "limit transactions\n"
limit_line excesses.Writes = codes "limit writes\n"
limit_line excesses.Rows = codes "limit rows\n"

-- a place and what is wrong there
abbrev pub place_line : List ℕ → ℕ → List ℕ → List ℕ
place_line start place ending = start ++ decimal place ++ ending

-- the line that reports a refusal; a failed read and running out of memory have none
abbrev pub line_of : Refusal → List ℕ
line_of refusals.BadWords = codes "bad words\n"
line_of refusals.ReadFault = []
line_of refusals.TooLong = codes "too long\n"
line_of refusals.NoMemory = []
line_of (refusals.BadScript fault) =
    place_line (codes "bad script line ") fault.line (script_ending fault.kind)
line_of (refusals.BadLog fault) =
    place_line (codes "bad log at ") fault.offset (log_ending fault.kind)
line_of (refusals.Limit excess) = limit_line excess
