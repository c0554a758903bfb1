pub mod Prefixes
pub mod Feeding
pub mod InputRefusals
pub mod LastWriteLemmas
pub mod Passed
pub mod SameTables
pub mod Fronts
pub mod Replays
pub mod ScriptLogs
pub mod RunLogs
pub mod TurnPlaces
pub mod TurnRuns
pub mod Figured
pub mod Summed
pub mod Headlines
mod Unread
