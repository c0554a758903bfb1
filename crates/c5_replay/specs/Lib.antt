pub mod Answered
pub mod Parts
pub mod Replays
pub mod Joins
pub mod TurnReplays
pub mod Mirrors
pub mod TurnStates
