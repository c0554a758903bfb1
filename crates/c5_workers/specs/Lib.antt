pub mod Scheduling
pub mod Schedules
pub mod Tries
pub mod Work
pub mod Left
pub mod Finishing
