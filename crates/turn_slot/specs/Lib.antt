pub mod Entries
pub mod Views
pub mod Law
pub mod Passes
