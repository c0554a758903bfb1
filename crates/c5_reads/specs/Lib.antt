pub use Rattle.c5_definitions.specs.Answers
pub use Rattle.c5_definitions.specs.Replies
pub mod Sessions
pub mod Looks
pub mod RowLaw
pub mod Reading
pub mod Filling
