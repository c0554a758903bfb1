pub use Rattle.c5_rows.specs.Counts
pub mod Adapters
pub mod Memory
pub mod Whole
