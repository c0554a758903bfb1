pub mod TableLemmas
pub mod WriteLemmas
pub mod RowLemmas
pub mod ByteOrder
