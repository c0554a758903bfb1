pub mod LastWrites
pub mod LookLemmas
pub mod OneRow
pub mod AnswerLemmas
pub mod FillLemmas
