pub mod LineLaws
pub mod NumberTexts
pub mod OutputLaws
pub mod ReplyLines
pub mod SearchLemmas
pub mod NumberLemmas
pub mod IndexLemmas
pub mod Runs
