pub mod Marks
pub mod Book
pub mod Answers
pub mod Transactions
