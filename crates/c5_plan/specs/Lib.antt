pub mod Sizes
pub mod Plans
pub mod Written
pub mod Noted
pub mod Searching
