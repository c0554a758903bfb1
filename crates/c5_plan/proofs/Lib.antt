pub mod Sizing
pub mod Names
pub mod Noting
pub mod Listing
pub mod Ends
