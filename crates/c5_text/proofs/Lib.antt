pub mod Steps
pub mod Loops
pub mod Numbers
pub mod Laws
pub mod Orders
pub mod Heads
pub mod Listings
