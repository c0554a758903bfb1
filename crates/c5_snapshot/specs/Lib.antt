pub mod Advances
pub mod Loading
