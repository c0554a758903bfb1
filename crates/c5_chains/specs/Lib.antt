pub mod Tries
pub mod Chains
pub mod Finds
pub mod Paths
