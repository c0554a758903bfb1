pub mod Histories
pub mod Steps
pub mod PartSteps
pub mod Laws
