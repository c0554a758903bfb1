pub mod Behind
pub mod Walking
pub mod Naming
pub mod OnPaths
pub mod PathLoads
