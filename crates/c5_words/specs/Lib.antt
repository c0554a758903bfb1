pub mod Names
pub mod Program
pub mod Meaning
pub mod Texts
