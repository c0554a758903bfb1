pub mod Advice
