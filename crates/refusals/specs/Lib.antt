pub mod Step
pub mod Editions
