pub mod Whole
pub mod Limits
