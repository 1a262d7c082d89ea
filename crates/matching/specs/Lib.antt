pub mod Holding
pub mod Matched
