pub mod AtOffset
pub mod Names
