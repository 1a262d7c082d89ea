pub mod Names
pub mod Outcomes
pub mod Channels
pub mod Judge
