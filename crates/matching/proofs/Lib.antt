pub mod Live
pub mod Holding
pub mod Words
