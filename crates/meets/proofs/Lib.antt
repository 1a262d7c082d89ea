pub mod Rows
pub mod Meeting
pub mod Groups
