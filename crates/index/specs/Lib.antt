pub mod Indexed
pub mod Ways
pub mod Trial
