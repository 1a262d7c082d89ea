pub mod Indexed
pub mod There
pub mod Read
pub mod Trial
pub mod Verdict
