pub mod Verdict
pub mod WordTest
pub mod Reply
pub mod Line
pub mod Promise
pub mod Facts
pub mod Cases
