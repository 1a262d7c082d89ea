pub mod Reply
pub mod Judged
pub mod RulesMet
pub mod Models
pub mod Loads
pub mod Facts
pub mod Bytes
pub mod Loop
pub mod WordTest
pub mod OldTest
pub mod Cases
pub mod Examples
pub mod Witnesses
pub mod Parts
mod Before
mod Former
mod Unqualified
mod Used
mod Entry
mod Four
