pub mod Findings
pub mod Valid
pub mod Sound
pub mod Complete
pub mod Exists
pub mod Events
pub mod Examples
