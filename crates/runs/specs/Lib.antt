pub mod Rules
pub mod Runs
pub mod Owing
pub mod Owners
