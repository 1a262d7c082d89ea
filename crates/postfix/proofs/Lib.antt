pub mod Reducing
pub mod Midway
pub mod Pushes
