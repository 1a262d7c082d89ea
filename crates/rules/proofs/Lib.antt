pub mod Decoded
pub mod Groups
pub mod Told
pub mod Walking
