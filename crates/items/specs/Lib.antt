pub mod Stack
pub mod Channels
