pub mod Owned
pub mod Joined
pub mod Strays
