pub mod Behind
pub mod Items
pub mod Turns
pub mod Channels
