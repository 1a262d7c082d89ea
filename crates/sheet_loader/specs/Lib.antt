pub mod Doors
pub mod Reading
