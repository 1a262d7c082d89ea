pub mod Doors
pub mod Reading
mod Status
