pub mod Bounds
