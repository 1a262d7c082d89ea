pub mod Wanting
pub mod Seen
pub mod Serving
pub mod FirstMissing
