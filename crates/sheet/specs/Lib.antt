pub mod Model
pub mod Each
pub mod Sheet
pub mod Kind
pub mod Record
pub mod Reading
pub mod Decode
