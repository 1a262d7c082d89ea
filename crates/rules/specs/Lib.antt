pub mod Subjects
pub mod Order
pub mod Cursor
