pub mod Calls
pub mod Returns
pub mod Direct
