pub mod Summed
mod Calls
