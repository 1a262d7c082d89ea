pub mod Refusal
pub mod Found
pub mod Pairs
pub mod Symbols
pub mod Named
pub mod Options
