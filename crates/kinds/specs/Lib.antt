pub mod Kinds
pub mod Lengths
pub mod Numbers
