pub mod Says
pub mod Kth
