pub mod Tests
pub mod Sets
pub mod Masks
pub mod Bitwise
pub mod Shifts
pub mod Least
pub mod Filling
