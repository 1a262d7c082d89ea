pub mod Clause4
