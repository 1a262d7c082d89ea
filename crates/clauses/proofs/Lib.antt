pub mod ByTables
pub mod AllPairs
