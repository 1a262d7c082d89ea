pub mod Table
pub mod EachByte
pub mod Numbers
