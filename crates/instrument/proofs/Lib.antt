pub mod Fits
mod Examples
