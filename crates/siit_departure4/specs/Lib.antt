pub mod Departed
pub mod Parts
