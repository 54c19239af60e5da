pub mod Departed
pub mod Parts
pub mod Kept
