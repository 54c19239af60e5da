pub mod To4
pub mod Heads
pub mod Turns
pub mod Laws
pub mod Examples
