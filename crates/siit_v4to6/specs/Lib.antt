pub mod To6
pub mod Heads
pub mod Laws
pub mod Examples
