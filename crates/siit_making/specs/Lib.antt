pub mod Captures
pub mod Parts
pub mod Through
pub mod Laws
pub mod Crossings
pub mod Examples
