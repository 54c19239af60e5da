pub mod Networks
pub mod Holding
pub mod Crossings
