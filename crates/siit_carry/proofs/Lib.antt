pub mod Entering
pub mod Events
pub mod Leaving
pub mod ToyCuts
pub mod Ways
