pub mod Moved
pub mod Turns
pub mod Read
pub mod Walked
pub mod Between
