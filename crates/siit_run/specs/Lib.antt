pub mod Ahead
pub mod Examples
pub mod Laws
pub mod Looks
pub mod Runs
