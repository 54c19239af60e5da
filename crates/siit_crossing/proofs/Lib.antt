pub mod Crossed
pub mod Devices
pub mod Own
pub mod Pairs
pub mod Runs
pub mod Sent
pub mod Turns
