pub mod Icmp
pub mod Errors
pub mod Parts
pub mod Examples
