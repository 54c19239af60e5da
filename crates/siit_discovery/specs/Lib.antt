pub mod Counting
pub mod Discovery
pub mod Examples
pub mod Refused
pub mod Seen
