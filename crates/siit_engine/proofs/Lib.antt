pub mod Sent
pub mod Refused
