pub mod Lent
pub mod LentOn
pub mod Packets
pub mod Places
pub mod Refused
pub mod Shared
pub mod Splits
pub mod Read
