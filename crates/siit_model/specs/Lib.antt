pub mod Bytes
pub mod Checksum
pub mod Ipv4
pub mod Ipv6
pub mod Extensions
pub mod Fragments
pub mod Upper
pub mod Examples
