pub mod Sums
pub mod Heads
pub mod Written
pub mod Good
pub mod Packets
pub mod Stays
