mod Tables
mod Turns
mod Bodies
mod Silent
mod Joined
mod Lengths
mod Left
pub mod Arriving
