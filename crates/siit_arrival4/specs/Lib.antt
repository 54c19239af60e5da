pub mod Arrived
pub mod Kinds
pub mod Parts
pub mod Unruled
