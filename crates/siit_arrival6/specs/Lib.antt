pub mod Arrived
pub mod Parts
pub mod Kinds
pub mod Sizes
pub mod Unruled
