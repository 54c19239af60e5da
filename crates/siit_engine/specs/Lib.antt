pub mod Placed
pub mod Verdicts
pub mod Placing
pub mod Falling
