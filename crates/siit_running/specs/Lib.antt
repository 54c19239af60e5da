pub mod Answers
pub mod Carrying
pub mod Ends
pub mod Faults
pub mod Inputs
pub mod Looking
pub mod Sources
pub mod Turns
