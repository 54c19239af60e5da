pub mod Rows
pub mod Cases
