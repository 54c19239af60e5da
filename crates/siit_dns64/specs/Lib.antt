pub mod Answers
pub mod Body
pub mod Dns64
pub mod Examples
