pub mod Answers
pub mod Errors
pub mod Laws
pub mod Examples
