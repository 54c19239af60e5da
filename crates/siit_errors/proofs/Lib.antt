pub mod Good
pub mod Right
