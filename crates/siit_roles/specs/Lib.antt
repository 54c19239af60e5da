pub mod Chain
pub mod Roles
pub mod Pool
pub mod Limits
pub mod Examples
