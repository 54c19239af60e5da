pub mod Causes
pub mod Files
pub mod Idents
pub mod Memory
