pub mod Embedding
pub mod Examples
pub mod Faults
