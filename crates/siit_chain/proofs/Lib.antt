pub mod Decimals
pub mod Grown
pub mod Names
pub mod Traces
