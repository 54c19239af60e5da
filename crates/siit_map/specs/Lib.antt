pub mod Prefixed
pub mod Mapping
pub mod View
pub mod Reversible
