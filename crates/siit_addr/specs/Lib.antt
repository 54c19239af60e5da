pub mod Addresses
pub mod Canonical
pub mod TextExamples
pub mod Texts
pub mod Prefixes
