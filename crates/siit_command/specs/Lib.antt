pub mod Words
pub mod Addresses
pub mod Reading
pub mod ConfigTexts
pub mod Examples
