pub mod Across
pub mod Carrying
pub mod Entries
pub mod Examples
pub mod Laws
pub mod Sent
