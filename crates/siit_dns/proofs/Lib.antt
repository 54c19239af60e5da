pub mod Items
pub mod NamesRead
pub mod Runs
