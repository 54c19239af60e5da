pub mod Appending
pub mod FileWords
pub mod OwnWords
pub mod Disk
