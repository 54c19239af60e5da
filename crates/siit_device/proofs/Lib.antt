pub mod Cuts
pub mod Rows
pub mod Lists
pub mod ErrorKinds
pub mod Read
pub mod Walks
pub mod Lives4
pub mod Lives6
