pub mod Lists
pub mod Reading
pub mod Lengths
pub mod Upper6
pub mod Covers6
pub mod Upper4
pub mod Covers4
