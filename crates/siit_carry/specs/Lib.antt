pub mod Captured
pub mod Happenings
pub mod Steps
pub mod ToyLaws
pub mod Toys
