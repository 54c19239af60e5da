pub mod Anew
pub mod Answers
pub mod Creating
pub mod Placing
pub mod Unread
