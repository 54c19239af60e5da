pub mod Held
pub mod TurnLaws
