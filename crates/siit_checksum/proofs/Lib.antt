pub mod Residues
pub mod Numbers
pub mod Digits
pub mod Fields
pub mod Moves
