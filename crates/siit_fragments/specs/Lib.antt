pub mod Pieces
pub mod Covers
pub mod Plans
pub mod Fronts
pub mod Laws
pub mod Examples
