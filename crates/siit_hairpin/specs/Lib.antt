pub mod Turn
pub mod Laws
pub mod Examples
