pub mod Contents
pub mod Headers
pub mod Lending
pub mod Parts
pub mod Writers
pub mod Laws
