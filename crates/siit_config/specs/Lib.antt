pub mod Texts
pub mod Faults
pub mod Keys
pub mod Devices
pub mod Config
pub mod Laws
pub mod Examples
