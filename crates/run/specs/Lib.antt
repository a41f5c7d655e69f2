pub mod Minutes
pub mod Times
pub mod Keys
pub mod Stretches
pub mod Laws
pub mod Text
