pub mod Walked
pub mod Said
pub mod Gathered
