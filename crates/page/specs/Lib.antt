pub mod Reads
pub mod Wholes
