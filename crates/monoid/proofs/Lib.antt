pub mod Deficits
pub mod Sets
pub mod Steps
pub mod Seams
