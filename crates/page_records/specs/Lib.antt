pub mod Steps
pub mod Kinds
pub mod Records
pub mod Takes
