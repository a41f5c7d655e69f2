pub mod Tallies
pub mod Names
pub mod Exact
