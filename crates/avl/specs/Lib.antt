pub mod Tree
pub mod Laws
pub mod Wrong
