pub mod Listed
pub mod Reading
pub mod Seams
pub mod Laws
pub mod Follows
pub mod Table
pub mod Wrong
