pub mod Digits
pub mod Records
pub mod Steps
pub mod Walks
pub mod Sections
pub mod Pages
