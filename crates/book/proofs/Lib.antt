pub mod Members
pub mod Order
pub mod Edits
pub mod Places
pub mod Splits
pub mod Read
pub mod Slots
pub mod Calls
