pub mod Numbers
pub mod Line
pub mod Places
pub mod Laws
