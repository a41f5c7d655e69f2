pub mod Balance
pub mod Lists
pub mod Cells
pub mod Views
pub mod Indices
pub mod Folds
pub mod Wrong
