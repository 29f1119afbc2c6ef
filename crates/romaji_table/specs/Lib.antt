pub mod Columns
pub mod Index
pub mod Inputs
pub mod Rows
