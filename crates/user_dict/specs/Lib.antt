pub mod Answers
pub mod Columns
pub mod Dictionaries
pub mod Kept
pub mod Laws
pub mod Outcomes
pub mod Readings
pub mod Rows
