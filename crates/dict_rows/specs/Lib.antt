pub mod Bucket
pub mod Columns
pub mod Reader
pub mod Rows
pub mod Tally
pub mod Words
