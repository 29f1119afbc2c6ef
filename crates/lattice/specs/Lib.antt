pub mod Begins
pub mod Ends
pub mod Rows
pub mod Runs
