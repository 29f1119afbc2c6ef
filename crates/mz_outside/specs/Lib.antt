pub mod Causes
pub mod FileList
pub mod Front
pub mod Memory
pub mod Plan
pub mod Reading
pub mod Taken
pub mod Written
