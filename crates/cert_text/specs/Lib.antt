pub mod Answers
pub mod Fields
pub mod Readings
pub mod Texts
pub mod Written
