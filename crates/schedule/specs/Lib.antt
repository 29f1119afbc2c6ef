pub mod Drafts
pub mod Events
pub mod Examples
pub mod Names
pub mod Readings
pub mod Texts
pub mod Written
