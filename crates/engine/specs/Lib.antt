pub mod Answers
pub mod Lists
pub mod Props
pub mod Sets
pub mod Tables
