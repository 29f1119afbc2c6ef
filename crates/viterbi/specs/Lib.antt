pub mod Arrivals
pub mod Back
pub mod Table
