pub mod Adding
pub mod Histories
pub mod Longer
pub mod Prefixes
pub mod Rules
mod Worked
