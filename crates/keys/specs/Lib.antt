pub mod Bindings
pub mod NameRows
pub mod Names
