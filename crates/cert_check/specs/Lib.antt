pub mod Claims
pub mod Edges
pub mod Walks
