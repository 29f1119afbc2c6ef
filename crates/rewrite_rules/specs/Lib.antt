pub mod Laws
pub mod Newest
pub mod Seen
pub mod Worth
