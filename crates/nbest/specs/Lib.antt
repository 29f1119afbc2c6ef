pub mod Chains
pub mod Costs
pub mod Kept
pub mod Lists
pub mod Searches
pub mod Tails
pub mod Weights
