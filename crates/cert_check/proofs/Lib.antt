pub mod OrderLemmas
pub mod WalkLemmas
pub mod TargetLemmas
pub mod ClaimLemmas
pub mod LatticeFacts
