pub mod CountLemmas
pub mod OutcomeLemmas
pub mod PlaceLemmas
pub mod RowLemmas
