pub mod ChoosingLemmas
pub mod PlaceLemmas
