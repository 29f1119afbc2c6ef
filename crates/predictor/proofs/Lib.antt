pub mod FirstLemmas
pub mod KeptPairs
pub mod FoundWords
