pub mod BackLemmas
pub mod ArrivalLemmas
pub mod TableLemmas
pub mod SolvedLemmas
