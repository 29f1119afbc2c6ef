pub mod RowLaws
pub mod TallyLemmas
