pub mod GroupLemmas
pub mod IdLemmas
pub mod IdSlots
pub mod JoinLemmas
pub mod LatestLemmas
pub mod NodeLemmas
pub mod PosLemmas
pub mod ShortTexts
