pub mod Computing
pub mod EventRows
pub mod FieldCounts
pub mod FieldTexts
pub mod ReadAgain
pub mod ReadEvents
pub mod SplitLines
