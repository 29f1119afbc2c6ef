pub mod Fronts
pub mod InputOrder
pub mod LatestRules
pub mod LongestRule
pub mod RepeatedRows
pub mod RuleLaws
pub mod ShortRules
