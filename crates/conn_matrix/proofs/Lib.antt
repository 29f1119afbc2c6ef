pub mod ColumnLemmas
pub mod CostSteps
pub mod TableLemmas
