pub mod KeyAnswers
pub mod Settling
pub mod Reports
