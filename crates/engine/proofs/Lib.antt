pub mod AnswerLemmas
pub mod SoundData
pub mod WordSteps
pub mod FileCounts
pub mod IndexCosts
