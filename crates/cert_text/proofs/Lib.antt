pub mod LineTexts
pub mod NumberTexts
pub mod ReadAgain
pub mod RiseLemmas
pub mod ValueSteps
