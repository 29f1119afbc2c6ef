mod FieldLemmas
mod ScriptLaws
mod SentKeys
pub mod AnswerSteps
mod LineLaws
mod ManifestSteps
mod MemoryLaws
pub mod NameLaws
mod SetNames
mod SetSteps
pub mod SoundLaws
