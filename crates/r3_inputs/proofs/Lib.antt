pub mod Acceptance
pub mod Refusals
pub mod AnswerLemmas
pub mod Stages
pub mod TextStages
