pub mod EscapeLemmas
pub mod OneAnswer
