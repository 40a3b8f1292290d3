mod Refused
pub mod FaultCases
pub mod InputAnswers
pub mod OneResult
