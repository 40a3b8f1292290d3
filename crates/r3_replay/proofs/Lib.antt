pub mod OneAnswer
pub mod FaultCases
