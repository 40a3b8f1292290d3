pub mod BuildRefusals
pub mod BuiltReplays
