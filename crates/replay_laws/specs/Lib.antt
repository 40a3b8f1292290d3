pub mod Follows
pub mod Stands
pub mod Tapes
pub mod EncodedReplays
