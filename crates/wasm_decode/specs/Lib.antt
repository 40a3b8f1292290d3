pub mod DecodeResults
pub mod Drafts
