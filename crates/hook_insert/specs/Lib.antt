pub mod Sites
pub mod AddedLocals
pub mod Rounds
pub mod Functions
pub mod Modules
pub mod Forms
pub mod EncodingLaws
