pub mod ByteGroups
pub mod Firsts
pub mod Runs
pub mod LimitedTape
pub mod Answers
pub mod Builder
pub mod Reducer
