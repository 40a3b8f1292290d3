pub mod Appended
pub mod Encodings
pub mod Placed
pub mod SignedLaws
pub mod SignedSteps
pub mod UnsignedLaws
pub mod UnsignedSteps
mod Worked
