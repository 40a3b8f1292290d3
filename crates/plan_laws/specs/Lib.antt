pub mod Owners
pub mod TapeOwners
pub mod StepOwners
pub mod Laws
pub mod WorkedOwners
