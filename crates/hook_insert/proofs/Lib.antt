pub mod Accesses
pub mod AddedLocals
pub mod Rounds
pub mod Weightless
pub mod Calls
pub mod Few
pub mod Low
pub mod FlatFunctions
pub mod SameTypes
pub mod FormImports
pub mod Sections
mod Inserted
mod Meters
mod Words
mod EncodedLocals
mod Parts
mod EncodedBodies
mod Encodable
