-- The binary encoding of modules (Core 1.0, 5).
pub mod Grammar
pub mod Types
pub mod Instructions
pub mod Sections
pub mod Modules
pub mod Encodable
pub mod Forms
pub mod Shortest
pub mod Combinators
pub mod Readers
pub mod ReadModules
pub mod Laws
