mod InstrTypes
mod NestTypes
mod ValidityTests
mod KnownStacks
pub mod FuncTypes
pub mod ModuleExamples
pub mod Nests
mod OpcodeExamples
pub mod Places
mod ProfileExamples
pub mod Quantities
pub mod SameTypes
mod EncodingExamples
mod TypingExamples
mod ValidityExamples
mod EncodingCases
pub mod Encoding
pub mod ValTypes
pub mod ItemLists
pub mod SectionLists
pub mod VectorLists
pub mod JoinedLists
pub mod ValidParts
