mod Pieces
mod Nests
mod Parts
mod Indices
mod Valid
mod Refusals
mod Accepted
mod Links
mod Fitted
mod Words
mod ShortParts
mod Lengths
mod Short
mod EncodedWords
pub mod HookImports
mod Stores
