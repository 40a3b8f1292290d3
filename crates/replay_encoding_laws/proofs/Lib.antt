mod Plans
pub mod Instructions
mod Segments
mod Bodies
mod References
pub mod Modules
pub mod Sizes
pub mod Arms
pub mod FittingCode
mod FittingFuncs
pub mod Encodable
pub mod Indices
mod FragmentReferences
mod Declared
mod FittingFragments
mod ReadTapes
mod ShortParts
