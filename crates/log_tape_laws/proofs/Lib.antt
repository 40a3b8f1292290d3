mod Among
mod Places
mod Finds
mod FittingEffects
pub mod Marks
mod Segments
