pub mod Needs
mod GrowFailed
mod Tapes
mod Observed
mod WrongTapes
