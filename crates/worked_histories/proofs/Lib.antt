pub mod GrowFailed
mod Histories
mod Safety
