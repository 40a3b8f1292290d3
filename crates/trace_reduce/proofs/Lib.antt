mod Firsts
mod Bytes
mod Groups
mod Answers
pub mod Places
mod Ordered
mod Parts
mod Fitting
mod Segments
mod EventSteps
mod Marks
mod Taken
