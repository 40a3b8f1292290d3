mod EndLemmas
mod FileAnswers
mod FileLaws
mod FileSteps
mod ItemLoops
mod ItemReaders
mod LineLemmas
mod LogHeaders
mod Logs
mod PartReaders
mod Shrinking
mod Taken
mod Tapes
mod ValueReaders
pub mod Versions
mod Writable
