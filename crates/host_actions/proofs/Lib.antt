pub mod Answering
pub mod Arguments
