pub mod Examples
pub mod Instrumented
pub mod Recordings
pub mod Calls
pub mod WorkedRecordings
