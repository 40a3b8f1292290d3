mod Instrumented
mod Calls
mod WorkedRecordings
