pub mod Tests
pub mod AllTypes
pub mod Guards
pub mod Rows
pub mod Others
pub mod WorkedGuards
