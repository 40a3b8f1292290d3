pub mod Budgets
pub mod ByteNumbers
pub mod PlacedBytes
pub mod RenumberedEntries
