pub mod Integer
pub mod Opcode
pub mod Laws
