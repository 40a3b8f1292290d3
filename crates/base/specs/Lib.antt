pub mod OpcodeTable
