pub mod WrittenTapes
