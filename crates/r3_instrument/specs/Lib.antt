pub mod InstrumentedBytes
