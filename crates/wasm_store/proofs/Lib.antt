pub mod FirstSizes
mod Numbers
