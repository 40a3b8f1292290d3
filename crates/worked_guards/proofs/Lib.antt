mod Guards
mod Rows
