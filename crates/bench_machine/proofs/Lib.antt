mod Arguments
mod Positions
mod Causes
