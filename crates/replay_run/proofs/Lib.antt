mod ShownParts
mod NoTraps
mod Arrivals
mod Extends
mod CallParts
mod WholeRuns
mod Starts
