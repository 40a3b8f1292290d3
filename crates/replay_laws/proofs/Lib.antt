mod TapesOfRuns
mod PlannedBinaries
mod Sized
mod Playable
