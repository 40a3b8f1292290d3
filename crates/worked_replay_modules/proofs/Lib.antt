mod Replays
mod Parts
mod WrongReplays
mod Fitting
mod HandmadePart
mod Rests
