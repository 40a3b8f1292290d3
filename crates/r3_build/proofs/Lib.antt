mod OneTape
mod OneBuilt
