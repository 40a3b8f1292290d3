mod OneReduced
mod TakenEvents
