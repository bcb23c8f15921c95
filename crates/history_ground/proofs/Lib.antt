mod Steps
mod Waiting
mod WalkLemmas
pub mod ProjectLemmas
mod MadeHistories
pub mod TakenTurns
mod TakingLemmas
mod HistoryEnds
mod LastNames
mod TrueWalking
pub mod HeadLemmas
mod TrueHeads
mod FirstLookups
pub mod AllProjections
mod Standing
mod Befores
