pub mod Delivering
pub mod Answering
pub mod Joining
pub mod Lengthening
pub mod Dispatching
pub mod ExportAnswers
pub mod Making
pub mod ListLengths
pub mod DiskLists
pub mod Lifting
pub mod TurnHands
pub mod TurnsMade
pub mod EntriesAnswered
pub mod Pieces
pub mod BatchesRun
pub mod Fronts
pub mod BatchesAnswered
mod TrialSteps
mod TrialParts
mod TrialPushes
mod TrialReports
pub mod TwoRuns
