pub mod Bases
pub mod SoundCommands
pub mod SmallCommands
pub mod Replayed
pub mod MadeObjects
pub mod SmallReplays
pub mod StoredReplays
pub mod StreamExamples
