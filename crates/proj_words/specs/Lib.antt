pub mod Words
pub mod Views
pub mod Outcomes
pub mod Faults
pub mod Entries
pub mod TrialTexts
pub mod Examples
