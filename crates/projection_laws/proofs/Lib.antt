pub mod GraphLemmas
pub mod ProjectionLemmas
mod KeptLemmas
pub mod HistoryLemmas
pub mod HeldCommits
pub mod StoredGraphs
pub mod Reached
pub mod Members
mod Bodies
pub mod Rising
pub mod OwnCommits
mod OrderLemmas
mod LastLemmas
