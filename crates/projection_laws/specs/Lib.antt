pub mod Projections
pub mod ProjectionLaws
pub mod StoredGraphs
pub mod Filled
pub mod Made
pub mod Histories
pub mod Examples
