pub mod Refusals
pub mod Originals
pub mod Grounds
pub mod Replaying
pub mod Faults
pub mod Planning
pub mod Waited
pub mod Examples
