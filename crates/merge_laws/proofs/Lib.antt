mod Binding
pub mod ChoiceLemmas
pub mod Parents
pub mod Merging
mod Chains
pub mod Joining
pub mod Bases
mod Plain
pub mod Bringing
mod Untagged
mod Usual
