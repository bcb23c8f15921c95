pub mod TagNames
pub mod Tags
pub mod TagLists
pub mod Laws
pub mod Examples
