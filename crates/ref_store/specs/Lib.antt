pub mod Refs
pub mod Laws
pub mod Pairs
pub mod Rows
