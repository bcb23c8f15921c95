mod Fields
mod Written
mod Places
pub mod TagLists
pub mod TagOrder
