pub mod Workspaces
pub mod Laws
pub mod Views
pub mod Giving
pub mod Examples
