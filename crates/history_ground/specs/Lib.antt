pub mod Walks
pub mod Histories
pub mod Making
pub mod Heads
pub mod TrueWalks
pub mod Origins
pub mod Before
