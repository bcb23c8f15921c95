pub mod Memos
pub mod Pairs
pub mod Examples
