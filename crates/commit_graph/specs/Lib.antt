pub mod Graphs
pub mod Nodes
pub mod Marks
pub mod Rows
