pub mod Nodes
pub mod Rows
