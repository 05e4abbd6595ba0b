pub mod Texts
pub mod Nodes
pub mod Facts
pub mod Warnings
pub mod Checks
pub mod Stored
