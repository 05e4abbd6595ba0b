pub mod Fault
pub mod Plan
pub mod Lent
pub mod Space
pub mod Nodes
pub mod Index
pub mod Attributes
pub mod References
