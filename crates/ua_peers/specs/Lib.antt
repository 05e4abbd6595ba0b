pub mod Peers
pub mod Events
pub mod Wires
pub mod Talking
pub mod Calling
