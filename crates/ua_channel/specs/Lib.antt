pub mod Message
pub mod Fault
pub mod Headers
pub mod Placed
pub mod Taking
pub mod Sending
pub mod Run
