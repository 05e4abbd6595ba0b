pub mod Readings
pub mod Environments
pub mod Passing
pub mod Run
pub mod Client
pub mod Turns
pub mod Serving
pub mod Conversation
