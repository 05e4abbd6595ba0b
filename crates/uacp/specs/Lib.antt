pub mod Fault
pub mod Greeting
pub mod Chunks
pub mod Stream
pub mod Held
pub mod Run
pub mod Split
