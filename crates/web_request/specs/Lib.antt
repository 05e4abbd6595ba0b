pub mod Asking
pub mod Credentials
pub mod Query
pub mod Targets
pub mod Requests
pub mod Heads
pub mod Refusals
