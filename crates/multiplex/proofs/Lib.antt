pub mod Stepping
pub mod Places
pub mod Rounding
pub mod Turning
pub mod Counts
pub mod OwnSteps
pub mod Finding
pub mod Asking
