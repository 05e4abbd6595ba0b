pub mod Faults
pub mod Asking
pub mod Answers
pub mod Talking
