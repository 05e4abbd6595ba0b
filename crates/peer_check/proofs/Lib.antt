pub mod Raising
pub mod BeginningLemmas
pub mod Names
pub mod Hearing
pub mod Outcomes
pub mod Truths
