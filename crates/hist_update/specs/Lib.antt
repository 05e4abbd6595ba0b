pub mod Codes
pub mod Outcome
pub mod Updates
pub mod Operating
pub mod Laws
