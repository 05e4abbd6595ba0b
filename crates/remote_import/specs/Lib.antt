pub mod Bringing
pub mod Sessions
pub mod Imports
