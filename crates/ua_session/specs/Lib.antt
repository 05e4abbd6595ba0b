pub mod Fault
pub mod Users
pub mod Sessions
pub mod History
