pub mod Unkept
pub mod Structure
pub mod Endpoints
pub mod Sessions
pub mod Updates
pub mod Browsing
pub mod Attributes
pub mod History
