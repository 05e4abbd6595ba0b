pub mod Listing
pub mod Values
pub mod Calls
pub mod Front
