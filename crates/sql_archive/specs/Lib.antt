pub mod Kept
pub mod Files
pub mod Starting
pub mod Ends
