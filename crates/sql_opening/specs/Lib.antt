pub mod Latest
pub mod Opening
pub mod Renewing
pub mod Again
pub mod Clearing
pub mod Unread
