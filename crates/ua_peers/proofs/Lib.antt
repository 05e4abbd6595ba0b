pub mod Talks
pub mod Delivered
pub mod Joined
pub mod Exchanged
pub mod Talking
pub mod Syncing
pub mod Counts
pub mod PeersParts
