pub mod Cuts
pub mod Streams
pub mod Greetings
pub mod Running
pub mod Splits
pub mod ChunksParts
