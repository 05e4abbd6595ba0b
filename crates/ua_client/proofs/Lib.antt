pub mod Canons
pub mod Sizes
pub mod Chunking
pub mod Pieces
pub mod Parts
pub mod Connecting
