pub mod Tried
pub mod Parts
