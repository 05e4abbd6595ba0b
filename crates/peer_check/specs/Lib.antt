pub mod Beginning
pub mod Clashes
pub mod Comparing
pub mod Truth
