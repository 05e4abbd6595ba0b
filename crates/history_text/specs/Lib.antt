pub mod Arrays
pub mod Digits
pub mod Floats
pub mod Guids
pub mod Numbers
pub mod Statuses
pub mod Times
pub mod Values
