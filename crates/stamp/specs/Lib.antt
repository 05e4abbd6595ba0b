pub mod Limits
pub mod Fault
pub mod Stamp
pub mod Numbers
pub mod Vector
