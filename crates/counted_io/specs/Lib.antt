pub mod Tally
pub mod Bytes
pub mod Fault
