pub mod Fault
pub mod File
pub mod Judging
pub mod Keys
pub mod Place
pub mod Reading
pub mod Settings
pub mod Sound
