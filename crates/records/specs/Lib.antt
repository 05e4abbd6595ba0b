pub mod Lists
pub mod Same
pub mod Moments
pub mod Records
pub mod Contents
pub mod Fault
pub mod Spelling
pub mod Fields
