pub mod Rows
pub mod Words
pub mod Telling
pub mod Imports
pub mod Reading
