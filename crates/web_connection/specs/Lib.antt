pub mod Access
pub mod Texts
pub mod Status
pub mod Answers
pub mod Sent
