pub mod Alone
pub mod Asked
pub mod ClientsDoor
pub mod Framing
pub mod Spelled
pub mod Compared
