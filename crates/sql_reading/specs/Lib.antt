pub mod Walking
pub mod Lacked
pub mod Tables
pub mod Readable
pub mod Connections
