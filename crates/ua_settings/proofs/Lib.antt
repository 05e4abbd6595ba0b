pub mod Refusals
pub mod Mapped
pub mod Plans
pub mod Sounds
pub mod Tables
pub mod Wrongs
pub mod FileParts
