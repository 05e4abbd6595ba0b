pub mod Appending
pub mod Firsts
pub mod Mapped
pub mod Pairs
