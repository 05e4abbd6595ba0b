pub mod Maps
pub mod Orders
pub mod Lawful
pub mod Filling
pub mod Putting
pub mod Telling
pub mod NumbersParts
pub mod VectorParts
