pub mod Spots
pub mod Cells26
pub mod Accepting
