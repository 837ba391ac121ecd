pub mod Heads
pub mod Venues
pub mod Pairs
pub mod Writing
