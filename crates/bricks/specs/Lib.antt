pub mod Sums
pub mod Bricks
pub mod Rows
pub mod Builds
pub mod Kept
