pub mod Front
pub mod Lines
pub mod Walked
pub mod Frames
pub mod Reading
