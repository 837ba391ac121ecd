pub mod Steps
pub mod Crossings
pub mod Preference
pub mod Towards
pub mod Lines
pub mod Segment
pub mod Touching
pub mod Decisions
