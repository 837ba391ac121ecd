pub mod Line
pub mod Front
pub mod Filling
pub mod Moving
pub mod Told
