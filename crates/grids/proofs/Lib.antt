pub mod Told
pub mod Any
pub mod Shapes
pub mod Layers
pub mod Places
pub mod Inside
pub mod Beside
pub mod Marking
