pub mod Chosen
pub mod Entering
