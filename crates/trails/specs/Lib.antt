pub mod Trails
pub mod Standing
