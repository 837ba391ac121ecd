pub mod Tripod
