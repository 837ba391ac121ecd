pub mod Sums
pub mod Due
pub mod Along
