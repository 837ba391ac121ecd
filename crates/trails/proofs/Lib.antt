pub mod Steps26
pub mod Along
