pub mod Contracts
pub mod After
