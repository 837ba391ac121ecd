pub mod Quotient
pub mod Search
pub mod Survey
