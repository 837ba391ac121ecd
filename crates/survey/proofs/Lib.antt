pub mod Tests
pub mod Order
pub mod Whole
pub mod Finite
pub mod Numbers
pub mod Survey
pub mod Lookups
pub mod Told
