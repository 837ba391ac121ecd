pub mod Touching
pub mod Passing
pub mod Listing
pub mod Looking
