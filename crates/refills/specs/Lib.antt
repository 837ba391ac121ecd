pub mod Boxes
pub mod Refills
pub mod Rows
