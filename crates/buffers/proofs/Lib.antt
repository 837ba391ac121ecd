pub mod Over
pub mod Numbers
