pub mod Walks
pub mod Answers
pub mod Safe
pub mod Numbers
