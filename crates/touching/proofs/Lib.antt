pub mod Group
pub mod Passage
pub mod Counting
pub mod Filling
pub mod Looks
pub mod Entry
pub mod Finding
pub mod Answers
