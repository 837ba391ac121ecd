pub mod Grid
pub mod Inside
pub mod Marks
