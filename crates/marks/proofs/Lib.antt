pub mod Windows
pub mod RowMarks
