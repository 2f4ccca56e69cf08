pub mod Counts
pub mod Encoding
pub mod Marks
pub mod Views
