pub mod Beside
pub mod Filled
pub mod Gathered
pub mod Marks
pub mod Sums
pub mod Unseen
pub mod Void
