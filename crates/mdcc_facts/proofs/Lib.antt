pub mod Counting
pub mod Crowding
pub mod Gathered
pub mod Marked
pub mod Unfinished
pub mod Walking
pub mod Weighing
