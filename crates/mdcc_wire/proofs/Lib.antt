pub mod Counted
pub mod MarksLeft
pub mod Shown
