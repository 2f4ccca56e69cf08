pub mod Answers
pub mod Bounds
pub mod Examples
pub mod Living
pub mod Telling
