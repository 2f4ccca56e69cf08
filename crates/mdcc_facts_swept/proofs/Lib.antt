pub mod Exact
pub mod Sound
pub mod Steps
pub mod Writing
