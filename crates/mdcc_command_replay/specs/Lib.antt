pub mod Refusals
pub mod Runs
pub mod Samples
pub mod Writing
