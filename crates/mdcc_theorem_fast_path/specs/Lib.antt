pub mod States
pub mod Opened
pub mod FastPaths
pub mod Accepting
pub mod Splitting
pub mod Example
pub mod Broken
