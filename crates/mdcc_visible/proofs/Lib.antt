pub mod Executed
pub mod Shown
