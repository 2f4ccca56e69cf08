pub mod Completions
pub mod Endings
pub mod Logs
pub mod Readings
