pub mod Commands
pub mod Completions
