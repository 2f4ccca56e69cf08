pub mod Names
pub mod Readings
pub mod Configuration
pub mod IsConfig
