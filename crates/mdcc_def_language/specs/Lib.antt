pub mod Errors
pub mod Header
pub mod Lines
pub mod Report
pub mod Resolve
pub mod Schedule
pub mod Updates
pub mod Words
