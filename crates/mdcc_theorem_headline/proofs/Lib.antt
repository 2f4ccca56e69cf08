pub mod Commits
pub mod Ends
pub mod Lines
pub mod Reported
pub mod Runs
