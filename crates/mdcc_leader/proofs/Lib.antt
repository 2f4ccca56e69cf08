pub mod Counts
pub mod Keeping
pub mod Lookups
pub mod Promised
pub mod Structured
pub mod Written
