pub mod Counters
pub mod Represents
