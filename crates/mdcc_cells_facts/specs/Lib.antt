pub mod Holding
pub mod Stored
