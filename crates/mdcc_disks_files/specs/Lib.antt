pub mod Names
pub mod Unspecified
