pub mod Decided
pub mod Places
pub mod Represents
