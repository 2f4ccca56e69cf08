pub mod Ballots
pub mod Casts
pub mod Decided
pub mod Represents
