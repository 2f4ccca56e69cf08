pub mod Active
pub mod Entries
pub mod Heard
pub mod InCells
pub mod Promises
pub mod Tallies
