pub mod Bases
pub mod Chains
pub mod Entries
pub mod LiveWalks
pub mod Loads
pub mod Passing
pub mod Steps
