pub mod Nodes
pub mod Represents
pub mod Starting
pub mod Stopping
pub mod Tails
