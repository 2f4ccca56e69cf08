pub mod Deltas
pub mod Equal
pub mod Ordered
pub mod Stores
