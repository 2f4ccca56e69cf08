pub mod Hashes
pub mod Heads
pub mod Keyed
pub mod KeyTables
pub mod Keys
pub mod Links
pub mod Unresolved
pub mod Walks
