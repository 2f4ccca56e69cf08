pub mod Areas
pub mod Calls
pub mod Clusters
pub mod Example
pub mod Refused
pub mod Several
pub mod Turns
