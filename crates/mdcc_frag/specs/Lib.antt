pub mod Datagrams
pub mod Reading
pub mod Partial
pub mod Joining
pub mod Arrivals
