pub mod Link
pub mod Memory
pub mod Pauses
pub mod Sockets
pub mod Stored
