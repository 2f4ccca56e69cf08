pub mod Bytes
pub mod Handed
pub mod Messages
pub mod Recorded
pub mod Sent
