pub mod Outgoing
pub mod Sends
pub mod Shows
