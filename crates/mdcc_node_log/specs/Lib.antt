pub mod Faults
pub mod Logged
pub mod Nodes
pub mod Opening
pub mod Payloads
pub mod Starting
pub mod Struck
