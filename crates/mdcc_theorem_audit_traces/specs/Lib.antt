pub mod Disks
pub mod Traces
