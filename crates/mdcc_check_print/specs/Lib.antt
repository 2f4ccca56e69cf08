pub mod Printable
pub mod Text
pub mod Writing
