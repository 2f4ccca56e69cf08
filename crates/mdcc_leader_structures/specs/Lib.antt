pub mod Fields
pub mod Live
pub mod Marked
